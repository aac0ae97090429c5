-- `bans` reads the ban table, word by word: the words before that of lower agent i and higher agent j are read.
use Rattle.abt_image_reader.proofs.Tables.{Tabled}
use Rattle.abt_image_reader.proofs.table.bans.Given as goal

abbrev pub invariant-loop-j : goal.invariant-loop-j
invariant-loop-j l = Tabled l.s l.words 1 l.j

abbrev pub invariant-loop-i : goal.invariant-loop-i
invariant-loop-i l = Tabled l.s l.words l.i l.j
