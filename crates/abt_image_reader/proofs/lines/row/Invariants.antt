-- `row` has as digit j how many messages wait for receiver j: the digits of the receivers before j are there.
use Rattle.abt_image_reader.proofs.Rows.{Rowed}
use Rattle.abt_image_reader.proofs.lines.row.Given as goal

abbrev pub invariant-loop-j : goal.invariant-loop-j
invariant-loop-j l = Rowed l.lines l.i l.word l.j
