-- `rows` are the rows of all senders: those of the senders below i are there.
use Rattle.std.proofs.Common.{◌-◌, ◌≡◌, length}
use Rattle.abt_image_reader.proofs.Rows.{AllRowed}
use Rattle.abt_image_reader.proofs.lines.rows.Given as goal

abbrev pub invariant-loop-i : goal.invariant-loop-i
invariant-loop-i l = record { long : length l.rows ≡ 12; rowed : AllRowed l.lines l.rows (l.i - 1) }
