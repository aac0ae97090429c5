-- `read_lines` says of each line how many messages it has, and where they stand.
-- The invariant: so many lines are looked at, and the next one's messages stand from `start` on.
use Rattle.abt_image_reader.proofs.Laying.{Laying}
use Rattle.abt_image_reader.proofs.lines.read_lines.Given as goal

abbrev pub invariant-loop-k : goal.invariant-loop-k
invariant-loop-k l = Laying l.s l.n l.lines l.start l.k
