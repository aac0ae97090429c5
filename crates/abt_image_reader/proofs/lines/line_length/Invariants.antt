-- `line_length` is how many messages a line has.
-- The invariant: so many are counted, and those of the rest are left.
use Rattle.abt_image_reader.proofs.Chains.{Counting}
use Rattle.abt_image_reader.proofs.lines.line_length.Given as goal

abbrev pub invariant-loop-before : goal.invariant-loop-before
invariant-loop-before l = Counting l.s 0 l.before
