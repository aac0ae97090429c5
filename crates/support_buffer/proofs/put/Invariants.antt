-- `put` copies: after i turns the first i bytes of s stand in the buffer from `at` on. Assumes nothing.
use Rattle.std.proofs.Common.{◌≡◌, length}
use lib.Seq.{paste}
use Rattle.support_buffer.proofs.put.Given as goal

abbrev pub invariant-loop-i : goal.invariant-loop-i
invariant-loop-i l = (l.out ≡ paste l.initial.out l.at l.s l.i) × (length l.out ≡ length l.initial.out)
