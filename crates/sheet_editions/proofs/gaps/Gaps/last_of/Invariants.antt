-- `Gaps::last_of` goes up along the run.
-- The last place of the whole run is that of the run from where it has come to.
use Rattle.std.proofs.Common.{◌≡◌}
use Rattle.model_base.specs.Bits.{bit}
use Rattle.model_editions.specs.Gaps.{last_of}
use Rattle.sheet_editions.proofs.gaps.Gaps.last_of.Given as goal

abbrev pub invariant-loop-last : goal.invariant-loop-last
invariant-loop-last l = last_of (bit l.self.bits) l.k ≡ last_of (bit l.self.bits) l.last
