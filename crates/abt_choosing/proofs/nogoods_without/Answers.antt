-- `nogoods_without` is the mask of the nogoods that do not name an agent.
-- From the lowest own value up. The invariant: the first i have their bits, and there are no others.
use Rattle.std.proofs.Common.{arith}
use Rattle.abt_choosing.proofs.Spared.{sparing-none, sparing-set, sparing-left}
use Rattle.abt_choosing.proofs.nogoods_without.Goals as goal
use Rattle.abt_choosing.proofs.nogoods_without.Goals.{then-digit-eq0, else-digit-eq0}

pub loop-i-init : goal.loop-i-init
loop-i-init c = sparing-none _ _

pub loop-i-preserved : goal.loop-i-preserved
loop-i-preserved c =
    let loop = c.loop-i in
    elim c.if-digit-eq0.branch [
      | then-digit-eq0 w ↦ rw w.mask-is (sparing-set _ _ _ _ _ (omega arith) c.digit.ensures.0 loop.invariant w.if-digit-eq0.true)
      | else-digit-eq0 w ↦ rw w.mask-is (sparing-left _ _ _ _ _ (omega arith) c.digit.ensures.0 loop.invariant w.if-digit-eq0.false)
    ]
