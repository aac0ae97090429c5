-- With nothing waiting a delivery is not accepted.
use Rattle.std.proofs.Common.{sym, ◌∙◌, arith, ◌≡◌}
use Rattle.abt_dispatch.proofs.Delivering.{nothing-waits}
use Rattle.abt_dispatch.proofs.turns.waits.Goals as goal

pub returns : goal.returns
returns c = λ e. let z : c.digit.result ≡ 0 = grind (arith, e) in nothing-waits _ _ _ c.requires.0.low (sym c.digit.ensures.0 ∙ z)
