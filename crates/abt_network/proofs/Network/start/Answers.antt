-- A start's network is in shape, and reached with no call made.
-- By the contract of the start by value.
use Rattle.std.proofs.Common.{sym, ap, ◌∙◌}
use Rattle.support_rejection.specs.Rejections.{rejection_number}
use Rattle.abt_network.proofs.Answering.{start-number}
use Rattle.abt_network.proofs.Shaping.{started-begun, started-shaped}
use Rattle.abt_network.proofs.Network.start.Goals as goal

pub invariant_of-result : goal.invariant_of-result
invariant_of-result c = record { shaped = started-shaped _ _ _ c.in-Ok.ensures }

pub returns-in-Ok : goal.returns-in-Ok
returns-in-Ok c = record { starts = c.in-Ok.ensures; never_broken = tt; reached = started-begun _ _ _ c.in-Ok.ensures }

pub returns-in-Err : goal.returns-in-Err
returns-in-Err c =
    record {
      starts = c.in-Err.ensures;
      never_broken = λ q. start-number c.args.rule c.args.sheet.now (sym c.in-Err.ensures.number ∙ ap rejection_number q);
      reached = tt;
    }
