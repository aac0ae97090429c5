-- One delivery is the work once; a refused one hands back what was given. And the claims.
use Rattle.std.proofs.Common.{sym}
use Rattle.abt.proofs.Delivering.{delivered, rejected, stood, some-number, none-number}
use Rattle.abt.proofs.Promises.{delivery_stands, delivery_promised}
use Rattle.abt.proofs.deliver.Goals as goal

pub returns-then-is_some : goal.returns-then-is_some
returns-then-is_some c =
    let w = c.work-answer.ensures.works_as in
    let D = rejected _ _ _ c.work-answer.result w (some-number _ (sym c.if-is_some.ensures)) in
    let E = stood _ _ _ c.work-answer.result w in
    record {
      delivers_as = D;
      rounds_value = E;
      promised = delivery_promised _ _ _ _ _ _ _ D E;
      stands = delivery_stands _ _ _ _ _ D;
    }

pub returns-else-is_some : goal.returns-else-is_some
returns-else-is_some c =
    let w = c.work-answer.ensures.works_as in
    let D = delivered _ _ _ c.work-answer.result w (none-number _ (sym c.if-is_some.ensures)) in
    let E = stood _ _ _ c.work-answer.result w in
    record {
      delivers_as = D;
      rounds_value = E;
      promised = delivery_promised _ _ _ _ _ _ _ D E;
      stands = delivery_stands _ _ _ _ _ D;
    }
