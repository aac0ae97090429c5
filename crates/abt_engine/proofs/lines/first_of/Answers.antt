-- The lowest line that has a visit is taken.
use Rattle.abt_packed.proofs.Known.{known-true}
use Rattle.abt_engine.proofs.Ahead.{ahead-next, visit-lowest}
use Rattle.abt_engine.proofs.lines.first_of.Goals as goal

pub one_less-requires : goal.one_less-requires
one_less-requires c = (c.first_digit-to.ensures.2, c.first_digit-to.ensures.3, known-true _ c.first_digit-to.ensures.1)

pub returns : goal.returns
returns c =
    λ quota n high. record {
      high = high;
      some = ahead-next _ _ _ _ _ _ c.first_digit-to.ensures.0 c.one_less.ensures.0;
      least = visit-lowest _ _ _ c.first_digit-to.ensures.0 c.one_less.ensures.0;
    }
