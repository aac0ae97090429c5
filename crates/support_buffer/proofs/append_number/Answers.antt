-- The digits that `io` writes are the decimal of the number. Assumes nothing.
use Rattle.std.proofs.Common.{◌≡◌, ap, ◌∙◌, arith, length, take, length-take}
use Rattle.model_base.specs.Decimal.{decimal}
use Rattle.support_buffer.proofs.Digits.{fewest-decimal, digits-fit}
use Rattle.support_buffer.proofs.append_number.Goals as goal

pub returns : goal.returns
returns c =
    let digits : take c.decimal-count.result c.decimal-count.new.out ≡ decimal c.args.n =
    c.decimal-count.ensures.digits ∙ fewest-decimal _ _ c.decimal-count.ensures.len in
    record {
      text = rw digits at c.put_all.ensures;
      short = omega (arith, digits-fit _ _ c.decimal-count.ensures.len (omega arith), ap length digits, length-take c.decimal-count.result c.decimal-count.new.out);
    }
