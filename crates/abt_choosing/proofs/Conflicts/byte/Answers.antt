-- `byte` is one byte of either word.
use Rattle.std.proofs.Common.{◌-◌, ◌≡◌, sym, ◌∙◌, arith}
use Rattle.abt_packed.specs.Packed.{field}
use Rattle.abt_choosing.proofs.Bytes.{byte_low, byte_high}
use Rattle.abt_choosing.proofs.Conflicts.byte.Goals as goal

pub returns-then-k-le8 : goal.returns-then-k-le8
unfolding field
returns-then-k-le8 c = c.field.ensures ∙ sym (byte_low c.args.self c.args.k (omega arith))

pub returns-else-k-le8 : goal.returns-else-k-le8
unfolding field
returns-else-k-le8 c =
    let e : c.args.k - 8 - 1 ≡ c.args.k - 9 = omega arith in
    rw e at c.field-else-k-le8.ensures ∙ sym (byte_high c.args.self c.args.k (omega arith))
