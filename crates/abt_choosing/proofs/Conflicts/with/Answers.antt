-- `with` changes the byte of one agent.
use Rattle.std.proofs.Common.{◌-◌, ◌≡◌, arith}
use Rattle.abt_choosing.proofs.Bytes.{changed-low, changed-high}
use Rattle.abt_choosing.proofs.Conflicts.with.Goals as goal

pub returns-then-k-le8 : goal.returns-then-k-le8
returns-then-k-le8 c =
    λ j l h.
    rw c.with_field.ensures (changed-low c.args.self c.args.k c.args.byte (omega arith) (omega arith) (omega arith) j l)

pub returns-else-k-le8 : goal.returns-else-k-le8
returns-else-k-le8 c =
    λ j l h.
    let e : c.args.k - 8 - 1 ≡ c.args.k - 9 = omega arith in
    rw (c.with_field-else-k-le8.ensures, e) (changed-high c.args.self c.args.k c.args.byte (omega arith) (omega arith) j l)
