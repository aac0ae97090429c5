-- `with_field` changes one field of a word.
-- The old one is taken out and the new one put in.
use Rattle.std.proofs.Common.{◌*◌, ◌-◌, ◌/◌, ◌%◌, ◌^◌, ◌≡◌, refl, one-mul, arith, shl_exact}
use Rattle.abt_packed.proofs.Fields.{Exchange, exchange, masked, room}
use Rattle.abt_packed.proofs.with_field.Given.{Over}
use Rattle.abt_packed.proofs.with_field.Goals as goal
use Rattle.abt_packed.proofs.with_field.Goals.{Start}

-- the mask of one field
ones : (g : Over) → Start g → 1 * 2 ^ g.row.BITS % 2 ^ 64 ≡ 2 ^ g.row.BITS
ones g c = rw (shl_exact {a = 1} 1 g.row.BITS 64 (omega arith) (omega (arith, c.requires.1)), one-mul) refl

changed : (g : Over) (c : Start g)
    → Exchange g.row.BITS (g.row.BITS * (c.args.k - 1)) c.args.x c.args.v (c.args.x / 2 ^ (g.row.BITS * (c.args.k - 1)) % 2 ^ g.row.BITS)
changed g c = exchange _ _ _ _ _ (omega arith) c.requires.3 (room _ _ c.requires.0 c.requires.2) refl

pub overflow_add-result : goal.overflow_add-result
overflow_add-result g c =
    record { fits = rw (ones g c, masked g.row.BITS (g.row.BITS * (c.args.k - 1)) c.args.x (room _ _ c.requires.0 c.requires.2)) (changed g c).holds }

pub returns : goal.returns
returns g c = rw (ones g c, masked g.row.BITS (g.row.BITS * (c.args.k - 1)) c.args.x (room _ _ c.requires.0 c.requires.2)) (changed g c).is
