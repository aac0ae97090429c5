-- The mask of the nogoods that do not name an agent, as the loop builds it: from the lowest own value up, a bit each.
use Rattle.std.proofs.Common.{ℕ, suc, pred, ◌+◌, ◌*◌, ◌%◌, ◌^◌, ◌<◌, ◌≡◌, refl, ◌≢◌, Bool, true, false, not, List, bit_or, get_or, eq-eqb, ne_eqb}
use Rattle.model_agent.specs.Message.{known}
use Rattle.model_base.specs.Sets.{mask_from}
use Rattle.abt_packed.specs.Packed.{assignment}
use Rattle.abt_packed.proofs.Known.{unknown}
use Rattle.model_base.proofs.Masks.{mask-up}

-- the nogood of own value v does not name agent k
abbrev pub spares : List ℕ → ℕ → ℕ → Bool
spares nogoods k v = not (known (assignment (get_or nogoods (pred v) 0) k))

pub sparing-none : (nogoods : List ℕ) (k : ℕ) → 0 ≡ mask_from (spares nogoods k) 1 0
unfolding mask_from
sparing-none nogoods k = refl

-- one nogood more, whose digit k is u
module _ (nogoods : List ℕ) (k i mask u : ℕ) (few : i < 8) (is : u ≡ assignment (get_or nogoods i 0) k)
    (sofar : mask ≡ mask_from (spares nogoods k) 1 i) where
  pub sparing-set : u ≡ 0 → bit_or mask (1 * 2 ^ i % 2 ^ 8) ≡ mask_from (spares nogoods k) 1 (i + 1)
  sparing-set e =
      let b : spares nogoods k (suc i) ≡ true = rw (← is, unknown u) (eq-eqb u 0 e) in
      rw (mask-up (spares nogoods k) i few, b, sofar)

  pub sparing-left : u ≢ 0 → mask ≡ mask_from (spares nogoods k) 1 (i + 1)
  sparing-left n =
      let b : spares nogoods k (suc i) ≡ false = rw (← is, unknown u) (ne_eqb u 0 n) in
      rw (mask-up (spares nogoods k) i few, b) sofar
