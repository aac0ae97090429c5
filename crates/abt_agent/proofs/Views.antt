-- The code drops the nogoods that name an agent at another value, and no others.
-- Nogoods agree with the view, so one that names the agent has its old value.
use Rattle.std.proofs.Common.{ℕ, zero, suc, ◌+◌, ◌^◌, ◌<◌, ◌≤◌, ◌≡◌, refl, sym, ◌∙◌, true, false, not, ◌||◌, List, lt_of_le_of_lt, arith, bit_and, eqb, leb, get_or, eq-eqb, ne_eqb, leb-true, leb-false}
use mathlib.Core.Path.{fun_ext}
use mathlib.Core.Bool.{or-true}
use lib.Bits.{and_le_l}
use Rattle.model_base.specs.Bits.{bit}
use Rattle.model_base.specs.Finite.{from_one}
use Rattle.model_base.proofs.Tests.{test}
use Rattle.model_base.proofs.Bits.{bit-above, bit-and}
use Rattle.model_sheet.specs.Problem.{max_domain}
use Rattle.model_agent.specs.Message.{Assignment, known}
use Rattle.model_agent.specs.Receiving.{keep_if}
use Rattle.model_agent.specs.Shape.{max_named}
use Rattle.model_base.specs.Sets.{mask_from}
use Rattle.abt_packed.specs.Packed.{assignment}
use Rattle.abt_choosing.specs.Choosing.{nogood_at, nogoods_of, Coherent}
use Rattle.abt_choosing.specs.declared.AgentConfig.{AgentConfig}
use Rattle.abt_agent.specs.Parts.{keeping}
use Rattle.abt_packed.proofs.Known.{known-true}
use Rattle.model_base.proofs.Masks.{mask-bit}
use Rattle.abt_choosing.proofs.Spared.{spares}
use Rattle.abt_choosing.proofs.Records.{nogood-stored, nogood-none}

module _ (own : AgentConfig) (view : Assignment) (old : ℕ) (nogoods : List ℕ) (k v : ℕ) (c : Coherent own view (nogoods_of old nogoods))
    (small : old < 2 ^ 8) (lo : 1 ≤ k) (hi : k ≤ 16) where
  -- the value of agent k in the nogood at place i
  abbrev value_at : ℕ → ℕ
  value_at i = assignment (get_or nogoods i 0) k

  -- .. is that of the view
  agreed-at : (i : ℕ) → i < 8 → bit old i ≡ true → known (value_at i) ≡ true → value_at i ≡ view k
  unfolding nogoods_of from_one max_domain max_named
  agreed-at i h e n = c.agreed (suc i) (assignment (get_or nogoods i 0)) (omega arith) h (nogood-stored old nogoods i e) k lo hi n

  module _ (nogood_mask : ℕ) (fits : nogood_mask < 2 ^ 8)
      (kept : (i : ℕ) → i < 8 → bit old i ≡ true → bit nogood_mask i ≡ not (known (value_at i)) || eqb (value_at i) v)
      (gone : (i : ℕ) → i < 8 → bit old i ≡ false → bit nogood_mask i ≡ false) where
    kept_at : (i : ℕ) → nogood_at nogood_mask nogoods i ≡ keeping k v (nogood_at old nogoods i)
    unfolding keeping keep_if
    kept_at i =
        test (leb 8 i)
        (λ t.
        let h = leb-true 8 i t in
        rw (nogood-none nogood_mask nogoods i (bit-above 8 nogood_mask i fits h), nogood-none old nogoods i (bit-above 8 old i small h)))
        (λ t.
        let h = leb-false 8 i t in
        test (bit old i)
        (λ e.
        rw (nogood-stored old nogoods i e)
        (test (not (known (value_at i)) || eqb (value_at i) v)
        (λ u. rw (u, nogood-stored nogood_mask nogoods i (kept i h e ∙ u)))
        (λ u. rw (u, nogood-none nogood_mask nogoods i (kept i h e ∙ u)))))
        (λ e. rw (nogood-none old nogoods i e, nogood-none nogood_mask nogoods i (gone i h e))))

    kept-all : nogoods_of nogood_mask nogoods ≡ (λ w. keeping k v (nogoods_of old nogoods w))
    unfolding nogoods_of from_one keeping
    kept-all = fun_ext λ w. go w
      where
        go : (w : ℕ) → nogoods_of nogood_mask nogoods w ≡ keeping k v (nogoods_of old nogoods w)
        go zero = refl
        go (suc i) = kept_at i

  -- ---- the code's ways

  -- the value stays
  pub kept_same : view k ≡ v → nogoods_of old nogoods ≡ (λ w. keeping k v (nogoods_of old nogoods w))
  kept_same e =
      kept-all old small
      (λ i h b. b ∙ test (known (value_at i))
      (λ n. rw (eq-eqb (value_at i) v (agreed-at i h b n ∙ e), or-true))
      (λ n. rw n))
      (λ i h b. b)

  -- there was none
  pub kept_new : view k ≡ 0 → nogoods_of old nogoods ≡ (λ w. keeping k v (nogoods_of old nogoods w))
  kept_new e =
      kept-all old small
      (λ i h b. b ∙ test (known (value_at i))
      (λ n. absurd (omega (arith, known-true (value_at i) n, agreed-at i h b n)))
      (λ n. rw n))
      (λ i h b. b)

  -- it changes
  pub kept-other : (mask : ℕ) → (view k ≡ v → ⊥) → mask ≡ mask_from (spares nogoods k) 1 8
      → nogoods_of (bit_and old mask) nogoods ≡ (λ w. keeping k v (nogoods_of old nogoods w))
  kept-other mask n m =
      kept-all (bit_and old mask) (lt_of_le_of_lt (and_le_l old mask) small)
      (λ i h b. bit-and old mask i ∙ rw (b, m, mask-bit (spares nogoods k) 1 8 i h) (spared i h b))
      (λ i h b. bit-and old mask i ∙ rw b)
    where
      spared : (i : ℕ) → i < 8 → bit old i ≡ true → spares nogoods k (1 + i) ≡ not (known (value_at i)) || eqb (value_at i) v
      spared i h b =
          let e : 1 + i ≡ suc i = omega arith in
          rw e
          (test (known (value_at i))
          (λ t. rw (t, ne_eqb (value_at i) v (λ u. n (sym (agreed-at i h b t) ∙ u))))
          (λ t. rw t))
