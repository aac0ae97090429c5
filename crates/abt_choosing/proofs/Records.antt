-- The nogoods of a mask and its words, value by value: place v - 1 of the words, where bit v - 1 of the mask says that one is stored.
use Rattle.std.proofs.Common.{None, Some, ℕ, zero, suc, ◌*◌, ◌%◌, ◌^◌, ◌<◌, ◌≡◌, refl, sym, ◌∙◌, true, false, ◌||◌, List, one-mul, arith, bit_or, eqb, length, get_or, set, shl_exact, get_or-set_same, get_or-set_other, eq-eqb, ne_eqb}
use mathlib.Core.Path.{fun_ext}
use mathlib.Core.Bool.{or-true, or-false}
use Rattle.model_base.specs.Bits.{bit}
use Rattle.model_base.specs.Finite.{at, from_one}
use Rattle.model_base.proofs.Bits.{bit-or, bit-pow, bit-above}
use Rattle.model_base.proofs.Search.{at_same, at_other}
use Rattle.model_base.proofs.Tests.{test, eq_test, no-some}
use Rattle.model_agent.specs.Message.{Assignment}
use Rattle.abt_packed.specs.Packed.{assignment}
use Rattle.abt_choosing.specs.Choosing.{nogood_at, nogoods_of}

pub nogood-stored : (nogood_mask : ℕ) (nogoods : List ℕ) (i : ℕ) → bit nogood_mask i ≡ true
    → nogood_at nogood_mask nogoods i ≡ Some (assignment (get_or nogoods i 0))
unfolding nogood_at
nogood-stored nogood_mask nogoods i e = rw (e, nogood_at)

pub nogood-none : (nogood_mask : ℕ) (nogoods : List ℕ) (i : ℕ) → bit nogood_mask i ≡ false → nogood_at nogood_mask nogoods i ≡ None
unfolding nogood_at
nogood-none nogood_mask nogoods i e = rw (e, nogood_at)

-- where one is stored, it is the word at its place
pub stored-word : (nogood_mask : ℕ) (nogoods : List ℕ) (i : ℕ) {lhs : Assignment} → nogood_at nogood_mask nogoods i ≡ Some lhs
    → nogood_at nogood_mask nogoods i ≡ Some (assignment (get_or nogoods i 0))
stored-word nogood_mask nogoods i e =
    test (bit nogood_mask i) (λ t. nogood-stored nogood_mask nogoods i t) (λ t. no-some (sym (nogood-none nogood_mask nogoods i t) ∙ e))

-- there is none beyond the eighth value
pub nogoods-beyond : (nogood_mask : ℕ) (nogoods : List ℕ) (w : ℕ) → nogood_mask < 2 ^ 8 → 8 < w → nogoods_of nogood_mask nogoods w ≡ None
unfolding nogoods_of from_one
nogoods-beyond nogood_mask nogoods zero h l = refl
nogoods-beyond nogood_mask nogoods (suc w) h l = nogood-none nogood_mask nogoods w (bit-above 8 nogood_mask w h (omega arith))

-- ---- one more stored

nogood-same : (s t : ℕ) (l m : List ℕ) (i : ℕ) → bit s i ≡ bit t i → get_or l i 0 ≡ get_or m i 0 → nogood_at s l i ≡ nogood_at t m i
nogood-same s t l m i e g =
    test (bit t i)
    (λ q. rw (nogood-stored s l i (e ∙ q), nogood-stored t m i q, g))
    (λ q. rw (nogood-none s l i (e ∙ q), nogood-none t m i q))

pub nogoods-stored : (nogood_mask : ℕ) (l : List ℕ) (i x : ℕ) → i < 8 → i < length l
    → nogoods_of (bit_or nogood_mask (1 * 2 ^ i % 2 ^ 8)) (set l i x) ≡ at (nogoods_of nogood_mask l) (suc i) (Some (assignment x))
unfolding nogoods_of from_one
nogoods-stored nogood_mask l i x h u = rw (shl_exact {a = 1} 1 i 8 (omega arith) (omega arith), one-mul) (fun_ext λ v. go v)
  where
    bits : (j : ℕ) → bit (bit_or nogood_mask (2 ^ i)) j ≡ bit nogood_mask j || eqb j i
    bits j = bit-or nogood_mask (2 ^ i) j ∙ rw (bit-pow i j)

    go : (v : ℕ) → nogoods_of (bit_or nogood_mask (2 ^ i)) (set l i x) v ≡ at (nogoods_of nogood_mask l) (suc i) (Some (assignment x)) v
    go zero = sym (at_other (nogoods_of nogood_mask l) (suc i) (Some (assignment x)) zero (λ e. omega arith))
    go (suc j) =
        eq_test j i
        (λ e.
        let b : bit (bit_or nogood_mask (2 ^ i)) i ≡ true = rw (eq-eqb i i refl, or-true) at (bits i) in
        rw (e, at_same (nogoods_of nogood_mask l) (suc i) (Some (assignment x)))
        (nogood-stored (bit_or nogood_mask (2 ^ i)) (set l i x) i b ∙ rw (get_or-set_same l i x 0 u)))
        (λ n.
        let b : bit (bit_or nogood_mask (2 ^ i)) j ≡ bit nogood_mask j = rw (ne_eqb j i n, or-false) at (bits j) in
        nogood-same (bit_or nogood_mask (2 ^ i)) nogood_mask (set l i x) l j b (get_or-set_other l i j x 0 n)
        ∙ sym (at_other (nogoods_of nogood_mask l) (suc i) (Some (assignment x)) (suc j) (λ q. n (omega arith))))
