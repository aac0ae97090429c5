-- A place is two numbers on both sides of the first colon, a signed number one behind a minus or none.
use Rattle.std.proofs.Common.{ℕ, zero, suc, ◌+◌, ◌-◌, ◌≤◌, ◌<◌, ◌^◌, ◌≡◌, refl, sym, ap, subst, ◌∙◌, true, false, List, [], ◌∷◌, add-one, arith, leb, ℤ, pos, neg_ℤ, ◌-ℤ◌, SFits, of_z, to_z, length, get_or, take, drop, drop_of_length-le, eq-eqb, ne_eqb, lt-ltb, leb-true, T, Some, None}
use mathlib.Core.Bool.{and-false}
use Rattle.model_base.specs.Numerals.{value_from, top, is_number}
use lib.Signed.{mag}
use Rattle.std.proofs.Math.Facts.{sfits_lit}
use mir.Syntax.{w128}
use Rattle.std.proofs.lemmas.Int.{ints, to_z-of_z}
use Rattle.model_base.proofs.Tests.{test, both}
use Rattle.model_text.specs.Words.{is_colon, is_minus, first_at, is_numeral, numeral, before_colon, behind_colon, is_place, has_minus, without_minus, is_signed, signed_numeral}
use Rattle.sheet_text_statements.specs.declared.numbers.Place.{Place}
use Rattle.sheet_text_statements.specs.Parts.{numeral_in, place_in, signed_in}
use Rattle.std.proofs.lemmas.List.{take_rest}
use Rattle.sheet_text_statements.proofs.Numerals.{numeral-none, numeral-some, empty-numeral}

-- ---- places

no-place : (s : List ℕ) → is_place s ≡ false → None ≡ place_in s
unfolding place_in
no-place s e = sym (rw (e, place_in) refl)

pub no-colon : (s : List ℕ) → length s ≤ first_at is_colon s → None ≡ place_in s
unfolding is_place behind_colon
no-colon s e =
    let n : drop (suc (first_at is_colon s)) s ≡ [] = drop_of_length-le s {i = suc (first_at is_colon s)} (omega arith) in
    no-place s (rw (n, empty-numeral) (and-false (is_numeral (before_colon s))))

pub around-colon : (s : List ℕ) (colon : ℕ) → colon ≡ first_at is_colon s
    → (take colon s ≡ before_colon s) × (take (length s - (colon + 1)) (drop (colon + 1) s) ≡ behind_colon s)
unfolding before_colon behind_colon
around-colon s colon e =
    (rw e refl, take_rest s (colon + 1) ∙ ap (λ (k : ℕ). drop k s) (add-one colon ∙ ap suc e))

module _ (s before behind : List ℕ) (x : before ≡ before_colon s) (y : behind ≡ behind_colon s) where
  pub no-agent : None ≡ numeral_in before → None ≡ place_in s
  unfolding is_place
  no-agent e = no-place s (rw (← x, numeral-none before e) refl)

  pub no-value : None ≡ numeral_in behind → None ≡ place_in s
  unfolding is_place
  no-value e = no-place s (rw (← y, numeral-none behind e) (and-false (is_numeral (before_colon s))))

  pub a-place : (r : Place) → Some r.agent ≡ numeral_in before → Some r.value ≡ numeral_in behind → Some r ≡ place_in s
  unfolding is_place place_in
  a-place r a v =
      let A = numeral-some before r.agent a in
      let V = numeral-some behind r.value v in
      let B : is_numeral (before_colon s) ≡ true = rw (← x) A.0 in
      let E : is_numeral (behind_colon s) ≡ true = rw (← y) V.0 in
      let a : r.agent ≡ numeral (before_colon s) = rw (← x) A.1 in
      let v : r.value ≡ numeral (behind_colon s) = rw (← y) V.1 in
      sym (rw (B, E, place_in) (ap Some (rw (a, v) refl)))

module _ (s : List ℕ) where
  pub place-none : None ≡ place_in s → is_place s ≡ false
  unfolding place_in
  place-none e = test (is_place s) (λ t. let q = rw (t, place_in) at e in let z : ⊥ = cc in absurd z) (λ t. t)

  pub place-some : (r : Place) → Some r ≡ place_in s
      → (is_place s ≡ true) × (r.agent ≡ numeral (before_colon s)) × (r.value ≡ numeral (behind_colon s))
  unfolding place_in
  place-some r e =
      test (is_place s)
      (λ t. let q = rw (t, place_in) at e in
      let f : r ≡ record { agent = numeral (before_colon s); value = numeral (behind_colon s) } = cc in
      (t, ap (λ (p : Place). p.agent) f, ap (λ (p : Place). p.value) f))
      (λ t. let q = rw (t, place_in) at e in let z : ⊥ = cc in absurd z)

-- ---- signs

no-signed : (s : List ℕ) → is_signed s ≡ false → None ≡ signed_in s
unfolding signed_in
no-signed s e = sym (rw (e, signed_in) refl)

fits : (z : ℤ) → mag z < 2 ^ 127 → SFits w128 z
fits z h = sfits_lit (subst T (sym (lt-ltb (mag z) (2 ^ 127) h)) tt)

pub plus-kept : (z : ℤ) (k : ℕ) → z ≡ pos k → mag z < 2 ^ 127 → to_z w128 (of_z w128 z) ≡ pos k
plus-kept z k e f = to_z-of_z w128 z (fits z f) ∙ e

neg-is : (k : ℕ) → pos 0 -ℤ pos k ≡ neg_ℤ (pos k)
neg-is k = omega (arith, ints)

neg-small : (k : ℕ) → mag (pos k) < 2 ^ 127 → mag (neg_ℤ (pos k)) < 2 ^ 127
neg-small zero f = f
neg-small (suc k) f = omega (arith, f)

pub minus-kept : (z : ℤ) (k : ℕ) → z ≡ pos k → mag z < 2 ^ 127 → to_z w128 (of_z w128 (pos 0 -ℤ to_z w128 (of_z w128 z))) ≡ neg_ℤ (pos k)
minus-kept z k e f =
    rw (plus-kept z k e f, neg-is k) (to_z-of_z w128 (neg_ℤ (pos k)) (fits (neg_ℤ (pos k)) (neg-small k (rw e at f))))

pub none-first : (s : List ℕ) → length s ≡ 0 → has_minus s ≡ false
unfolding has_minus is_minus
none-first [] l = refl
none-first (b ∷ s) l = absurd (omega arith)

pub minus-away : (s : List ℕ) → has_minus s ≡ true → take (length s - 1) (drop 1 s) ≡ without_minus s
unfolding without_minus
minus-away s m = take_rest s 1 ∙ sym (rw m refl)

pub minus_none : (s : List ℕ) → has_minus s ≡ false → s ≡ without_minus s
unfolding without_minus
minus_none s m = sym (rw m refl)

module _ (s size : List ℕ) (e : size ≡ without_minus s) where
  pub no-size : None ≡ numeral_in size → None ≡ signed_in s
  unfolding is_signed
  no-size n = no-signed s (rw (← e) (numeral-none size n))

  a-size : (k : ℕ) → Some k ≡ numeral_in size → (x : ℤ) → x ≡ signed_numeral s → Some x ≡ signed_in s
  unfolding is_signed signed_in
  a-size k n x f = sym (rw (← e, (numeral-some size k n).0, signed_in) (ap Some (sym f)))

  pub with-minus : has_minus s ≡ true → (k : ℕ) → Some k ≡ numeral_in size → Some (neg_ℤ (pos k)) ≡ signed_in s
  unfolding signed_numeral
  with-minus m k n = a-size k n (neg_ℤ (pos k)) (rw (m, ← e) (ap (λ (j : ℕ). neg_ℤ (pos j)) (numeral-some size k n).1))

  pub with_none : has_minus s ≡ false → (k : ℕ) → Some k ≡ numeral_in size → Some (pos k) ≡ signed_in s
  unfolding signed_numeral
  with_none m k n = a-size k n (pos k) (rw (m, ← e) (ap pos (numeral-some size k n).1))

module _ (s : List ℕ) where
  pub minus-first : get_or s 0 0 ≡ 45 → has_minus s ≡ true
  unfolding has_minus is_minus
  minus-first e = eq-eqb (get_or s 0 0) 45 e

  pub other-first : (get_or s 0 0 ≡ 45 → ⊥) → has_minus s ≡ false
  unfolding has_minus is_minus
  other-first e = ne_eqb (get_or s 0 0) 45 e

  pub signed-none : None ≡ signed_in s → is_signed s ≡ false
  unfolding signed_in
  signed-none e = test (is_signed s) (λ t. let q = rw (t, signed_in) at e in let z : ⊥ = cc in absurd z) (λ t. t)

  pub signed-some : (x : ℤ) → Some x ≡ signed_in s → (is_signed s ≡ true) × (x ≡ signed_numeral s)
  unfolding signed_in
  signed-some x e =
      test (is_signed s)
      (λ t. let q = rw (t, signed_in) at e in let f : x ≡ signed_numeral s = cc in (t, f))
      (λ t. let q = rw (t, signed_in) at e in let z : ⊥ = cc in absurd z)

numeral-small : (s : List ℕ) → is_numeral s ≡ true → mag (pos (numeral s)) < 2 ^ 127
unfolding is_numeral numeral top
numeral-small s e =
    let h = leb-true (value_from 0 s) (2 ^ 64 - 1) (both (is_number s) (leb (value_from 0 s) (2 ^ 64 - 1)) e).1 in omega (arith, h)

-- a signed number is what the code's type holds
pub signed-kept : (s : List ℕ) (x : ℤ) → Some x ≡ signed_in s → to_z w128 (of_z w128 x) ≡ x
unfolding is_signed signed_numeral
signed-kept s x e =
    let S = signed-some s x e in
    let n = numeral-small (without_minus s) S.0 in
    to_z-of_z w128 x (fits x (rw S.1 (test (has_minus s) (λ m. rw m (neg-small (numeral (without_minus s)) n)) (λ m. rw m n))))
