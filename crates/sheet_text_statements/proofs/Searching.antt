-- A search from the front finds where the first byte that passes stands. So the library's words say it too.
use Rattle.std.proofs.Common.{ℕ, suc, ◌≤◌, ◌<◌, ◌≡◌, refl, sym, ◌∙◌, Bool, true, false, List, [], ◌∷◌, arith, length, ltb, ltb-true, ltb-false, Some, None, position}
use Rattle.std.specs.List.{position_or_len}
use Rattle.std.proofs.lemmas.List.Recursion.{is_position_or_len}
use Rattle.model_base.proofs.Tests.{test}
use Rattle.model_text.specs.Words.{first_at}

pub first-here : (p : ℕ → Bool) (b : ℕ) (s : List ℕ) → p b ≡ true → first_at p (b ∷ s) ≡ 0
unfolding first_at
first-here p b s e = rw (e, first_at)

pub first-later : (p : ℕ → Bool) (b : ℕ) (s : List ℕ) → p b ≡ false → first_at p (b ∷ s) ≡ suc (first_at p s)
unfolding first_at
first-later p b s e = rw (e, first_at)

pub first-within : (p : ℕ → Bool) (s : List ℕ) → first_at p s ≤ length s
unfolding first_at
first-within p [] = omega arith
first-within p (b ∷ s) =
    test (p b)
    (λ e. rw (first-here p b s e) (omega arith))
    (λ e. rw (first-later p b s e) (omega (arith, first-within p s)))

-- ---- as the library says it

first-position : (p : ℕ → Bool) (s : List ℕ) → first_at p s ≡ position_or_len p s
unfolding first_at
first-position p s =
    is_position_or_len (first_at p) p refl
    (λ b t. test (p b) (λ e. rw (e, first_at) refl) (λ e. rw (e, first_at) (omega arith))) s

pub length-first : (p : ℕ → Bool) (s : List ℕ) (n : ℕ) → n ≡ position_or_len p s → n ≡ first_at p s
length-first p s n e = e ∙ sym (first-position p s)

module _ (p : ℕ → Bool) (s : List ℕ) where
  pub position-some : (i : ℕ) → Some i ≡ position p s → (i ≡ first_at p s) × (i < length s)
  position-some i e =
      test (ltb (position_or_len p s) (length s))
      (λ t.
      let q = rw t at e in
      let f : i ≡ position_or_len p s = cc in
      (f ∙ sym (first-position p s), omega (arith, f, ltb-true (position_or_len p s) (length s) t)))
      (λ t. let q = rw t at e in let z : ⊥ = cc in absurd z)

  pub position-none : None ≡ position p s → length s ≤ first_at p s
  position-none e =
      test (ltb (position_or_len p s) (length s))
      (λ t. let q = rw t at e in let z : ⊥ = cc in absurd z)
      (λ t. omega (arith, ltb-false (position_or_len p s) (length s) t, first-position p s))
