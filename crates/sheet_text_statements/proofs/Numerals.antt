-- Digit by digit, what is read so far says the same number with the digits left. A number only grows with its digits, so one that is too
-- large stays so.
use Rattle.std.proofs.Common.{ℕ, suc, ◌+◌, ◌*◌, ◌-◌, ◌^◌, ◌≤◌, ◌<◌, ◌≡◌, refl, sym, ap, ◌∙◌, true, false, ◌&&◌, List, [], ◌∷◌, add-one, arith, ltb, leb, length, get_or, drop, drop-cons, le-leb, lt-ltb, Some, None}
use mathlib.Core.Bool.{and-false}
use lib.Seq.{drop-length}
use borrow.Author.Tests.{lt-leb}
use Rattle.model_base.specs.Finite.{every}
use Rattle.model_base.specs.Numerals.{is_digit, value_from, top, is_number}
use Rattle.support_buffer.proofs.Numbers.{value_grows}
use Rattle.model_text.specs.Words.{is_numeral, numeral}
use Rattle.model_base.proofs.Tests.{test}
use Rattle.sheet_text_statements.specs.Parts.{numeral_in}

-- ---- a word that is read as a number, or as none

pub no-numeral : (s : List ℕ) → is_numeral s ≡ false → None ≡ numeral_in s
unfolding numeral_in
no-numeral s e = sym (rw (e, numeral_in) refl)

a-numeral : (s : List ℕ) (value : ℕ) → is_numeral s ≡ true → value ≡ numeral s → Some value ≡ numeral_in s
unfolding numeral_in
a-numeral s value e v = sym (rw (e, numeral_in) (ap Some (sym v)))

module _ (s : List ℕ) where
  pub numeral-none : None ≡ numeral_in s → is_numeral s ≡ false
  unfolding numeral_in
  numeral-none e = test (is_numeral s) (λ t. let q = rw (t, numeral_in) at e in let z : ⊥ = cc in absurd z) (λ t. t)

  pub numeral-some : (value : ℕ) → Some value ≡ numeral_in s → (is_numeral s ≡ true) × (value ≡ numeral s)
  unfolding numeral_in
  numeral-some value e =
      test (is_numeral s)
      (λ t. let q = rw (t, numeral_in) at e in let f : value ≡ numeral s = cc in (t, f))
      (λ t. let q = rw (t, numeral_in) at e in let z : ⊥ = cc in absurd z)

-- ---- what is no number

not-digits : (s : List ℕ) → every is_digit s ≡ false → is_numeral s ≡ false
unfolding is_numeral is_number
not-digits s e = rw (e, and-false (ltb 0 (length s)))

too_large : (s : List ℕ) → 2 ^ 64 ≤ value_from 0 s → is_numeral s ≡ false
unfolding is_numeral top
too_large s h = rw (lt-leb (value_from 0 s) (2 ^ 64 - 1) (omega arith), and-false (is_number s))

pub empty-numeral : is_numeral [] ≡ false
unfolding is_numeral is_number
empty-numeral = refl

pub empty-none : (s : List ℕ) → length s ≡ 0 → None ≡ numeral_in s
empty-none [] e = no-numeral [] empty-numeral
empty-none (b ∷ s) e = absurd (omega arith)

-- ---- the digits so far

pub record Counted (s : List ℕ) (value i : ℕ) : Type 0 where
  pub few : i ≤ length s
  pub some : 0 < length s
  pub small : value < 2 ^ 64
  pub says : value_from 0 s ≡ value_from value (drop i s)
  pub digits : every is_digit s ≡ every is_digit (drop i s)

module _ (s : List ℕ) (value i : ℕ) (C : Counted s value i) (l : i < length s) where
  digits-next : every is_digit s ≡ is_digit (get_or s i 0) && every is_digit (drop (suc i) s)
  unfolding every
  digits-next = C.digits ∙ ap (every is_digit) (drop-cons s i 0 l)

  value-next : value_from 0 s ≡ value_from (10 * value + (get_or s i 0 - 48)) (drop (suc i) s)
  unfolding value_from
  value-next = C.says ∙ ap (value_from value) (drop-cons s i 0 l)

  pub low_byte : get_or s i 0 < 48 → is_numeral s ≡ false
  unfolding is_digit
  low_byte h = not-digits s (digits-next ∙ rw (lt-leb 48 (get_or s i 0) h))

  pub high_byte : 57 < get_or s i 0 → is_numeral s ≡ false
  unfolding is_digit
  high_byte h = not-digits s (digits-next ∙ rw (lt-leb (get_or s i 0) 57 h, and-false (leb 48 (get_or s i 0))))

  pub no_room : 2 ^ 64 ≤ 10 * value + (get_or s i 0 - 48) → is_numeral s ≡ false
  no_room h =
      too_large s (omega (arith, value-next, value_grows (10 * value + (get_or s i 0 - 48)) (drop (suc i) s)))

  pub counted-one : 48 ≤ get_or s i 0 → get_or s i 0 ≤ 57 → (new : ℕ) → new ≡ 10 * value + (get_or s i 0 - 48) → new < 2 ^ 64 → Counted s new (i + 1)
  unfolding is_digit
  counted-one k h new e f =
      record {
        few = omega arith;
        some = C.some;
        small = f;
        says = rw (add-one, e) value-next;
        digits = rw add-one (digits-next ∙ rw (le-leb 48 (get_or s i 0) k, le-leb (get_or s i 0) 57 h));
      }

pub counted-all : (s : List ℕ) (value i : ℕ) → Counted s value i → length s ≤ i → Some value ≡ numeral_in s
unfolding is_numeral numeral is_number every value_from top
counted-all s value i C l =
    let e : i ≡ length s = omega (arith, C.few) in
    let none : drop i s ≡ [] = rw e (drop-length s) in
    let w : value_from 0 s ≡ value = C.says ∙ ap (value_from value) none in
    let d : every is_digit s ≡ true = C.digits ∙ ap (every is_digit) none in
    a-numeral s value (rw (lt-ltb 0 (length s) C.some, d, le-leb (value_from 0 s) (2 ^ 64 - 1) (omega (arith, C.small)))) (sym w)
