-- The numbers in a line, byte by byte: what is kept so far, with the bytes left, comes to the same.
-- One byte more is one step of the definition.
use Rattle.std.proofs.Common.{ℕ, suc, ◌+◌, ◌≤◌, ◌<◌, ◌≡◌, ap, ◌∙◌, true, false, List, [], ◌∷◌, arith, add-one, eqb, leb, length, get_or, drop, drop-cons, leb-true}
use mathlib.Core.Bool.{and-eq-true_iff}
use lib.Seq.{drop-length}
use Rattle.std.specs.List.{position_or_len}
use Rattle.model_base.proofs.Tests.{test}
use Rattle.gate_script.specs.declared.lines.Numbers.{Numbers}
use Rattle.gate_script.specs.Lines.{end_from, is_digit, with_digit, value_from, number_begins, numbers_after, with_number, with_numbers}

pub digit-bounds : (b : ℕ) → is_digit b ≡ true → (48 ≤ b) × (b ≤ 57)
unfolding is_digit
digit-bounds b e = let h = (and-eq-true_iff (leb 48 b) (leb b 57)).0 e in (leb-true 48 b h.0, leb-true b 57 h.1)

-- ---- the end of a line

pub end-is : (at : ℕ) (bytes : List ℕ) → at + position_or_len (λ b. eqb b 10) bytes ≡ end_from at bytes
unfolding end_from
end-is at [] = omega arith
end-is at (b ∷ bytes) =
    test (eqb b 10)
    (λ e. rw (e, end_from) (omega arith))
    (λ e. rw (e, end_from) (rw (← end-is (suc at) bytes) (omega arith)))

-- ---- byte by byte

pub none_left : (line : List ℕ) (i : ℕ) → i ≤ length line → length line ≤ i → drop i line ≡ []
none_left line i h l = let e : i ≡ length line = omega arith in rw e (drop-length line)

module _ (line : List ℕ) (i : ℕ) (h : i < length line) where
  pub next : drop i line ≡ get_or line i 0 ∷ drop (i + 1) line
  next = rw add-one (drop-cons line i 0 h)

  -- ---- the digits of a number

  pub value-ends : (value : ℕ) → is_digit (get_or line i 0) ≡ false → value_from value (drop i line) ≡ value
  unfolding value_from
  value-ends value e = ap (value_from value) next ∙ rw (e, value_from)

  pub value-goes : (value : ℕ) → is_digit (get_or line i 0) ≡ true
      → value_from value (drop i line) ≡ value_from (with_digit value (get_or line i 0)) (drop (i + 1) line)
  unfolding value_from
  value-goes value e = ap (value_from value) next ∙ rw (e, value_from)

  -- ---- the numbers

  pub number_more : (before : ℕ) (n : Numbers) → number_begins before (get_or line i 0) ≡ true
      → with_numbers (numbers_after before (drop i line)) n
      ≡ with_numbers (numbers_after (get_or line i 0) (drop (i + 1) line)) (with_number (value_from 0 (drop i line)) n)
  unfolding numbers_after with_numbers
  number_more before n e = rw next (rw (e, numbers_after))

  pub no_number : (before : ℕ) (n : Numbers) → number_begins before (get_or line i 0) ≡ false
      → with_numbers (numbers_after before (drop i line)) n ≡ with_numbers (numbers_after (get_or line i 0) (drop (i + 1) line)) n
  unfolding numbers_after
  no_number before n e = rw next (rw (e, numbers_after))

pub all-numbers : (before : ℕ) (n : Numbers) (rest : List ℕ) → rest ≡ [] → with_numbers (numbers_after before rest) n ≡ n
unfolding numbers_after with_numbers
all-numbers before n rest e = rw e
