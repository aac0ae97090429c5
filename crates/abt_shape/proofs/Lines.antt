-- A row of digits cut off after the twelfth, less the sender's own digit, has the digits of the sender's channels and no other.
use Rattle.std.proofs.Common.{ℕ, zero, suc, ◌%◌, ◌^◌, ◌≤◌, ◌≡◌, refl, sym, ◌∙◌, Bool, true, false, arith, leb, leb-true, leb-false}
use mathlib.Core.Bool.{false≢true}
use Rattle.model_base.specs.Finite.{at, from_one}
use Rattle.model_base.proofs.Tests.{test, eq_test}
use Rattle.model_base.proofs.Search.{at_same, at_other}
use Rattle.abt_packed.specs.Packed.{assignment}
use Rattle.abt_packed.proofs.Digits.{cut-before, cut-from}
use Rattle.model_network.specs.Lines.{is_channel}
use Rattle.abt_shape.proofs.Numbering.{ends, to-channel}

-- ---- the row of sender i

row_at : (x i j : ℕ) → is_channel i j ≡ true → assignment (x % 16 ^ 12) j ≡ assignment x j
row_at x i j e = cut-before 12 x j (ends i j e).to_high

row-beyond : (x i j : ℕ) → 1 ≤ i → i ≤ 12 → (i ≡ j → ⊥) → is_channel i j ≡ false → assignment (x % 16 ^ 12) j ≡ 0
unfolding assignment from_one
row-beyond x i zero l h n e = refl
row-beyond x i (suc j) l h n e =
    test (leb (suc j) 12)
    (λ t. let f = to-channel i (suc j) l h (omega arith) (leb-true (suc j) 12 t) n in absurd (false≢true (sym e ∙ f)))
    (λ t. cut-from 12 x (suc j) (leb-false (suc j) 12 t))

pick : (b : Bool) (x : ℕ) {y : ℕ} → (b ≡ true → y ≡ x) → (b ≡ false → y ≡ 0) → y ≡ elim b [ true ↦ x | false ↦ 0 ]
pick true x f g = f refl
pick false x f g = g refl

pub lines_are : (row i r : ℕ) → 1 ≤ i → i ≤ 12 → assignment r ≡ at (assignment (row % 281474976710656)) i 0
    → (j : ℕ) → assignment r j ≡ elim (is_channel i j) [ true ↦ assignment row j | false ↦ 0 ]
lines_are row i r l h e j =
    rw e
    (pick (is_channel i j) (assignment row j)
    (λ t. at_other (assignment (row % 16 ^ 12)) i 0 j (λ q. (ends i j t).apart (sym q)) ∙ row_at row i j t)
    (λ t. eq_test j i
    (λ q. rw q (at_same (assignment (row % 16 ^ 12)) i 0))
    (λ n. at_other (assignment (row % 16 ^ 12)) i 0 j n ∙ row-beyond row i j l h (λ q. n (sym q)) t)))
