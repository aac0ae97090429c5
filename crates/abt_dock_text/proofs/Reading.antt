-- What a text says it says alone: its word, its count, and for `plan` the slot of each scanner.
-- The word ends with the first line, the count with the second, and each slot with the line of its scanner.
use Rattle.std.proofs.Common.{◌≡◌, refl, sym, ap, ◌∙◌, true, false, List, [], ◌∷◌, ◌++◌, append_assoc, ℕ, zero, suc, ◌+◌, ◌≤◌, ◌<◌, arith, eqb}
use Rattle.std.proofs.lemmas.List.{append_cancel_left}
use Rattle.model_base.specs.Finite.{every, gather}
use Rattle.model_base.proofs.Tests.{eq_test}
use Rattle.model_network.specs.Run.{Ending, Unsolvable, Plan, Jammed, Open, Broken, ending_word}
use Rattle.model_base.specs.Decimal.{decimal, newline, line_of}
use Rattle.abt_dock_text.specs.Text.{verdict, rounds, scanner, slot, slot_line}
use Rattle.abt_dock_text.specs.Promised.{listed, told_text}
use Rattle.abt_dock_text.proofs.Decimals.{plain, first-line, line-injective}

-- ---- the word, which its first letter tells

letter : ℕ → Ending
letter b =
    elim (eqb b 110) [
      | true ↦ Unsolvable
      | false ↦ elim (eqb b 112) [ true ↦ Plan | false ↦ elim (eqb b 106) [ true ↦ Jammed | false ↦ Open ] ]
    ]

word_in : List ℕ → Ending
word_in [] = Broken
word_in (b ∷ bs) = letter b

word-read : (e : Ending) → word_in (ending_word e) ≡ e
unfolding ending_word word_in letter
word-read Unsolvable = refl
word-read Plan = refl
word-read Jammed = refl
word-read Open = refl
word-read Broken = refl

word-plain : (e : Ending) → every plain (ending_word e) ≡ true
unfolding ending_word every plain
word-plain Unsolvable = refl
word-plain Plan = refl
word-plain Jammed = refl
word-plain Open = refl
word-plain Broken = refl

word-injective : (e f : Ending) (more others : List ℕ) → ending_word e ++ (newline ++ more) ≡ ending_word f ++ (newline ++ others)
    → (e ≡ f) × (more ≡ others)
unfolding newline
word-injective e f more others q =
    let s = first-line (ending_word e) (ending_word f) more others (word-plain e) (word-plain f) q in
    (sym (word-read e) ∙ ap word_in s.0 ∙ word-read f, s.1)

-- ---- the slots

slot-injective : (i v w : ℕ) (more others : List ℕ) → slot_line i v ++ more ≡ slot_line i w ++ others → (v ≡ w) × (more ≡ others)
unfolding slot_line
slot-injective i v w more others e =
    line-injective slot v w more others
    (append_cancel_left (decimal i) _ _
    (append_cancel_left scanner _ _ (sym (behind v more) ∙ e ∙ behind w others)))
  where
    behind : (v : ℕ) (more : List ℕ) → (scanner ++ (decimal i ++ line_of slot v)) ++ more ≡ scanner ++ (decimal i ++ (line_of slot v ++ more))
    behind v more =
        append_assoc scanner (decimal i ++ line_of slot v) more
        ∙ ap (λ (l : List ℕ). scanner ++ l) (append_assoc (decimal i) (line_of slot v) more)

slots-injective : (m k : ℕ) (σ τ : ℕ → ℕ) → gather m k (λ i. slot_line i (σ i)) ≡ gather m k (λ i. slot_line i (τ i))
    → (i : ℕ) → k ≤ i → i < k + m → σ i ≡ τ i
unfolding gather
slots-injective zero k σ τ e i l h = absurd (omega arith)
slots-injective (suc m) k σ τ e i l h =
    let s = slot-injective k (σ k) (τ k) _ _ e in
    eq_test k i (λ q. rw (← q) s.0) (λ n. slots-injective m (suc k) σ τ s.1 i (omega (arith, n)) (omega arith))

-- ---- the text

pub record Alike (n : ℕ) (e f : Ending) (k l : ℕ) (σ τ : ℕ → ℕ) : Type 0 where
  pub word : e ≡ f
  pub made : k ≡ l
  pub slots : f ≡ Plan → (i : ℕ) → 1 ≤ i → i ≤ n → σ i ≡ τ i

pub told-injective : (n : ℕ) (e f : Ending) (k l : ℕ) (σ τ : ℕ → ℕ) → told_text n e k σ ≡ told_text n f l τ → Alike n e f k l σ τ
unfolding told_text listed
told-injective n e f k l σ τ q =
    let w = word-injective e f _ _ (append_cancel_left verdict _ _ q) in
    let c = line-injective rounds k l _ _ w.1 in
    record {
      word = w.0;
      made = c.0;
      slots = λ p i low high. slots-injective n 1 σ τ (rw (w.0, p) at c.1) i low (omega arith);
    }
