-- A sender's row of counts, less the digits that are no channel's, is what it holds for each receiver; nothing waits where it is 0.
use Rattle.std.proofs.Common.{ℕ, zero, suc, ◌+◌, ◌-◌, ◌^◌, ◌≤◌, ◌<◌, Bool, true, false, ◌≡◌, sym, ap, ◌∙◌, ◌≢◌, List, arith, eqb, leb, length, get_or, set, length-set, eqb-true, eq-eqb, leb-true, leb-false}
use Rattle.model_base.specs.Finite.{from_one, all_to}
use Rattle.model_base.proofs.Tests.{test, eq_test}
use Rattle.model_base.proofs.Arrays.{get_d_past}
use Rattle.model_base.proofs.Peeling.{same_test}
use Rattle.model_base.proofs.Search.{all_to-at, to-all_to}
use Rattle.model_sheet.specs.Problem.{max_agents}
use Rattle.model_agent.specs.Message.{nobody}
use Rattle.model_agent.specs.Shape.{max_named}
use Rattle.abt_packed.specs.Packed.{digit, assignment}
use Rattle.abt_packed.proofs.Digits.{nobody-assigned}
use Rattle.abt_packed.proofs.Wordwise.{zero-digits}
use Rattle.abt_record.specs.Abstract.{is_channel, row_of}
use Rattle.abt_shape.proofs.Numbering.{ends}
use Rattle.abt_record_laws.specs.Held.{held_at, Clean}
use Rattle.abt_record_laws.proofs.Changes.{row_is, row_same, row_other}

-- ---- rows made clean

-- what `lines_of` ensures of its answer r
abbrev pub Lines : List ℕ → ℕ → ℕ → Type 0
Lines counts m r =
    (j : ℕ) → assignment r j ≡ (elim (is_channel (m + 1) j) [ true ↦ assignment (get_or counts m 0) j | false ↦ 0 ])

-- nobody is beyond 12
held-few : (counts : List ℕ) (i j : ℕ) → 12 < j → held_at counts i j ≡ 0
unfolding held_at
held-few counts i j h = test (is_channel i j) (λ t. absurd (omega (arith, (ends i j t).to_high))) (λ t. rw (t, held_at))

-- the first m rows are clean
pub record Cleaning (counts rows : List ℕ) (m : ℕ) : Type 0 where
  pub high : m ≤ 12
  pub width : length rows ≡ 12
  pub done : (i j : ℕ) → 1 ≤ i → i ≤ m → row_of rows i j ≡ held_at counts i j
  pub ahead : (i : ℕ) → m < i → row_of rows i ≡ row_of counts i

pub one-cleaned : (counts rows : List ℕ) (m r : ℕ) → Cleaning counts rows m → m < 12 → Lines rows m r → Cleaning counts (set rows m r) (m + 1)
unfolding held_at
one-cleaned counts rows m r c h f =
    let k : m + 1 - 1 ≡ m = omega arith in
    record {
      high = omega arith;
      width = rw length-set c.width;
      done = λ i j l u. eq_test i (m + 1)
          (λ e. rw (e, here, f j) (ap {B = ℕ} (λ (g : ℕ → ℕ). elim (is_channel (m + 1) j) [ true ↦ g j | false ↦ 0 ])
          (ap (λ (x : ℕ). assignment (get_or rows x 0)) (sym k) ∙ sym (row_is rows (m + 1) (omega arith)) ∙ c.ahead (m + 1) (omega arith))))
          (λ n. ap (λ (g : ℕ → ℕ). g j) (there i n) ∙ c.done i j l (omega (arith, n)));
      ahead = λ i u. there i (λ e. omega arith) ∙ c.ahead i (omega arith);
    }
  where
    here : row_of (set rows m r) (m + 1) ≡ assignment r
    here = let k : m + 1 - 1 ≡ m = omega arith in rw k at (row_same rows (m + 1) r (omega arith) (rw c.width (omega arith)))

    there : (i : ℕ) → i ≢ m + 1 → row_of (set rows m r) i ≡ row_of rows i
    there i n = let k : m + 1 - 1 ≡ m = omega arith in rw k at (row_other rows (m + 1) r (omega arith) i n)

-- there are no other senders
row-none : (rows : List ℕ) (i j : ℕ) → length rows ≡ 12 → (1 ≤ i → i ≤ 12 → ⊥) → row_of rows i j ≡ 0
unfolding row_of from_one nobody
row-none rows zero j e n = rw nobody-assigned
row-none rows (suc i) j e n =
    test (leb 12 i)
    (λ t. rw (get_d_past rows i 0 (rw e (leb-true 12 i t)), nobody-assigned))
    (λ t. let h = leb-false 12 i t in absurd (n (omega arith) (omega arith)))

held_none : (counts : List ℕ) (i j : ℕ) → (1 ≤ i → i ≤ 12 → ⊥) → held_at counts i j ≡ 0
unfolding held_at
held_none counts i j n =
    test (is_channel i j) (λ t. let b = ends i j t in absurd (n b.from_low b.from-high)) (λ t. rw (t, held_at))

pub all-cleaned : (counts rows : List ℕ) (m : ℕ) → Cleaning counts rows m → 12 ≤ m → (i j : ℕ) → row_of rows i j ≡ held_at counts i j
all-cleaned counts rows m c h i j =
    test (leb 1 i)
    (λ s. test (leb i 12)
    (λ t. c.done i j (leb-true 1 i s) (omega (arith, leb-true i 12 t)))
    (λ t. let n = leb-false i 12 t in row-none rows i j c.width (λ _ u. omega arith) ∙ sym (held_none counts i j (λ _ u. omega arith))))
    (λ s. let n = leb-false 1 i s in row-none rows i j c.width (λ l _. omega arith) ∙ sym (held_none counts i j (λ l _. omega arith)))

-- ---- what waits

-- a word names nobody exactly if it is 0
word_none : (r : ℕ) → r < 2 ^ 64 → eqb r 0 ≡ all_to max_named (λ k. eqb (assignment r k) 0)
unfolding max_named nobody digit assignment from_one
word_none r h =
    same_test _ _
    (λ e. to-all_to 16 _ (λ k l u. eq-eqb (assignment r k) 0 (rw (eqb-true r 0 e, nobody-assigned))))
    (λ a. eq-eqb r 0 (zero-digits 16 r h (λ k l. eqb-true _ 0 (all_to-at 16 _ a (suc k) (omega arith) (omega arith)))))

-- row by row
abbrev pub idle_row : List ℕ → ℕ → Bool
idle_row counts i = all_to max_agents (λ j. eqb (held_at counts i j) 0)

module _ (counts : List ℕ) (clean : Clean counts) (i : ℕ) (lo : 1 ≤ i) where
  digit-is : (j : ℕ) → assignment (get_or counts (i - 1) 0) j ≡ held_at counts i j
  digit-is j = ap (λ (g : ℕ → ℕ). g j) (sym (row_is counts i lo)) ∙ clean i j

  this-row : idle_row counts i ≡ all_to max_named (λ k. eqb (assignment (get_or counts (i - 1) 0) k) 0)
  unfolding max_agents max_named
  this-row =
      same_test _ _
      (λ a. to-all_to 16 _ (λ j l u. rw (digit-is j) (test (leb j 12)
      (λ t. all_to-at 12 _ a j l (leb-true j 12 t))
      (λ t. eq-eqb _ 0 (held-few counts i j (leb-false j 12 t))))))
      (λ a. to-all_to 12 _ (λ j l u. rw (← digit-is j) (all_to-at 16 _ a j l (omega arith))))

  -- where its word is 0
  pub row_idle : get_or counts (i - 1) 0 < 2 ^ 64 → idle_row counts i ≡ eqb (get_or counts (i - 1) 0) 0
  row_idle h = this-row ∙ sym (word_none (get_or counts (i - 1) 0) h)
