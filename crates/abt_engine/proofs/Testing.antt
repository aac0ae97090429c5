-- What a delivery's tests have found: a rejection, or two agents of the network, no verdict, and a message.
use Rattle.std.proofs.Common.{ℕ, ◌≤◌, ◌<◌, Bool, true, false, not, ◌&&◌, ◌≡◌, sym, ap, ◌∙◌, ◌≢◌, List, eqb, arith, eqb-true, eq-eqb, ne_eqb}
use borrow.Author.Tests.{eqb-false}
use Rattle.model_base.specs.Finite.{within}
use Rattle.model_base.proofs.Tests.{test, both, within-true, not-true}
use Rattle.model_agent.specs.Message.{nobody}
use Rattle.abt_packed.specs.Packed.{assignment}
use Rattle.abt_packed.proofs.Digits.{nobody-assigned}
use Rattle.abt_record.specs.Abstract.{row_of}
use Rattle.abt_record_laws.proofs.Changes.{word_at, row_is}
use Rattle.abt_engine.specs.Working.{tested_by}

-- two of n agents
pub record Good (n i j : ℕ) : Type 0 where
  pub from_low : 1 ≤ i
  pub from-high : i ≤ n
  pub to_low : 1 ≤ j
  pub to_high : j ≤ n
  pub apart : i ≢ j

pub good : (n i j : ℕ) → within n i && within n j && not (eqb i j) ≡ true → Good n i j
good n i j e =
    let a = both (within n i && within n j) _ e in
    let b = both (within n i) (within n j) a.0 in
    let f = within-true n i b.0 in
    let t = within-true n j b.1 in
    record { from_low = f.0; from-high = f.1; to_low = t.0; to_high = t.1; apart = eqb-false i j (not-true (eqb i j) a.1) }

module _ (n : ℕ) (unsolvable : Bool) (counts : List ℕ) (i j : ℕ) where
  pub bad : within n i && within n j && not (eqb i j) ≡ false → 6 ≡ tested_by n unsolvable counts i j
  unfolding tested_by
  bad g = rw (g, tested_by)

  module _ (g : within n i && within n j && not (eqb i j) ≡ true) where
    pub stands : unsolvable ≡ true → 7 ≡ tested_by n unsolvable counts i j
    unfolding tested_by
    stands v = rw (g, tested_by, v)

    module _ (v : unsolvable ≡ false) (x : ℕ) (e : x ≡ assignment (word_at counts i) j) where
      held : eqb (row_of counts i j) 0 ≡ eqb x 0
      held = ap (λ (k : ℕ). eqb k 0) (ap (λ (f : ℕ → ℕ). f j) (row_is counts i (good n i j g).from_low) ∙ sym e)

      pub empty : x ≡ 0 → 8 ≡ tested_by n unsolvable counts i j
      unfolding tested_by
      empty z = rw (g, tested_by, v, held ∙ eq-eqb x 0 z)

      pub passes : x ≢ 0 → 0 ≡ tested_by n unsolvable counts i j
      unfolding tested_by
      passes z = rw (g, tested_by, v, held ∙ ne_eqb x 0 z)

-- what the tests come to
pub data Tested (n : ℕ) (unsolvable : Bool) (counts : List ℕ) (i j number : ℕ) : Type 0 where
  is-bad : within n i && within n j && not (eqb i j) ≡ false → number ≡ 6 → Tested n unsolvable counts i j number
  is-over : Good n i j → unsolvable ≡ true → number ≡ 7 → Tested n unsolvable counts i j number
  is-empty : Good n i j → unsolvable ≡ false → row_of counts i j ≡ 0 → number ≡ 8 → Tested n unsolvable counts i j number
  is_found : Good n i j → unsolvable ≡ false → row_of counts i j ≢ 0 → number ≡ 0 → Tested n unsolvable counts i j number

pub tests : (n : ℕ) (unsolvable : Bool) (counts : List ℕ) (i j number : ℕ) → number ≡ tested_by n unsolvable counts i j
    → Tested n unsolvable counts i j number
unfolding tested_by
tests n unsolvable counts i j number e =
    test (within n i && within n j && not (eqb i j))
    (λ g. test unsolvable
    (λ v. is-over (good n i j g) v (rw (g, tested_by, v) at e))
    (λ v. test (eqb (row_of counts i j) 0)
    (λ z. is-empty (good n i j g) v (eqb-true _ 0 z) (rw (g, tested_by, v, z) at e))
    (λ z. is_found (good n i j g) v (eqb-false _ 0 z) (rw (g, tested_by, v, z) at e))))
    (λ g. is-bad g (rw (g, tested_by) at e))

tested-good : (n : ℕ) (unsolvable : Bool) (counts : List ℕ) (i j : ℕ) → 0 ≡ tested_by n unsolvable counts i j → Good n i j
tested-good n unsolvable counts i j e = go (tests n unsolvable counts i j 0 e)
  where
    go : Tested n unsolvable counts i j 0 → Good n i j
    go (is-bad g k) = absurd (omega arith)
    go (is-over g v k) = g
    go (is-empty g v d k) = g
    go (is_found g v d k) = g

-- the line of a delivery that has found a message, as a row with one digit
pub fresh-line : (n : ℕ) (unsolvable : Bool) (counts : List ℕ) (i j : ℕ) → n ≤ 12 → 0 ≡ tested_by n unsolvable counts i j
    → (1 ≤ j) × (j ≤ 16) × (assignment 0 j < 15)
unfolding nobody
fresh-line n unsolvable counts i j h e =
    let g = tested-good n unsolvable counts i j e in
    (g.to_low, omega (arith, g.to_high), rw nobody-assigned (omega arith))

-- 5 is the number of a broken shape alone
pub never-five : (n : ℕ) (unsolvable : Bool) (counts : List ℕ) (i j number : ℕ) → number ≡ tested_by n unsolvable counts i j → number ≢ 5
never-five n unsolvable counts i j number e f = go (tests n unsolvable counts i j number e)
  where
    go : Tested n unsolvable counts i j number → ⊥
    go (is-bad g k) = omega arith
    go (is-over g v k) = omega arith
    go (is-empty g v d k) = omega arith
    go (is_found g v d k) = omega arith
