-- One turn of the loops of the second reading, each by the definition of what is left to do: the numbers 1 to n, the marked bytes, the chain.
use mathlib.Core.Bool.{and-false}
use Rattle.std.proofs.Common.{MatchBool, Some, None, ℕ, zero, suc, ◌-◌, ◌≤◌, ◌<◌, ◌≡◌, refl, sym, ◌∙◌, Bool, true, false, List, [], ◌∷◌, arith, length, get_or, eq-eqb, ne_eqb}
use Rattle.std.specs.List.{HoldsAt, AllWithin, range_with_len}
use Rattle.std.proofs.lemmas.List.FromFn.{get_or-range_with_len, length-range_with_len}
use Rattle.model_base.proofs.Tests.{eq_test}
use Rattle.gate_second_reading.specs.declared.reading.SheetRejection.TheVariants.{Record, Chain}
use Rattle.gate_second_reading.specs.Buffers.{all_marked}
use Rattle.gate_second_reading.specs.Bytes.{next_of, each_to}
use Rattle.gate_second_reading.specs.Faults.{record_right, chain_fault}
use Rattle.gate_second_reading.specs.Bans.{chain_from, some_of}

-- ---- each of 1 to n: a search for one of which f does not hold

each-all : (n : ℕ) (f : ℕ → Bool) → ((k : ℕ) → k < n → f (suc k) ≡ true) → each_to n f ≡ true
unfolding each_to
each-all zero f h = refl
each-all (suc n) f h = rw (h n (omega arith)) (each-all n f (λ k l. h k (omega (arith, l))))

each-fails : (n : ℕ) (f : ℕ → Bool) (k : ℕ) → k < n → f (suc k) ≡ false → each_to n f ≡ false
unfolding each_to
each-fails zero f k l e = absurd (omega arith)
each-fails (suc n) f k l e =
    eq_test k n
    (λ q. rw (rw q at e))
    (λ q. rw (each-fails n f k (omega (arith, q)) e, and-false))

number : (n k : ℕ) → k < n → get_or (range_with_len 1 n) k 0 ≡ suc k
number n k l = get_or-range_with_len 1 n k 0 l ∙ omega arith

pub each-looked_at : (n : ℕ) (f : ℕ → Bool) (r : Bool)
    → (let xs = range_with_len 1 n in MatchBool r (AllWithin (λ i. f i ≡ true) xs 0 (length xs)) ((k : ℕ) × (k < length xs) × HoldsAt (λ i. f i ≡ false) xs k))
    → r ≡ each_to n f
each-looked_at n f true h =
    let long = length-range_with_len 1 n in
    sym (each-all n f (λ k l. rw (number n k l) at (h k 0 (omega arith) (omega arith))))
each-looked_at n f false h =
    let long = length-range_with_len 1 n in
    let l : h.0 < n = omega (arith, h.1) in
    sym (each-fails n f h.0 l (rw (number n h.0 l) at (h.2 0)))

-- ---- marked bytes: a search for one that isn't

marks : (xs : List ℕ) → ((k : ℕ) → k < length xs → get_or xs k 0 ≡ 170) → all_marked xs ≡ true
unfolding all_marked
marks [] h = refl
marks (b ∷ bs) h = rw (eq-eqb b 170 (h 0 (omega arith))) (marks bs (λ k l. h (suc k) (omega arith)))

misses : (xs : List ℕ) (k : ℕ) → k < length xs → (get_or xs k 0 ≡ 170 → ⊥) → all_marked xs ≡ false
unfolding all_marked
misses [] k l n = absurd (omega arith)
misses (b ∷ bs) zero l n = rw (ne_eqb b 170 n)
misses (b ∷ bs) (suc k) l n = rw (misses bs k (omega arith) n, and-false)

pub all-looked_at : (r : Bool) (xs : List ℕ) → MatchBool r (AllWithin (λ b. b ≡ 170) xs 0 (length xs)) ((k : ℕ) × (k < length xs) × HoldsAt (λ b. b ≡ 170 → ⊥) xs k)
    → r ≡ all_marked xs
all-looked_at true xs h = sym (marks xs (λ k l. h k 0 (omega arith) l))
all-looked_at false xs h = sym (misses xs h.0 h.1 (h.2 0))

-- ---- the chain from record r on

chain-ends : (left : ℕ) (s : List ℕ) (r : ℕ) → (0 < left → (r ≡ 0 → ⊥) → ⊥) → chain_from left s r ≡ []
unfolding chain_from
chain-ends zero s r n = refl
chain-ends (suc left) s r n = eq_test r 0 (λ e. rw e) (λ e. absurd (n (omega arith) e))

chain-goes : (left : ℕ) (s : List ℕ) (r : ℕ) → 0 < left → (r ≡ 0 → ⊥) → chain_from left s r ≡ r ∷ chain_from (left - 1) s (next_of s r)
unfolding chain_from
chain-goes zero s r l n = absurd (omega arith)
chain-goes (suc left) s r l n = let t : suc left - 1 ≡ left = omega arith in rw (ne_eqb r 0 n, chain_from, t)

pub some-none : (f : ℕ → Bool) (left : ℕ) (s : List ℕ) (r : ℕ) → (0 < left → (r ≡ 0 → ⊥) → ⊥) → some_of f (chain_from left s r) ≡ false
unfolding some_of
some-none f left s r n = rw (chain-ends left s r n)

pub some-met : (f : ℕ → Bool) (left : ℕ) (s : List ℕ) (r : ℕ) → 0 < left → (r ≡ 0 → ⊥) → f r ≡ true → some_of f (chain_from left s r) ≡ true
unfolding some_of
some-met f left s r l n h = rw (chain-goes left s r l n, h)

pub some-passed : (f : ℕ → Bool) (left : ℕ) (s : List ℕ) (r : ℕ) → 0 < left → (r ≡ 0 → ⊥) → f r ≡ false
    → some_of f (chain_from left s r) ≡ some_of f (chain_from (left - 1) s (next_of s r))
unfolding some_of
some-passed f left s r l n h = rw (chain-goes left s r l n, h)

-- ---- the fault of the chain from record r on

pub fault-none : (left : ℕ) (s : List ℕ) (r : ℕ) → r ≡ 0 → chain_fault left s r ≡ None
unfolding chain_fault
fault-none zero s r e = rw e
fault-none (suc left) s r e = rw e

pub fault-back : (left : ℕ) (s : List ℕ) (r : ℕ) → left ≤ 0 → (r ≡ 0 → ⊥) → chain_fault left s r ≡ Some Chain
unfolding chain_fault
fault-back zero s r l h = rw (ne_eqb r 0 h)
fault-back (suc left) s r l h = absurd (omega arith)

pub fault-record : (left : ℕ) (s : List ℕ) (r : ℕ) → 0 < left → (r ≡ 0 → ⊥) → record_right s r ≡ false → chain_fault left s r ≡ Some Record
unfolding chain_fault
fault-record zero s r l h e = absurd (omega arith)
fault-record (suc left) s r l h e = rw (ne_eqb r 0 h, chain_fault, e)

pub fault-goes : (left : ℕ) (s : List ℕ) (r : ℕ) → 0 < left → (r ≡ 0 → ⊥) → record_right s r ≡ true
    → chain_fault left s r ≡ chain_fault (left - 1) s (next_of s r)
unfolding chain_fault
fault-goes zero s r l h e = absurd (omega arith)
fault-goes (suc left) s r l h e = let t : suc left - 1 ≡ left = omega arith in rw (ne_eqb r 0 h, chain_fault, e, t)
