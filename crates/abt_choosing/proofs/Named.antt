-- Packed words: one that is not 0 names somebody, and one that names nobody from some agent on is short.
use Rattle.std.proofs.Common.{ℕ, zero, suc, ◌*◌, ◌/◌, ◌%◌, ◌^◌, ◌≤◌, ◌<◌, true, ◌≡◌, sym, ap, ◌∙◌, pow-suc, arith, leb, leb-true, leb-false}
use mathlib.Core.Bool.{false≢true}
use Rattle.model_base.specs.Finite.{at, from_one, highest}
use Rattle.model_base.proofs.Tests.{test, eq_test, opt}
use Rattle.model_base.proofs.Search.{highest-some, highest-none, at_same, at_other}
use Rattle.model_agent.specs.Message.{Assignment, known, nobody}
use Rattle.model_agent.specs.Shape.{max_named}
use Rattle.abt_packed.specs.Packed.{digit, assignment, number_of}
use Rattle.abt_packed.proofs.Known.{known-true, known_from}
use Rattle.abt_packed.proofs.Digits.{digit-zero, digit-suc, digit-above, assignment-above, nobody-assigned}
use Rattle.abt_packed.proofs.Wordwise.{short}

-- ---- somebody

some-digit : (n x : ℕ) → 1 ≤ x → x < 16 ^ n → (k : ℕ) × (k < n) × (1 ≤ digit x k)
some-digit zero x l h = absurd (omega arith)
some-digit (suc n) x l h =
    let g : x < 16 ^ n * 16 = rw pow-suc at h in
    eq_test (x % 16) 0
    (λ z. let r = some-digit n (x / 16) (omega arith) (omega arith) in (suc r.0, omega arith, rw (digit-suc x r.0) r.2))
    (λ z. (0, omega arith, rw (digit-zero x) (omega (arith, z))))

-- the highest-numbered agent that a word names
pub highest-named : (x : ℕ) → 1 ≤ x → x < 2 ^ 64
    → let k = number_of (highest max_named (λ k. known (assignment x k))) in (1 ≤ k) × (k ≤ 16) × (known (assignment x k) ≡ true)
unfolding number_of max_named assignment from_one
highest-named x l h =
    opt (highest 16 (λ k. known (assignment x k)))
    (λ e.
    let r = some-digit 16 x l h in
    absurd (false≢true (sym (highest-none 16 (λ k. known (assignment x k)) e (suc r.0) (omega arith) r.1) ∙ known_from (digit x r.0) r.2)))
    (λ k e. let r = highest-some 16 (λ k. known (assignment x k)) k e in rw e (r.1, r.2, r.0))

-- a word that names somebody is not 0
pub named_some : (x k : ℕ) → known (assignment x k) ≡ true → 1 ≤ x
unfolding nobody
named_some zero k e =
    let z : assignment 0 k ≡ 0 = ap (λ (l : Assignment). l k) nobody-assigned in
    absurd (omega (arith, known-true (assignment 0 k) e))
named_some (suc x) k e = omega arith

-- whom a word names is one of sixteen
pub named-range : (x k : ℕ) → x < 2 ^ 64 → known (assignment x k) ≡ true → (1 ≤ k) × (k ≤ 16)
unfolding assignment from_one known
named-range x zero h e = absurd (false≢true e)
named-range x (suc k) h e =
    test (leb (suc k) 16)
    (λ t. (omega arith, leb-true (suc k) 16 t))
    (λ t. absurd (omega (arith, known-true (assignment x (suc k)) e, assignment-above x (suc k) h (leb-false (suc k) 16 t))))

-- and where the word is short, of twelve
pub named-short : (x k : ℕ) → x < 281474976710656 → known (assignment x k) ≡ true → k ≤ 12
unfolding assignment from_one
named-short x zero h e = omega arith
named-short x (suc k) h e =
    test (leb (suc k) 12)
    (λ t. leb-true (suc k) 12 t)
    (λ t. absurd (omega (arith, known-true (digit x k) e, digit-above 12 x k h (omega (arith, leb-false (suc k) 12 t)))))

-- ---- nobody from some agent on

-- a short word is short with an agent's name taken off
pub still-short : (x y k : ℕ) → x < 281474976710656 → y < 2 ^ 64 → assignment y ≡ at (assignment x) k 0 → y < 281474976710656
unfolding assignment from_one
still-short x y k h g e =
    short 12 16 y g
    (λ i l u. ap (λ (f : ℕ → ℕ). f (suc i)) e
    ∙ eq_test (suc i) k
    (λ q. rw q (at_same (assignment x) k 0))
    (λ n. at_other (assignment x) k 0 (suc i) n ∙ digit-above 12 x i h l))
