-- A packed word with one digit changed is the assignment changed at one agent, and the `|` of two that agree is their join.
use Rattle.std.proofs.Common.{ℕ, zero, suc, ◌+◌, ◌*◌, ◌-◌, ◌/◌, ◌%◌, ◌^◌, ◌<◌, ◌≤◌, ◌≡◌, refl, sym, true, cond, ◌||◌, mod-lt, mul-suc, one-mul, not-suc-le-zero, pow-suc, div-one, lt_of_lt_of_le, arith, leb, bit_or, pow-add, pow_pos, shl_exact, leb-true, leb-false}
use mathlib.Core.Path.{fun_ext}
use native.Mathlib.Nat.{one-le-pow, pow-succ', zero-div, div-div-eq-div-mul, div-eq_of_lt, pow-le-pow_right}
use lib.Arith.{mod-mul}
use lib.Bits.{or_shr, or_mod, or_zero_r, or_self, or_add_and, and_le_r}
use Rattle.model_base.specs.Finite.{at, from_one}
use Rattle.model_base.specs.Bits.{bit}
use Rattle.model_base.proofs.Tests.{test, eq_test}
use Rattle.model_base.proofs.Bits.{bit-field}
use Rattle.model_base.proofs.Search.{at_same, at_other}
use Rattle.model_agent.specs.Message.{known, nobody}
use Rattle.model_agent.specs.Choosing.{join}
use Rattle.model_agent.specs.Shape.{max_named}
use Rattle.abt_packed.specs.Packed.{exchanged, digit, assignment, Compatible}
use Rattle.abt_packed.proofs.Known.{known-suc, known_from}
use Rattle.abt_packed.proofs.Fields.{same, others, fits, more, less}

-- ---- digits, lowest first

pub digit-zero : (x : ℕ) → digit x 0 ≡ x % 16
unfolding digit
digit-zero x = rw div-one

pub digit-suc : (x k : ℕ) → digit x (suc k) ≡ digit (x / 16) k
unfolding digit
digit-suc x k = rw (pow-succ' 16 k, ← div-div-eq-div-mul x 16 (16 ^ k))

pub digit_lt : (x k : ℕ) → digit x k < 16
unfolding digit
digit_lt x k = omega arith

pub digit-assigned : (x k : ℕ) → assignment x k < 16
unfolding assignment from_one
digit-assigned x zero = omega arith
digit-assigned x (suc k) = digit_lt x k

pub pow16 : (k : ℕ) → 16 ^ k ≡ 2 ^ (4 * k)
pow16 zero = refl
pow16 (suc k) = rw (pow-suc 16 k, pow16 k, mul-suc 4 k, pow-add 2 (4 * k) 4)

pub digit-shr : (x k : ℕ) → digit x k ≡ x / 2 ^ (4 * k) % 16
unfolding digit
digit-shr x k = rw (pow16 k)

pub digit-bit : (x k i : ℕ) → i < 4 → bit (digit x k) i ≡ bit x (4 * k + i)
digit-bit x k i h = rw (digit-shr x k) (bit-field x (4 * k) 4 i h)

-- as the code has it
pub value-at : (x k : ℕ) → 1 ≤ k → x / 2 ^ (4 * (k - 1)) % 16 ≡ assignment x k
unfolding assignment from_one
value-at x zero h = absurd (not-suc-le-zero h)
value-at x (suc k) h = let e : suc k - 1 ≡ k = omega arith in rw e (sym (digit-shr x k))

pub assigned-first : (x : ℕ) → assignment x 1 ≡ x % 16
unfolding assignment from_one
assigned-first x = digit-zero x

pub assigned-next : (x k : ℕ) → 1 ≤ k → assignment x (suc k) ≡ assignment (x / 16) k
unfolding assignment from_one
assigned-next x zero h = absurd (not-suc-le-zero h)
assigned-next x (suc k) h = digit-suc x k

pub nobody-assigned : assignment 0 ≡ nobody
unfolding assignment from_one digit nobody
nobody-assigned = fun_ext λ k. go k
  where
    go : (k : ℕ) → assignment 0 k ≡ 0
    go zero = refl
    go (suc k) = rw (zero-div (16 ^ k))

-- ---- a short number, and one cut off after its digit n

pub digit-above : (n x k : ℕ) → x < 16 ^ n → n ≤ k → digit x k ≡ 0
unfolding digit
digit-above n x k h l =
    let e : x / 16 ^ k ≡ 0 = div-eq_of_lt (lt_of_lt_of_le h (pow-le-pow_right {n = 16} (omega arith) l)) in rw e

cut : (n x : ℕ) → x % 16 ^ suc n ≡ x / 16 % 16 ^ n * 16 + x % 16
cut n x = rw pow-suc (mod-mul x (one-le-pow n 16 (omega arith)) (omega arith))

digit-cut : (n x k : ℕ) → k < n → digit (x % 16 ^ n) k ≡ digit x k
digit-cut zero x k h = absurd (not-suc-le-zero h)
digit-cut (suc n) x zero h = rw (digit-zero (x % 16 ^ suc n), digit-zero x, cut n x) (omega arith)
digit-cut (suc n) x (suc k) h =
    let q : x % 16 ^ suc n / 16 ≡ x / 16 % 16 ^ n = rw (cut n x) (omega arith) in
    rw (digit-suc (x % 16 ^ suc n) k, digit-suc x k, q) (digit-cut n (x / 16) k (omega arith))

digit-gone : (n x k : ℕ) → n ≤ k → digit (x % 16 ^ n) k ≡ 0
digit-gone n x k h = digit-above n (x % 16 ^ n) k (mod-lt x (one-le-pow n 16 (omega arith))) h

pub cut-before : (n x k : ℕ) → k ≤ n → assignment (x % 16 ^ n) k ≡ assignment x k
unfolding assignment from_one
cut-before n x zero h = refl
cut-before n x (suc k) h = digit-cut n x k h

pub cut-from : (n x k : ℕ) → n < k → assignment (x % 16 ^ n) k ≡ 0
unfolding assignment from_one
cut-from n x zero h = refl
cut-from n x (suc k) h = digit-gone n x k (omega arith)

-- ---- one digit changed

pub digit-changed : (x k v : ℕ) → 1 ≤ k → v < 16 → assignment (exchanged 4 (4 * (k - 1)) x v) ≡ at (assignment x) k v
unfolding assignment from_one
digit-changed x zero v l h = absurd (not-suc-le-zero l)
digit-changed x (suc k) v l h =
    let e : suc k - 1 ≡ k = omega arith in
    rw e (fun_ext λ j. go j)
  where
    go : (j : ℕ) → assignment (exchanged 4 (4 * k) x v) j ≡ at (assignment x) (suc k) v j
    go zero = sym (at_other (assignment x) (suc k) v zero (λ e. omega arith))
    go (suc j) =
        eq_test j k
        (λ e. rw (e, at_same (assignment x) (suc k) v, digit-shr (exchanged 4 (4 * k) x v) k) (same 4 (4 * k) x v h))
        (λ n. rw (
          at_other (assignment x) (suc k) v (suc j) (λ u. n (omega arith)),
          digit-shr (exchanged 4 (4 * k) x v) j,
          digit-shr x j,
        ) (others 4 k x v h j n))

-- one more or one less as that digit, as the code has it
pub one_more : (x k : ℕ) → x < 2 ^ 64 → 1 ≤ k → k ≤ 16 → assignment x k < 15
    → let r = 1 * 2 ^ (4 * (k - 1)) % 2 ^ 64 in
    (x + r < 2 ^ 64) × (assignment (x + r) ≡ at (assignment x) k (assignment x k + 1))
one_more x k h l u few =
    let p = 4 * (k - 1) in
    let e = value-at x k l in
    rw (shl_exact {a = 1} 1 p 64 (omega arith) (omega arith), one-mul, ← more 4 p x, e)
    (fits 4 p x (assignment x k + 1) (omega arith) 64 (omega arith) h, digit-changed x k (assignment x k + 1) l (omega arith))

pub one_less : (x k : ℕ) → 1 ≤ k → k ≤ 16 → 1 ≤ assignment x k
    → let r = 1 * 2 ^ (4 * (k - 1)) % 2 ^ 64 in
    (r ≤ x) × (assignment (x - r) ≡ at (assignment x) k (assignment x k - 1)) × (x - r < x)
unfolding assignment from_one
one_less x k l u some =
    let p = 4 * (k - 1) in
    let e = value-at x k l in
    let t = less 4 p x (rw e some) in
    rw (shl_exact {a = 1} 1 p 64 (omega arith) (omega arith), one-mul)
    (t.0, rw (← t.1, e) (digit-changed x k (assignment x k - 1) l (omega (arith, digit_lt x (k - 1), e))), omega (arith, pow_pos p))

-- ---- both sides' agents

pub assignment-above : (x k : ℕ) → x < 2 ^ 64 → 16 < k → assignment x k ≡ 0
unfolding assignment from_one
assignment-above x zero h l = refl
assignment-above x (suc k) h l = digit-above 16 x k h (omega arith)

digit_or : (x y k : ℕ) → digit (bit_or x y) k ≡ bit_or (digit x k) (digit y k)
digit_or x y k =
    rw (digit-shr (bit_or x y) k, digit-shr x k, digit-shr y k, or_shr x y (4 * k)) (or_mod (x / 2 ^ (4 * k)) (y / 2 ^ (4 * k)) 4)

or-known : (a b : ℕ) → known (bit_or a b) ≡ known a || known b
unfolding known
or-known zero b = refl
or-known (suc a) b = rw (known-suc a) (known_from (bit_or (suc a) b) (omega (arith, or_add_and (suc a) b, and_le_r (suc a) b)))

-- `|` names whom either names
pub or-named : (x y k : ℕ) → known (assignment (bit_or x y) k) ≡ known (assignment x k) || known (assignment y k)
unfolding assignment from_one known
or-named x y zero = refl
or-named x y (suc k) = rw (digit_or x y k) (or-known (digit x k) (digit y k))

or-agree : (a b : ℕ) → (known a ≡ true → known b ≡ true → a ≡ b) → bit_or a b ≡ cond (known a) a b
unfolding known
or-agree zero b h = refl
or-agree (suc a) zero h = rw (known-suc a) (or_zero_r (suc a))
or-agree (suc a) (suc b) h = rw (known-suc a, ← h (known-suc a) (known-suc b)) (or_self (suc a))

pub or-assigned : (x y : ℕ) → x < 2 ^ 64 → y < 2 ^ 64 → Compatible (assignment x) (assignment y)
    → assignment (bit_or x y) ≡ join (assignment x) (assignment y)
unfolding assignment from_one join known max_named
or-assigned x y hx hy h = fun_ext λ k. go k
  where
    go : (k : ℕ) → assignment (bit_or x y) k ≡ join (assignment x) (assignment y) k
    go zero = refl
    go (suc k) =
        rw (digit_or x y k)
        (or-agree (digit x k) (digit y k)
        (λ a b.
        test (leb (suc k) 16)
        (λ l. h (suc k) (omega arith) (leb-true (suc k) 16 l) a b)
        (λ l. rw (
          digit-above 16 x k hx (omega (arith, leb-false (suc k) 16 l)),
          digit-above 16 y k hy (omega (arith, leb-false (suc k) 16 l)),
        ))))
