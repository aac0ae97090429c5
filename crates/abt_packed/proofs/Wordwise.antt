-- Words compared whole: equal digits make equal words, and a mask that has 15 at each agent that a word names keeps the other word's values of these.
-- And a mask that has 7 at one agent and 15 at the others takes that digit modulo 8.
use Rattle.std.proofs.Common.{ℕ, zero, suc, pred, ◌+◌, ◌*◌, ◌-◌, ◌/◌, ◌%◌, ◌^◌, ◌<◌, ◌≤◌, ◌≡◌, refl, sym, ap, ◌∙◌, Bool, true, not, cond, ◌||◌, pow-suc, lt_of_le_of_lt, mod-eq_of_lt, not-suc-le-zero, arith, bit_and, bit_or, eqb, leb, shl_exact, eqb-true, eq-eqb, ne_eqb, leb-true, leb-false}
use mathlib.Core.Path.{fun_ext}
use native.Mathlib.Nat.{zero-div}
use lib.Bits.{and_shr, and_mod, and_mask, and_zero_l, and_zero_r, and_le_l, and_le_r}
use borrow.Author.Tests.{eqb-false}
use Rattle.model_base.specs.Finite.{at, from_one, all_to}
use Rattle.model_base.specs.Bits.{bit}
use Rattle.model_base.proofs.Tests.{test, eq_test}
use Rattle.model_base.proofs.Search.{all_to-at, to-all_to, at_same, at_other}
use Rattle.model_base.proofs.Bits.{bit-zero, bit-or}
use Rattle.model_base.proofs.Peeling.{same_test, bit-shr, all_to-same}
use Rattle.model_agent.specs.Message.{known}
use Rattle.model_agent.specs.Shape.{max_named}
use Rattle.abt_packed.specs.Packed.{exchanged, digit, assignment}
use Rattle.abt_packed.proofs.Known.{known-suc}
use Rattle.abt_packed.proofs.Digits.{digit-zero, digit-suc, digit_lt, digit-shr, digit-above, digit-bit, digit-changed}

-- ---- equal digits

pub same_digits : (n x y : ℕ) → x < 16 ^ n → y < 16 ^ n → ((k : ℕ) → k < n → digit x k ≡ digit y k) → x ≡ y
same_digits zero x y h l f = omega arith
same_digits (suc n) x y h l f =
    let g : x < 16 ^ n * 16 = rw pow-suc at h in
    let i : y < 16 ^ n * 16 = rw pow-suc at l in
    let d : x % 16 ≡ y % 16 = sym (digit-zero x) ∙ f 0 (omega arith) ∙ digit-zero y in
    let e = same_digits n (x / 16) (y / 16) (omega arith) (omega arith) (λ k b. sym (digit-suc x k) ∙ f (suc k) (omega arith) ∙ digit-suc y k) in
    omega arith

digit-of-zero : (k : ℕ) → digit 0 k ≡ 0
unfolding digit
digit-of-zero k = rw (zero-div (16 ^ k))

pub zero-digits : (n x : ℕ) → x < 16 ^ n → ((k : ℕ) → k < n → digit x k ≡ 0) → x ≡ 0
zero-digits n x h f = same_digits n x 0 h (omega (arith, h)) (λ k l. f k l ∙ sym (digit-of-zero k))

-- a number whose digits from n on are 0
pub short : (n m x : ℕ) → x < 16 ^ m → ((k : ℕ) → n ≤ k → k < m → digit x k ≡ 0) → x < 16 ^ n
short zero m x h f = let e = zero-digits m x h (λ k l. f k (omega arith) l) in omega arith
short (suc n) zero x h f = rw pow-suc (omega (arith, short n zero x h (λ k l u. absurd (not-suc-le-zero u))))
short (suc n) (suc m) x h f =
    let g : x < 16 ^ m * 16 = rw pow-suc at h in
    rw pow-suc
    (omega (arith, short n m (x / 16) (omega arith) (λ k l u. sym (digit-suc x k) ∙ f (suc k) (omega arith) (omega arith))))

pub same_word : (x y : ℕ) → x < 2 ^ 64 → y < 2 ^ 64 → eqb x y ≡ all_to max_named (λ k. eqb (assignment x k) (assignment y k))
unfolding max_named assignment from_one
same_word x y h l =
    same_test (eqb x y) (all_to 16 (λ k. eqb (assignment x k) (assignment y k)))
    (λ t. to-all_to 16 _ (λ k a b. rw (eqb-true x y t) (eq-eqb (assignment y k) (assignment y k) refl)))
    (λ t. eq-eqb x y (same_digits 16 x y h l (λ k b. eqb-true (digit x k) (digit y k) (all_to-at 16 (λ k. eqb (assignment x k) (assignment y k)) t (suc k) (omega arith) b))))

-- ---- 15 where a digit is not 0

pub digit_and : (x y k : ℕ) → digit (bit_and x y) k ≡ bit_and (digit x k) (digit y k)
digit_and x y k =
    rw (digit-shr (bit_and x y) k, digit-shr x k, digit-shr y k, and_shr x y (4 * k)) (and_mod (x / 2 ^ (4 * k)) (y / 2 ^ (4 * k)) 4)

-- the number that has 1 as each digit
abbrev ones : ℕ
ones = 1229782938247303441

ones-are : all_to 16 (λ k. eqb (digit ones (pred k)) 1) ≡ true
unfolding all_to digit
ones-are = refl

digit_ones : (k : ℕ) → k < 16 → digit ones k ≡ 1
digit_ones k h = eqb-true (digit ones k) 1 (all_to-at 16 (λ k. eqb (digit ones (pred k)) 1) ones-are (suc k) (omega arith) h)

abbrev one : Bool → ℕ
one b = cond b 1 0

-- a digit that is not 0 has a bit
some_bit : ℕ → Bool
some_bit d = bit d 0 || bit d 1 || bit d 2 || bit d 3

some-bit : all_to 16 (λ d. eqb (one (some_bit (pred d))) (one (known (pred d)))) ≡ true
unfolding all_to bit known some_bit
some-bit = refl

-- a number's bits from each bit on to the third above it, joined
unfoldable pub joined : ℕ → ℕ
joined x = bit_or (bit_or (bit_or x (x / 2 ^ 1)) (x / 2 ^ 2)) (x / 2 ^ 3)

joined-bit : (x k : ℕ) → one (bit (joined x) (4 * k)) ≡ one (known (digit x k))
unfolding joined some_bit
joined-bit x k =
    let z : 4 * k ≡ 0 + 4 * k = omega arith in
    rw (
      bit-or (bit_or (bit_or x (x / 2 ^ 1)) (x / 2 ^ 2)) (x / 2 ^ 3) (4 * k),
      bit-or (bit_or x (x / 2 ^ 1)) (x / 2 ^ 2) (4 * k),
      bit-or x (x / 2 ^ 1) (4 * k),
      bit-shr x 1 (4 * k),
      bit-shr x 2 (4 * k),
      bit-shr x 3 (4 * k),
      own 1 (omega arith),
      own 2 (omega arith),
      own 3 (omega arith),
      ap (bit x) z ∙ own 0 (omega arith),
    )
    (eqb-true _ _ (all_to-at 16 (λ d. eqb (one (some_bit (pred d))) (one (known (pred d)))) some-bit (suc (digit x k)) (omega arith) (digit_lt x k)))
  where
    own : (i : ℕ) → i < 4 → bit x (i + 4 * k) ≡ bit (digit x k) i
    own i h = let e : i + 4 * k ≡ 4 * k + i = omega arith in rw e (sym (digit-bit x k i h))

unfoldable pub marks : ℕ → ℕ
marks x = bit_and (joined x) ones

pub digit-marks : (x k : ℕ) → x < 2 ^ 64 → digit (marks x) k ≡ one (known (digit x k))
unfolding marks known
digit-marks x k h =
    test (leb 16 k)
    (λ t.
    let l = leb-true 16 k t in
    rw (digit-above 16 x k h l) (digit-above 16 (bit_and (joined x) ones) k (lt_of_le_of_lt (and_le_r (joined x) ones) (omega arith)) l))
    (λ t.
    let low : bit (digit (joined x) k) 0 ≡ bit (joined x) (4 * k) =
    (let z : 4 * k + 0 ≡ 4 * k = omega arith in digit-bit (joined x) k 0 (omega arith) ∙ ap (bit (joined x)) z) in
    rw (digit_and (joined x) ones k, digit_ones k (leb-false 16 k t), and_mask (digit (joined x) k) 1)
    (lowest-bit (digit (joined x) k) ∙ rw low (joined-bit x k)))
  where
    lowest-bit : (d : ℕ) → d % 2 ≡ one (bit d 0)
    lowest-bit d =
        test (eqb (d % 2) 1)
        (λ e. rw (bit-zero d, e) (eqb-true (d % 2) 1 e))
        (λ e. rw (bit-zero d, e) (omega (arith, eqb-false (d % 2) 1 e)))

-- fifteen times a word of such digits
digit-fifteen : (k m : ℕ) → ((j : ℕ) → digit m j ≤ 1) → digit (15 * m) k ≡ 15 * digit m k
digit-fifteen zero m f =
    let h : m % 16 ≤ 1 = rw (← digit-zero m) (f 0) in
    rw (digit-zero (15 * m), digit-zero m) (omega arith)
digit-fifteen (suc k) m f =
    let h : m % 16 ≤ 1 = rw (← digit-zero m) (f 0) in
    let e : 15 * m / 16 ≡ 15 * (m / 16) = omega arith in
    rw (digit-suc (15 * m) k, digit-suc m k, e) (digit-fifteen k (m / 16) (λ j. rw (← digit-suc m j) (f (suc j))))

-- as the code has it
pub named-marked : (x : ℕ) → x < 2 ^ 64
    → let r = bit_and (bit_or (bit_or (bit_or x (x / 2 ^ 1)) (x / 2 ^ 2)) (x / 2 ^ 3)) 1229782938247303441 in
    (15 * r < 2 ^ 64) × ((k : ℕ) → assignment (15 * r) k ≡ cond (known (assignment x k)) 15 0)
unfolding assignment from_one known marks joined
named-marked x h = (omega (arith, and_le_r (joined x) ones), each)
  where
    few : (j : ℕ) → digit (marks x) j ≤ 1
    few j = rw (digit-marks x j h) (test (known (digit x j)) (λ t. rw t (omega arith)) (λ t. rw t (omega arith)))

    each : (k : ℕ) → assignment (15 * marks x) k ≡ cond (known (assignment x k)) 15 0
    each zero = refl
    each (suc k) = digit-fifteen k (marks x) few ∙ rw (digit-marks x k h) (test (known (digit x k)) (λ t. rw t) (λ t. rw t))

-- ---- the other word's values of those that a word names

kept : (a b : ℕ) → b < 16 → eqb (bit_and b (cond (known a) 15 0)) a ≡ not (known a) || eqb a b
unfolding known
kept zero b h = rw (and_zero_r b)
kept (suc a) b h =
    rw (known-suc a, and_mask b 4, mod-eq_of_lt h)
    (eq_test b (suc a)
    (λ e. rw e)
    (λ n. rw (ne_eqb b (suc a) n, ne_eqb (suc a) b (λ e. n (sym e)))))

pub within-is : (x y n : ℕ) → x < 2 ^ 64 → y < 2 ^ 64 → ((k : ℕ) → assignment n k ≡ cond (known (assignment x k)) 15 0)
    → eqb (bit_and y n) x ≡ all_to max_named (λ k. not (known (assignment x k)) || eqb (assignment x k) (assignment y k))
unfolding max_named assignment from_one
within-is x y n h l f =
    same_word (bit_and y n) x (lt_of_le_of_lt (and_le_l y n) l) h
    ∙ all_to-same 16 _ _ each
  where
    each : (k : ℕ) → 1 ≤ k → k ≤ 16
        → eqb (assignment (bit_and y n) k) (assignment x k) ≡ not (known (assignment x k)) || eqb (assignment x k) (assignment y k)
    each zero a b = absurd (not-suc-le-zero a)
    each (suc k) a b = rw (digit_and y n k, f (suc k)) (kept (digit x k) (digit y k) (digit_lt y k))

-- ---- a digit taken modulo 8

-- all digits below 16 ^ n turned round
digit_not : (n x k : ℕ) → x < 16 ^ n → k < n → digit (16 ^ n - 1 - x) k ≡ 15 - digit x k
digit_not zero x k h l = absurd (not-suc-le-zero l)
digit_not (suc n) x zero h l =
    let g : x < 16 ^ n * 16 = rw pow-suc at h in
    rw (digit-zero (16 ^ suc n - 1 - x), digit-zero x, pow-suc 16 n) (omega arith)
digit_not (suc n) x (suc k) h l =
    let g : x < 16 ^ n * 16 = rw pow-suc at h in
    let d : (16 ^ n * 16 - 1 - x) / 16 ≡ 16 ^ n - 1 - x / 16 = omega arith in
    rw (digit-suc (16 ^ suc n - 1 - x) k, digit-suc x k, pow-suc 16 n, d) (digit_not n (x / 16) k (omega arith) (omega arith))

-- the word that has 8 as digit k alone, and the one that has 7 there and 15 as the others, as the code has them
abbrev eight : ℕ → ℕ
eight k = 8 * 2 ^ (4 * (k - 1)) % 2 ^ 64

abbrev pub sevens : ℕ → ℕ
sevens k = 2 ^ 64 - 1 - eight k

eight-alone : (k : ℕ) → 1 ≤ k → k ≤ 16 → assignment (eight k) ≡ at (assignment 0) k 8
unfolding exchanged
eight-alone k l u =
    let p = 4 * (k - 1) in
    let e : 0 - 0 / 2 ^ p % 2 ^ 4 * 2 ^ p + 8 * 2 ^ p ≡ 8 * 2 ^ p = omega arith in
    rw (shl_exact {a = 8} 4 p 64 (omega arith) (omega arith)) (ap assignment (sym e) ∙ digit-changed 0 k 8 l (omega arith))

modulo-eight : (x k : ℕ) → x < 2 ^ 64 → 1 ≤ k → k ≤ 16 → assignment (bit_and x (sevens k)) ≡ at (assignment x) k (assignment x k % 8)
unfolding assignment from_one
modulo-eight x k h l u = fun_ext λ j. go j
  where
    go : (j : ℕ) → assignment (bit_and x (sevens k)) j ≡ at (assignment x) k (assignment x k % 8) j
    go zero = sym (at_other (assignment x) k (assignment x k % 8) zero (λ e. omega arith))
    go (suc j) =
        test (leb 16 j)
        (λ t.
        let b = leb-true 16 j t in
        let z = digit-above 16 x j h b in
        rw (digit_and x (sevens k) j, z, and_zero_l, at_other (assignment x) k (assignment x k % 8) (suc j) (λ e. omega arith)) (sym z))
        (λ t.
        let small : eight k < 16 ^ 16 = omega arith in
        let turned : digit (sevens k) j ≡ 15 - at (assignment 0) k 8 (suc j) =
        digit_not 16 (eight k) j small (leb-false 16 j t) ∙ ap (λ (a : ℕ → ℕ). 15 - a (suc j)) (eight-alone k l u) in
        rw (digit_and x (sevens k) j, turned)
        (eq_test (suc j) k
        (λ e. rw (← e, at_same (assignment 0) (suc j) 8, at_same (assignment x) (suc j) (digit x j % 8)) (and_mask (digit x j) 3))
        (λ n. rw (
          at_other (assignment 0) k 8 (suc j) n,
          at_other (assignment x) k (assignment x k % 8) (suc j) n,
          digit-of-zero j,
          and_mask (digit x j) 4,
        ) (mod-eq_of_lt (digit_lt x j)))))

-- so there is room for one more
pub room-left : (x k : ℕ) → x < 2 ^ 64 → 1 ≤ k → k ≤ 16 → assignment (bit_and x (sevens k)) k < 15
room-left x k h l u = rw (modulo-eight x k h l u, at_same (assignment x) k (assignment x k % 8)) (omega arith)

at-again : (f : ℕ → ℕ) (k a b : ℕ) → at (at f k a) k b ≡ at f k b
at-again f k a b =
    fun_ext λ j.
    eq_test j k
    (λ e. rw (e, at_same (at f k a) k b) (sym (at_same f k b)))
    (λ n. rw (at_other (at f k a) k b j n, at_other f k a j n) (sym (at_other f k b j n)))

-- r has one more there, and is taken modulo 8 again
pub one_further : (x k r : ℕ) → x < 2 ^ 64 → r < 2 ^ 64 → 1 ≤ k → k ≤ 16
    → let y = bit_and x (sevens k) in
    assignment r ≡ at (assignment y) k (assignment y k + 1)
    → assignment (bit_and r (sevens k)) ≡ at (assignment x) k ((assignment x k + 1) % 8)
one_further x k r h s l u e =
    let d = assignment x k in
    let after : assignment r ≡ at (assignment x) k (d % 8 + 1) =
    rw (modulo-eight x k h l u, at_same (assignment x) k (d % 8), at-again (assignment x) k (d % 8) (d % 8 + 1)) at e in
    let round : (d % 8 + 1) % 8 ≡ (d + 1) % 8 = omega arith in
    rw (modulo-eight r k s l u, after, at_same (assignment x) k (d % 8 + 1), at-again (assignment x) k (d % 8 + 1) ((d % 8 + 1) % 8), round)
