-- Setting a bit: that bit is 1 then, every other is as it was, and the number stays below the same power of two.
-- All by halving: bit k + 1 of x is bit k of x / 2.
use Rattle.std.proofs.Common.{◌≡◌, refl, sym, ap, ◌∙◌, ◌≢◌, Bool, true, false, not, cond, ◌&&◌, ◌||◌, ℕ, zero, suc, ◌+◌, ◌-◌, ◌*◌, ◌/◌, ◌%◌, ◌^◌, ◌≤◌, ◌<◌, pow-suc, div-one, not-suc-le-zero, mul-div_cancel, arith, bit_and, bit_or, shr-shr, eqb, eqb-true, eq-eqb, ne_eqb}
use mathlib.Core.Bool.{false≢true, or-true, or-false}
use native.Mathlib.Nat.{pow-succ', div-div-eq-div-mul}
use lib.Bits.{and_shr, and_mod, or_shr, or_mod}
use lib.Pow.{field, mod-mod-pow}
use lib.Dec.{eqb-zero-suc, eqb-suc-zero, eqb-suc-suc}
use borrow.Author.Tests.{eqb-false}
use Rattle.model_base.specs.Bits.{bit, with_bit}
use Rattle.model_base.proofs.Tests.{test}

-- ---- halving

pub bit-zero : (x : ℕ) → bit x 0 ≡ eqb (x % 2) 1
unfolding bit
bit-zero x = ap (λ (y : ℕ). eqb (y % 2) 1) (div-one x)

pub bit-suc : (x k : ℕ) → bit x (suc k) ≡ bit (x / 2) k
unfolding bit
bit-suc x k = rw (pow-succ' 2 k, ← div-div-eq-div-mul x 2 (2 ^ k))

pub half : (s k : ℕ) → s / 2 ^ suc k ≡ s / 2 ^ k / 2
half s k = rw (pow-suc 2 k, ← div-div-eq-div-mul s (2 ^ k) 2)

half-plus : (x k : ℕ) → (x + 2 ^ suc k) / 2 ≡ x / 2 + 2 ^ k
half-plus x k = omega arith

parity-plus : (x k : ℕ) → (x + 2 ^ suc k) % 2 ≡ x % 2
parity-plus x k = omega arith

-- ---- adding 2 ^ k where bit k is 0

plus-same : (k x : ℕ) → bit x k ≡ false → bit (x + 2 ^ k) k ≡ true
plus-same zero x e =
    let h = eqb-false (x % 2) 1 (sym (bit-zero x) ∙ e) in bit-zero (x + 1) ∙ eq-eqb ((x + 1) % 2) 1 (odd x h)
  where
    odd : (x : ℕ) → (x % 2 ≡ 1 → ⊥) → (x + 1) % 2 ≡ 1
    odd x h = omega (arith, h)
plus-same (suc k) x e =
    rw (bit-suc (x + 2 ^ suc k) k, half-plus x k) (plus-same k (x / 2) (sym (bit-suc x k) ∙ e))

plus-other : (k x j : ℕ) → j ≢ k → bit x k ≡ false → bit (x + 2 ^ k) j ≡ bit x j
plus-other zero x zero n e = absurd (n refl)
plus-other zero x (suc j) n e =
    let h = eqb-false (x % 2) 1 (sym (bit-zero x) ∙ e) in
    rw (bit-suc (x + 1) j, bit-suc x j) (ap (λ (y : ℕ). bit y j) (half x h))
  where
    half : (x : ℕ) → (x % 2 ≡ 1 → ⊥) → (x + 1) / 2 ≡ x / 2
    half x h = omega (arith, h)
plus-other (suc k) x zero n e = rw (bit-zero (x + 2 ^ suc k), bit-zero x, parity-plus x k)
plus-other (suc k) x (suc j) n e =
    rw (bit-suc (x + 2 ^ suc k) j, bit-suc x j, half-plus x k)
    (plus-other k (x / 2) j (λ q. n (ap suc q)) (sym (bit-suc x k) ∙ e))

plus-below : (k m x : ℕ) → k < m → x < 2 ^ m → bit x k ≡ false → x + 2 ^ k < 2 ^ m
plus-below zero (suc m) x l h e =
    let n = eqb-false (x % 2) 1 (sym (bit-zero x) ∙ e) in omega (arith, n)
plus-below (suc k) (suc m) x l h e =
    let r = plus-below k m (x / 2) (omega arith) (omega arith) (sym (bit-suc x k) ∙ e) in omega arith
plus-below k zero x l h e = absurd (omega arith)

-- ---- setting a bit

pub with_bit-same : (x k : ℕ) → bit (with_bit x k) k ≡ true
unfolding with_bit
with_bit-same x k = test (bit x k) (λ e. rw e e) (λ e. rw e (plus-same k x e))

pub with_bit-other : (x k j : ℕ) → j ≢ k → bit (with_bit x k) j ≡ bit x j
unfolding with_bit
with_bit-other x k j n = test (bit x k) (λ e. rw e) (λ e. rw e (plus-other k x j n e))

pub with_bit-below : (x k m : ℕ) → k < m → x < 2 ^ m → with_bit x k < 2 ^ m
unfolding with_bit
with_bit-below x k m l h = test (bit x k) (λ e. rw e h) (λ e. rw e (plus-below k m x l h e))

-- ---- zero has no bit, and nothing else has none

pub bit-of-zero : (k : ℕ) → bit 0 k ≡ false
bit-of-zero zero = bit-zero 0
bit-of-zero (suc k) = bit-suc 0 k ∙ bit-of-zero k

-- a bit makes a number positive
pub bit-positive : (x k : ℕ) → bit x k ≡ true → 1 ≤ x
bit-positive zero k e = absurd (false≢true (sym (bit-of-zero k) ∙ e))
bit-positive (suc x) k e = omega arith

-- a positive number below 2 ^ m has a bit below m
pub some-bit : (m x : ℕ) → 1 ≤ x → x < 2 ^ m → (k : ℕ) × (k < m) × (bit x k ≡ true)
some-bit zero x l h = absurd (omega arith)
some-bit (suc m) x l h =
    test (eqb (x % 2) 1)
    (λ e. (0, omega arith, bit-zero x ∙ e))
    (λ e.
    let n = eqb-false (x % 2) 1 e in
    let r = some-bit m (x / 2) (omega (arith, n)) (omega arith) in
    (suc r.0, omega arith, bit-suc x r.0 ∙ r.2))

-- ---- bits above a number, of a power of two, of or, and of a part

pub bit-above : (n x k : ℕ) → x < 2 ^ n → n ≤ k → bit x k ≡ false
bit-above zero x k h l = let e : x ≡ 0 = omega arith in rw e (bit-of-zero k)
bit-above (suc n) x zero h l = absurd (not-suc-le-zero l)
bit-above (suc n) x (suc k) h l =
    rw bit-suc (let g : x < 2 ^ n * 2 = rw pow-suc at h in bit-above n (x / 2) k (omega arith) (omega arith))

pub bit-pow : (k j : ℕ) → bit (2 ^ k) j ≡ eqb j k
bit-pow zero zero = rw bit-zero
bit-pow zero (suc j) = rw (bit-suc 1 j, eqb-suc-zero j) (bit-of-zero j)
bit-pow (suc k) zero = rw (bit-zero, eqb-zero-suc k) (ne_eqb (2 ^ suc k % 2) 1 (λ e. omega (arith, pow-suc 2 k)))
bit-pow (suc k) (suc j) = rw (bit-suc, pow-suc 2 k, mul-div_cancel (2 ^ k) {n = 2} (omega arith), eqb-suc-suc j k) (bit-pow k j)

or-bits : (a b : ℕ) → a < 2 → b < 2 → eqb (bit_or a b) 1 ≡ eqb a 1 || eqb b 1
or-bits zero b h k = refl
or-bits (suc zero) zero h k = refl
or-bits (suc zero) (suc zero) h k = refl
or-bits (suc zero) (suc (suc b)) h k = absurd (omega arith)
or-bits (suc (suc a)) b h k = absurd (omega arith)

pub bit-or : (x y k : ℕ) → bit (bit_or x y) k ≡ bit x k || bit y k
unfolding bit
bit-or x y k = rw (or_shr x y k, or_mod (x / 2 ^ k) (y / 2 ^ k) 1) (or-bits (x / 2 ^ k % 2) (y / 2 ^ k % 2) (omega arith) (omega arith))

and-bits : (a b : ℕ) → a < 2 → b < 2 → eqb (bit_and a b) 1 ≡ eqb a 1 && eqb b 1
and-bits zero b h k = refl
and-bits (suc zero) zero h k = refl
and-bits (suc zero) (suc zero) h k = refl
and-bits (suc zero) (suc (suc b)) h k = absurd (omega arith)
and-bits (suc (suc a)) b h k = absurd (omega arith)

pub bit-and : (x y k : ℕ) → bit (bit_and x y) k ≡ bit x k && bit y k
unfolding bit
bit-and x y k = rw (and_shr x y k, and_mod (x / 2 ^ k) (y / 2 ^ k) 1) (and-bits (x / 2 ^ k % 2) (y / 2 ^ k % 2) (omega arith) (omega arith))

-- all bits below 2 ^ n turned round
pub bit_not : (n x k : ℕ) → x < 2 ^ n → k < n → bit (2 ^ n - 1 - x) k ≡ not (bit x k)
bit_not zero x k h l = absurd (not-suc-le-zero l)
bit_not (suc n) x zero h l =
    let g : x < 2 ^ n * 2 = rw pow-suc at h in
    rw (bit-zero (2 ^ suc n - 1 - x), bit-zero x, pow-suc 2 n)
    (test (eqb (x % 2) 1)
    (λ e. rw e (ne_eqb ((2 ^ n * 2 - 1 - x) % 2) 1 (λ z. omega (arith, eqb-true (x % 2) 1 e))))
    (λ e. rw e (eq-eqb ((2 ^ n * 2 - 1 - x) % 2) 1 (omega (arith, eqb-false (x % 2) 1 e)))))
bit_not (suc n) x (suc k) h l =
    let g : x < 2 ^ n * 2 = rw pow-suc at h in
    let d : (2 ^ n * 2 - 1 - x) / 2 ≡ 2 ^ n - 1 - x / 2 = omega arith in
    rw (bit-suc (2 ^ suc n - 1 - x) k, bit-suc x k, pow-suc 2 n, d) (bit_not n (x / 2) k (omega arith) (omega arith))

-- bit j of the n bits of x from a on
pub bit-field : (x a n j : ℕ) → j < n → bit (x / 2 ^ a % 2 ^ n) j ≡ bit x (a + j)
unfolding bit
bit-field x a n j h =
    let e : n ≡ n - suc j + 1 + j = omega arith in
    ap (λ (m : ℕ). eqb (x / 2 ^ a % 2 ^ m / 2 ^ j % 2) 1) e
    ∙ ap (λ (y : ℕ). eqb (y % 2) 1) (field (x / 2 ^ a) (n - suc j + 1) j)
    ∙ ap (λ (y : ℕ). eqb y 1) (mod-mod-pow (x / 2 ^ a / 2 ^ j) (n - suc j) 1)
    ∙ ap (λ (y : ℕ). eqb (y % 2) 1) (shr-shr x a j)

-- ---- a bit set or not, and a number by its bits

pub bit-mark : (b : Bool) (x k j : ℕ) → bit (cond b (with_bit x k) x) j ≡ bit x j || (b && eqb j k)
bit-mark false x k j = sym (or-false (bit x j))
bit-mark true x k j =
    test (eqb j k)
    (λ e. rw (e, eqb-true j k e, with_bit-same x k) (sym (or-true (bit x k))))
    (λ e. rw (e, with_bit-other x k j (eqb-false j k e)) (sym (or-false (bit x j))))

same-parity : (x y : ℕ) → eqb (x % 2) 1 ≡ eqb (y % 2) 1 → x % 2 ≡ y % 2
same-parity x y h =
    test (eqb (x % 2) 1)
    (λ e. eqb-true _ _ e ∙ sym (eqb-true (y % 2) 1 (sym h ∙ e)))
    (λ e. omega (arith, eqb-false (x % 2) 1 e, eqb-false (y % 2) 1 (sym h ∙ e)))

pub bit-ext : (n x y : ℕ) → x < 2 ^ n → y < 2 ^ n → ((k : ℕ) → k < n → bit x k ≡ bit y k) → x ≡ y
bit-ext zero x y hx hy same = omega arith
bit-ext (suc n) x y hx hy same =
    let low = same-parity x y (sym (bit-zero x) ∙ same 0 (omega arith) ∙ bit-zero y) in
    let gx : x < 2 ^ n * 2 = rw pow-suc at hx in
    let gy : y < 2 ^ n * 2 = rw pow-suc at hy in
    let high = bit-ext n (x / 2) (y / 2) (omega arith) (omega arith)
    (λ k h. sym (bit-suc x k) ∙ same (suc k) (omega arith) ∙ bit-suc y k) in
    omega arith
