-- A number with s of its bits changed, those from bit p on: these bits are the new ones, those below and above are as they were.
use Rattle.std.proofs.Common.{ℕ, zero, suc, ◌+◌, ◌*◌, ◌-◌, ◌/◌, ◌%◌, ◌^◌, ◌≤◌, ◌<◌, ◌≡◌, sym, ap, ◌∙◌, ◌≢◌, not-suc-le-zero, mul-suc, mod-lt, div-lt_iff_lt-mul, mul-le-mul_left, arith, bit_and, pow_pos, pow-add, shr-shr, shr_lt, shl_exact, ltb, ltb-true, ltb-false}
use lib.Bits.{and_high}
use lib.Pow.{split, high, low, field, mod-mod-pow, ones_lt, high_ones}
use Rattle.model_base.proofs.Tests.{test}
use Rattle.abt_packed.specs.Packed.{exchanged}

module _ (s p x v : ℕ) where
  -- above, those bits, below
  parts : x ≡ (x / 2 ^ p / 2 ^ s * 2 ^ s + x / 2 ^ p % 2 ^ s) * 2 ^ p + x % 2 ^ p
  parts = rw (split (x / 2 ^ p) s) (sym (split x p))

  pub out : x / 2 ^ p % 2 ^ s * 2 ^ p ≤ x
  out = omega (arith, parts)

  parts-after : exchanged s p x v ≡ (x / 2 ^ p / 2 ^ s * 2 ^ s + v) * 2 ^ p + x % 2 ^ p
  unfolding exchanged
  parts-after = omega (arith, parts)

  over : exchanged s p x v / 2 ^ p ≡ x / 2 ^ p / 2 ^ s * 2 ^ s + v
  over = rw parts-after (high (x / 2 ^ p / 2 ^ s * 2 ^ s + v) p (mod-lt x (pow_pos p)))

  under : exchanged s p x v % 2 ^ p ≡ x % 2 ^ p
  under = rw parts-after (low (x / 2 ^ p / 2 ^ s * 2 ^ s + v) p (mod-lt x (pow_pos p)))

  module _ (small : v < 2 ^ s) where
    pub same : exchanged s p x v / 2 ^ p % 2 ^ s ≡ v
    same = rw over (low (x / 2 ^ p / 2 ^ s) s small)

    beyond : exchanged s p x v / 2 ^ (p + s) ≡ x / 2 ^ (p + s)
    beyond = sym (shr-shr (exchanged s p x v) p s) ∙ ap (λ (y : ℕ). y / 2 ^ s) over ∙ high (x / 2 ^ p / 2 ^ s) s small ∙ shr-shr x p s

    pub above : (q : ℕ) → p + s ≤ q → exchanged s p x v / 2 ^ q ≡ x / 2 ^ q
    above q h =
        let e : q ≡ p + s + (q - (p + s)) = omega arith in
        rw (e, ← shr-shr (exchanged s p x v) (p + s) (q - (p + s)), ← shr-shr x (p + s) (q - (p + s)), beyond)

    pub fits : (n : ℕ) → p + s ≤ n → x < 2 ^ n → exchanged s p x v < 2 ^ n
    fits n h l =
        let e : n ≡ n - (p + s) + (p + s) = omega arith in
        let g : x < 2 ^ (n - (p + s) + (p + s)) = rw (← e) l in
        rw (e, pow-add 2 (n - (p + s)) (p + s))
        ((div-lt_iff_lt-mul (pow_pos (p + s))).0 (rw beyond (shr_lt (n - (p + s)) (p + s) g)))

  -- s bits below
  pub below : (q : ℕ) → q + s ≤ p → exchanged s p x v / 2 ^ q % 2 ^ s ≡ x / 2 ^ q % 2 ^ s
  below q h =
      let e : p ≡ p - (s + q) + (s + q) = omega arith in
      let same : exchanged s p x v % 2 ^ (s + q) ≡ x % 2 ^ (s + q) =
      sym (mod-mod-pow (exchanged s p x v) (p - (s + q)) (s + q))
      ∙ ap (λ (n : ℕ). exchanged s p x v % 2 ^ n % 2 ^ (s + q)) (sym e)
      ∙ ap (λ (n : ℕ). n % 2 ^ (s + q)) under
      ∙ ap (λ (n : ℕ). x % 2 ^ n % 2 ^ (s + q)) e
      ∙ mod-mod-pow x (p - (s + q)) (s + q) in
      rw (← field (exchanged s p x v) s q, ← field x s q, same)

-- ---- as the code has it, in words of 64 bits

-- field k, from 1, has room
pub room : (s k : ℕ) → 1 ≤ k → s * k ≤ 64 → s + s * (k - 1) ≤ 64
room s zero l h = absurd (not-suc-le-zero l)
room s (suc k) l h = let e : suc k - 1 ≡ k = omega arith in rw e (omega (arith, mul-suc s k))

pub record Exchange (s p x v old : ℕ) : Type 0 where
  pub taken : old * 2 ^ p % 2 ^ 64 ≤ x
  pub is : x - old * 2 ^ p % 2 ^ 64 + v * 2 ^ p % 2 ^ 64 ≡ exchanged s p x v
  pub holds : x - old * 2 ^ p % 2 ^ 64 + v * 2 ^ p % 2 ^ 64 < 2 ^ 64

pub exchange : (s p x v old : ℕ) → x < 2 ^ 64 → v < 2 ^ s → s + p ≤ 64 → old ≡ x / 2 ^ p % 2 ^ s → Exchange s p x v old
unfolding exchanged
exchange s p x v old hx small h e =
    let same : x - old * 2 ^ p % 2 ^ 64 + v * 2 ^ p % 2 ^ 64 ≡ exchanged s p x v =
    rw (e, shl_exact s p 64 (mod-lt (x / 2 ^ p) (pow_pos s)) h, shl_exact s p 64 small h) in
    record {
      taken = rw (e, shl_exact s p 64 (mod-lt (x / 2 ^ p) (pow_pos s)) h) (out s p x v);
      is = same;
      holds = rw same (fits s p x v small 64 (omega arith) hx);
    }

-- those bits by a mask
pub masked : (s p x : ℕ) → s + p ≤ 64 → bit_and x ((2 ^ s - 1) * 2 ^ p % 2 ^ 64) ≡ x / 2 ^ p % 2 ^ s * 2 ^ p % 2 ^ 64
masked s p x h =
    rw (shl_exact s p 64 (ones_lt s) h, shl_exact s p 64 (mod-lt (x / 2 ^ p) (pow_pos s)) h, ← high_ones s p)
    (and_high x s p)

-- one more or one less in them
one-taken : (d q x : ℕ) → 1 ≤ d → d * q ≤ x → (q ≤ x) × (x - d * q + (d - 1) * q ≡ x - q)
one-taken zero q x l h = absurd (not-suc-le-zero l)
one-taken (suc d) q x l h = let e : suc d - 1 ≡ d = omega arith in (omega arith, rw e (omega arith))

module _ (s p x : ℕ) where
  pub more : exchanged s p x (x / 2 ^ p % 2 ^ s + 1) ≡ x + 2 ^ p
  unfolding exchanged
  more = omega (arith, out s p x 0)

  pub less : 1 ≤ x / 2 ^ p % 2 ^ s → (2 ^ p ≤ x) × (exchanged s p x (x / 2 ^ p % 2 ^ s - 1) ≡ x - 2 ^ p)
  unfolding exchanged
  less h = one-taken (x / 2 ^ p % 2 ^ s) (2 ^ p) x h (out s p x 0)

-- ---- digits of s bits: the others

pub others : (s k x v : ℕ) → v < 2 ^ s → (j : ℕ) → j ≢ k → exchanged s (s * k) x v / 2 ^ (s * j) % 2 ^ s ≡ x / 2 ^ (s * j) % 2 ^ s
others s k x v small j n =
    test (ltb j k)
    (λ t. below s (s * k) x v (s * j) (omega (arith, mul-le-mul_left s (ltb-true j k t))))
    (λ t.
    let over : suc k ≤ j = omega (arith, n, ltb-false j k t) in
    ap (λ (y : ℕ). y % 2 ^ s) (above s (s * k) x v small (s * j) (omega (arith, mul-le-mul_left s over))))
