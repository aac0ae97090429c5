-- A set of agents as a mask, built from the highest agent down: the mask so far, doubled, and one more bit.
-- What is built at agent k has at bit j what the set says of agent k + 1 + j.
use Rattle.std.proofs.Common.{◌≡◌, sym, ◌∙◌, Bool, true, false, ℕ, zero, suc, ◌+◌, ◌-◌, ◌*◌, ◌/◌, ◌%◌, ◌^◌, ◌≤◌, ◌<◌, arith, pow-suc, ltb, pow_pos, shl_exact, eq-eqb, ne_eqb, ltb-true, ltb-false}
use mathlib.Core.Path.{fun_ext}
use native.Mathlib.Nat.{pow-le-pow_right}
use mir.Val.{bool_byte}
use Rattle.model_base.specs.Finite.{from_one}
use Rattle.model_base.specs.Bits.{bit}
use Rattle.model_base.proofs.Tests.{test}
use Rattle.model_base.proofs.Bits.{bit-zero, bit-suc, bit-of-zero}
use Rattle.model_base.specs.Sets.{members}
use Rattle.model_base.proofs.Masks.{byte-lt}

-- the agents above k are in
pub record Masked (f : ℕ → Bool) (mask k : ℕ) : Type 0 where
  pub few : k ≤ 12
  pub small : mask < 2 ^ (12 - k)
  pub bits : (j : ℕ) → bit mask j ≡ f (suc (k + j))

-- ---- one more bit

bit-low : (x : ℕ) (b : Bool) → bit (x * 2 + bool_byte b) 0 ≡ b
bit-low x true = bit-zero (x * 2 + 1) ∙ eq-eqb ((x * 2 + 1) % 2) 1 (omega arith)
bit-low x false = bit-zero (x * 2 + 0) ∙ ne_eqb ((x * 2 + 0) % 2) 1 (λ q. omega arith)

half : (x : ℕ) (b : Bool) → (x * 2 + bool_byte b) / 2 ≡ x
half x true = let e : (x * 2 + 1) / 2 ≡ x = omega arith in e
half x false = let e : (x * 2 + 0) / 2 ≡ x = omega arith in e

-- ---- the mask from the highest agent down

pub mask-begins : (f : ℕ → Bool) (n : ℕ) → n ≤ 12 → ((k : ℕ) → n < k → f k ≡ false) → Masked f 0 n
mask-begins f n l h =
    record { few = l; small = pow_pos (12 - n); bits = λ j. bit-of-zero j ∙ sym (h (suc (n + j)) (omega arith)) }

pub mask_fits : (f : ℕ → Bool) (mask k : ℕ) (b : Bool) → Masked f mask k → 0 < k → mask * 2 + bool_byte b < 4096
mask_fits f mask k b M l =
    let p : 2 ^ (12 - k) ≤ 2 ^ 11 = pow-le-pow_right (omega arith) {i = 12 - k} {j = 11} (omega arith) in omega (arith, M.small, byte-lt b)

pub mask-goes : (f : ℕ → Bool) (mask k : ℕ) (b : Bool) → Masked f mask k → 0 < k → b ≡ f k → Masked f (mask * 2 + bool_byte b) (k - 1)
mask-goes f mask zero b M l e = absurd (omega arith)
mask-goes f mask (suc k) b M l e =
    let d : suc k - 1 ≡ k = omega arith in
    rw d (record { few = omega (arith, M.few); small = below; bits = bits })
  where
    below : mask * 2 + bool_byte b < 2 ^ (12 - k)
    below = let d : 12 - k ≡ suc (12 - suc k) = omega (arith, M.few) in rw d (omega (arith, M.small, byte-lt b))

    bits : (j : ℕ) → bit (mask * 2 + bool_byte b) j ≡ f (suc (k + j))
    bits zero = let z : k + 0 ≡ k = omega arith in rw z (bit-low mask b ∙ e)
    bits (suc j) =
        let z : k + suc j ≡ suc k + j = omega arith in
        rw (z, bit-suc (mask * 2 + bool_byte b) j, half mask b) (M.bits j)

-- down to agent 1
pub mask-ends : (f : ℕ → Bool) (mask k : ℕ) → Masked f mask k → k ≡ 0 → f 0 ≡ false → members mask ≡ f
unfolding members from_one
mask-ends f mask k M e h =
    fun_ext (elim [ zero ↦ sym h | suc j ↦ let z : k + j ≡ j = omega arith in rw z at (M.bits j) ])

-- ---- down to an agent, and moved up to where the rest begins

bit_below : (i x j : ℕ) → j < i → bit (x * 2 ^ i) j ≡ false
bit_below zero x j h = absurd (omega arith)
bit_below (suc i) x zero h = rw pow-suc (bit-zero (x * (2 ^ i * 2)) ∙ ne_eqb (x * (2 ^ i * 2) % 2) 1 (λ q. omega arith))
bit_below (suc i) x (suc j) h =
    let e : x * 2 ^ suc i / 2 ≡ x * 2 ^ i = rw pow-suc (omega arith) in
    rw (bit-suc (x * 2 ^ suc i) j, e) (bit_below i x j (omega arith))

bit_moved : (i x j : ℕ) → bit (x * 2 ^ i) (i + j) ≡ bit x j
bit_moved zero x j = let e : x * 2 ^ 0 ≡ x = omega arith in let z : 0 + j ≡ j = omega arith in rw (e, z)
bit_moved (suc i) x j =
    let e : x * 2 ^ suc i / 2 ≡ x * 2 ^ i = rw pow-suc (omega arith) in
    let z : suc i + j ≡ suc (i + j) = omega arith in
    rw (z, bit-suc (x * 2 ^ suc i) (i + j), e) (bit_moved i x j)

pub mask-moved : (f : ℕ → Bool) (mask i : ℕ) → Masked f mask i → ((k : ℕ) → k ≤ i → f k ≡ false) → members (mask * 2 ^ i % 2 ^ 16) ≡ f
unfolding members from_one
mask-moved f mask i M h =
    rw (shl_exact (12 - i) i 16 M.small (omega (arith, M.few)))
    (fun_ext (elim [ zero ↦ sym (h 0 (omega arith)) | suc j ↦ at-bit j ]))
  where
    at-bit : (j : ℕ) → bit (mask * 2 ^ i) j ≡ f (suc j)
    at-bit j =
        test (ltb j i)
        (λ t. bit_below i mask j (ltb-true j i t) ∙ sym (h (suc j) (ltb-true j i t)))
        (λ t. let d : j ≡ i + (j - i) = omega (arith, ltb-false j i t) in rw d (bit_moved i mask (j - i) ∙ M.bits (j - i)))
