-- The bytes of two words, one for each agent: their bits, one byte changed, and all of them laid over each other.
use Rattle.std.proofs.Common.{ℕ, zero, suc, pred, ◌+◌, ◌*◌, ◌-◌, ◌/◌, ◌%◌, ◌^◌, ◌≤◌, ◌<◌, ◌≡◌, refl, sym, ap, ◌∙◌, Bool, pow-suc, mul-suc, sub-one, arith, leb, bit_or, pow-add, le-leb, leb-true, leb-false}
use borrow.Author.Tests.{lt-leb}
use Rattle.model_base.specs.Finite.{at, lowest, is_some}
use Rattle.model_base.specs.Bits.{bit}
use Rattle.model_base.proofs.Tests.{test, eq_test}
use Rattle.model_base.proofs.Search.{at_same, at_other}
use Rattle.model_base.proofs.Bits.{bit-or, bit-field}
use Rattle.model_base.proofs.Peeling.{bit-shr, bit-low}
use Rattle.model_agent.specs.Shape.{max_named}
use Rattle.abt_choosing.specs.Conflicts.{byte, byte_of}
use Rattle.abt_choosing.specs.declared.Conflicts.{Conflicts}
use Rattle.abt_packed.specs.Packed.{exchanged}
use Rattle.abt_packed.proofs.Fields.{same, others}
use Rattle.model_base.proofs.Searches.{is_some-halves}

pow256 : (k : ℕ) → 256 ^ k ≡ 2 ^ (8 * k)
pow256 zero = refl
pow256 (suc k) = rw (pow-suc 256 k, pow256 k, mul-suc 8 k, pow-add 2 (8 * k) 8)

-- ---- as the code has them

pub byte_low : (b : Conflicts) (k : ℕ) → k ≤ 8 → byte_of b k ≡ b.low / 2 ^ (8 * (k - 1)) % 256
unfolding byte_of byte
byte_low b k h = rw (le-leb k 8 h, byte_of, pow256 (pred k), sub-one k)

pub byte_high : (b : Conflicts) (k : ℕ) → 8 < k → byte_of b k ≡ b.high / 2 ^ (8 * (k - 9)) % 256
unfolding byte_of byte
byte_high b k h = rw (lt-leb k 8 h, byte_of, pow256 (k - 9))

pub bit-of-low : (b : Conflicts) (k i : ℕ) → k ≤ 8 → i < 8 → bit (byte_of b k) i ≡ bit b.low (8 * (k - 1) + i)
bit-of-low b k i h l = rw (byte_low b k h) (bit-field b.low (8 * (k - 1)) 8 i l)

pub bit-of-high : (b : Conflicts) (k i : ℕ) → 8 < k → i < 8 → bit (byte_of b k) i ≡ bit b.high (8 * (k - 9) + i)
bit-of-high b k i h l = rw (byte_high b k h) (bit-field b.high (8 * (k - 9)) 8 i l)

-- ---- one byte changed

module _ (b : Conflicts) (k v : ℕ) (small : v < 256) where
  pub changed-low : 1 ≤ k → k ≤ 8 → (j : ℕ) → 1 ≤ j
      → byte_of (record { low = exchanged 8 (8 * (k - 1)) b.low v; high = b.high }) j ≡ at (byte_of b) k v j
  changed-low l h j a =
      let r : Conflicts = record { low = exchanged 8 (8 * (k - 1)) b.low v; high = b.high } in
      eq_test j k
      (λ e. rw (e, at_same (byte_of b) k v, byte_low r k h) (same 8 (8 * (k - 1)) b.low v small))
      (λ n. rw (at_other (byte_of b) k v j n)
      (test (leb j 8)
      (λ t. rw (byte_low r j (leb-true j 8 t), byte_low b j (leb-true j 8 t)) (others 8 (k - 1) b.low v small (j - 1) (λ u. n (omega arith))))
      (λ t. rw (byte_high r j (leb-false j 8 t), byte_high b j (leb-false j 8 t)))))

  pub changed-high : 8 < k → (j : ℕ) → 1 ≤ j
      → byte_of (record { low = b.low; high = exchanged 8 (8 * (k - 9)) b.high v }) j ≡ at (byte_of b) k v j
  changed-high h j a =
      let r : Conflicts = record { low = b.low; high = exchanged 8 (8 * (k - 9)) b.high v } in
      eq_test j k
      (λ e. rw (e, at_same (byte_of b) k v, byte_high r k h) (same 8 (8 * (k - 9)) b.high v small))
      (λ n. rw (at_other (byte_of b) k v j n)
      (test (leb j 8)
      (λ t. rw (byte_low r j (leb-true j 8 t), byte_low b j (leb-true j 8 t)))
      (λ t.
      let over = leb-false j 8 t in
      rw (byte_high r j over, byte_high b j over) (others 8 (k - 9) b.high v small (j - 9) (λ u. n (omega arith))))))

-- ---- all of them laid over each other, half over half

-- the upper n bytes of a word over the lower n
half_over : (n x i : ℕ) → is_some (lowest (n + n) 1 (λ k. bit x (8 * (k - 1) + i)))
    ≡ is_some (lowest n 1 (λ k. bit (bit_or x (x / 2 ^ (8 * n))) (8 * (k - 1) + i)))
half_over n x i =
    is_some-halves n 1 (λ k. bit x (8 * (k - 1) + i)) (λ k. bit (bit_or x (x / 2 ^ (8 * n))) (8 * (k - 1) + i))
    (λ j a b.
    let e : 8 * (j + n - 1) + i ≡ 8 * n + (8 * (j - 1) + i) = omega arith in
    rw (bit-or x (x / 2 ^ (8 * n)) (8 * (j - 1) + i), bit-shr x (8 * n) (8 * (j - 1) + i), e))

pub words-over : (b : Conflicts) (i : ℕ) → i < 8 → is_some (lowest max_named 1 (λ k. bit (byte_of b k) i))
    ≡ is_some (lowest 8 1 (λ k. bit (bit_or b.low b.high) (8 * (k - 1) + i)))
unfolding max_named
words-over b i h =
    is_some-halves 8 1 (λ k. bit (byte_of b k) i) (λ k. bit (bit_or b.low b.high) (8 * (k - 1) + i))
    (λ j a l.
    let e : j + 8 - 9 ≡ j - 1 = omega arith in
    rw (bit-or b.low b.high (8 * (j - 1) + i), bit-of-low b j i (omega arith) h, bit-of-high b (j + 8) i (omega arith) h, e))

one_of : (p : ℕ → Bool) → is_some (lowest 1 1 p) ≡ p 1
unfolding is_some lowest
one_of p = test (p 1) (λ t. rw (t, lowest)) (λ t. rw (t, lowest))

-- as the code does it
abbrev pub overlaid : Conflicts → ℕ
overlaid b =
    let eight = bit_or b.low b.high in
    let four = bit_or eight (eight / 2 ^ 32) in
    let two = bit_or four (four / 2 ^ 16) in
    bit_or two (two / 2 ^ 8) % 256

pub overlaid-bit : (b : Conflicts) (i : ℕ) → i < 8 → bit (overlaid b) i ≡ is_some (lowest max_named 1 (λ k. bit (byte_of b k) i))
overlaid-bit b i h =
    let eight = bit_or b.low b.high in
    let four = bit_or eight (eight / 2 ^ 32) in
    let two = bit_or four (four / 2 ^ 16) in
    let one = bit_or two (two / 2 ^ 8) in
    let e : 0 + i ≡ i = omega arith in
    bit-low one 8 i h
    ∙ ap (λ (j : ℕ). bit one j) (sym e)
    ∙ sym (words-over b i h ∙ half_over 4 eight i ∙ half_over 2 four i ∙ half_over 1 two i ∙ one_of (λ k. bit one (8 * (k - 1) + i)))
