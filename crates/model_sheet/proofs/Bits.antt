-- The bits of a word with the pairs of values that h names: those it had, and those pairs.
-- Value by value of the higher agent, then of the lower; a pair of values has a bit of its own.
use Rattle.std.proofs.Common.{◌≡◌, refl, sym, ◌∙◌, Bool, true, false, cond, ◌&&◌, ◌||◌, ℕ, zero, suc, ◌^◌, ◌≤◌, ◌<◌, arith, eqb, eqb-true, eq-eqb}
use mathlib.Core.Bool.{and-true, and-false, or-true, or-false, or_self}
use borrow.Author.Tests.{eqb-false}
use Rattle.model_base.specs.Finite.{within, each}
use Rattle.model_base.specs.Bits.{bit, with_bit}
use Rattle.model_base.proofs.Tests.{test, both, to_both, within-true, to-within, not_within}
use Rattle.model_base.proofs.Peeling.{same_test}
use Rattle.model_base.proofs.Bits.{bit-mark, with_bit-below}
use Rattle.model_sheet.specs.Problem.{max_domain, bit_at, with_bits}

-- a possible value
pub record Value (v : ℕ) : Type 0 where
  pub low : 1 ≤ v
  pub high : v ≤ max_domain

-- ---- one value more

-- of 1 to m + 1: m + 1 or one of 1 to m
within_more : (m k : ℕ) → within (suc m) k ≡ within m k || eqb k (suc m)
within_more m k =
    test (eqb k (suc m))
    (λ q. rw (q, eqb-true k (suc m) q, or-true) (to-within (suc m) (suc m) (omega arith) (omega arith)))
    (λ q. rw (q, or-false)
    (same_test _ _
    (λ t. let b = within-true (suc m) k t in to-within m k b.0 (omega (arith, eqb-false k (suc m) q)))
    (λ t. let b = within-true m k t in to-within (suc m) k b.0 (omega arith))))

-- one more pair, where g is h at that pair
joined : (x a w e g h : Bool) → (a ≡ true → e ≡ true → g ≡ h) → (x || (a && w && h)) || (g && (a && e)) ≡ x || (a && (w || e) && h)
joined true a w e g h same = refl
joined false false w e g h same = and-false g
joined false true true false g h same = rw (and-false g) (or-false h)
joined false true false false g h same = and-false g
joined false true true true g h same = rw (and-true g, same refl refl) (or_self h)
joined false true false true g h same = and-true g ∙ same refl refl

-- one more row
spread : (x a b w h : Bool) → (x || (a && w && h)) || (b && w && h) ≡ x || ((a || b) && w && h)
spread true a b w h = refl
spread false true true w h = or_self (w && h)
spread false true false w h = or-false (w && h)
spread false false b w h = refl

-- ---- the bits

pub same_bit : (v w v' w' : ℕ) → Value v → Value w → Value v' → Value w' → eqb (bit_at v w) (bit_at v' w') ≡ eqb v v' && eqb w w'
unfolding bit_at max_domain
same_bit v w v' w' a b c d =
    same_test _ _
    (λ t.
    let e = eqb-true (bit_at v w) (bit_at v' w') t in
    to_both _ _ (eq-eqb v v' (omega arith)) (eq-eqb w w' (omega arith)))
    (λ t. let e = both (eqb v v') _ t in rw (eqb-true v v' e.0, eqb-true w w' e.1) (eq-eqb (bit_at v' w') _ refl))

module _ (h : ℕ → ℕ → Bool) (v w : ℕ) (fv : Value v) (fw : Value w) where
  -- a row of the word: value v' of the lower agent
  row-bits : (e v' x : ℕ) → e ≤ max_domain → Value v'
      → bit (each e (λ w x. cond (h v' w) (with_bit x (bit_at v' w)) x) x) (bit_at v w) ≡ bit x (bit_at v w) || (eqb v v' && within e w && h v w)
  unfolding each
  row-bits zero v' x he g = rw (not_within 0 w (λ l u. omega arith), and-false (eqb v v')) (sym (or-false _))
  row-bits (suc e) v' x he g =
      let last : Value (suc e) = record { low = omega arith; high = he } in
      bit-mark (h v' (suc e)) (each e _ x) (bit_at v' (suc e)) (bit_at v w)
      ∙ rw (row-bits e v' x (omega arith) g, same_bit v w v' (suc e) fv fw g last, within_more e w)
      (joined (bit x (bit_at v w)) (eqb v v') (within e w) (eqb w (suc e)) (h v' (suc e)) (h v w)
      (λ p q. rw (eqb-true v v' p, eqb-true w (suc e) q)))

  pub bits : (d e x : ℕ) → d ≤ max_domain → e ≤ max_domain
      → bit (with_bits d e h x) (bit_at v w) ≡ bit x (bit_at v w) || (within d v && within e w && h v w)
  unfolding each with_bits
  bits zero e x hd he = rw (not_within 0 v (λ l u. omega arith)) (sym (or-false _))
  bits (suc d) e x hd he =
      row-bits e (suc d) (with_bits d e h x) he (record { low = omega arith; high = hd })
      ∙ rw (bits d e x (omega arith) he, within_more d v) (spread (bit x (bit_at v w)) (within d v) (eqb v (suc d)) (within e w) (h v w))

-- ---- the word stays a word

row_below : (h : ℕ → Bool) (e v x : ℕ) → e ≤ max_domain → Value v → x < 2 ^ 64
    → each e (λ w x. cond (h w) (with_bit x (bit_at v w)) x) x < 2 ^ 64
unfolding each bit_at max_domain
row_below h zero v x he f l = l
row_below h (suc e) v x he f l = marked (h (suc e)) _ (row_below h e v x (omega arith) f l)
  where
    marked : (b : Bool) (y : ℕ) → y < 2 ^ 64 → cond b (with_bit y (bit_at v (suc e))) y < 2 ^ 64
    marked true y k = with_bit-below y (bit_at v (suc e)) 64 (omega arith) k
    marked false y k = k

pub bits_below : (h : ℕ → ℕ → Bool) (d e x : ℕ) → d ≤ max_domain → e ≤ max_domain → x < 2 ^ 64 → with_bits d e h x < 2 ^ 64
unfolding each with_bits
bits_below h zero e x hd he l = l
bits_below h (suc d) e x hd he l =
    row_below (h (suc d)) e (suc d) (with_bits d e h x) he (record { low = omega arith; high = hd }) (bits_below h d e x (omega arith) he l)
