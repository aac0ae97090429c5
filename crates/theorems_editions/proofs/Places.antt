-- Gaps as places: the place of a pair of slots tells its gap, and the bytes of two places tell which gaps lie between.
-- The bytes are 15, tested by computation.
use Rattle.std.proofs.Common.{ℕ, suc, pred, ◌≤◌, ◌<◌, ◌≡◌, refl, sym, ◌∙◌, Bool, true, ◌&&◌, arith, leb, pos, neg_ℤ, ◌-ℤ◌, leb-true, le-leb}
use lib.Signed.{le_z}
use Rattle.model_base.specs.Finite.{all_to}
use Rattle.model_base.specs.Same.{same_bool}
use Rattle.model_base.proofs.Tests.{to_both}
use Rattle.model_base.proofs.Search.{all_to-at}
use Rattle.model_base.proofs.Same.{same_bool_lem}
use Rattle.model_sheet.specs.Problem.{max_domain}
use Rattle.model_sheet.specs.Row.{signed, between, gaps_good, gap}
use Rattle.model_sheet.proofs.Gaps.{gap_at}
use Rattle.model_editions.specs.Gaps.{place_of, gap_byte}

-- ---- the place of a pair of slots

pub record Slots (v w : ℕ) : Type 0 where
  pub low : 1 ≤ v
  pub most : v ≤ max_domain
  pub low' : 1 ≤ w
  pub most' : w ≤ max_domain

pub place_inside : (v w : ℕ) → Slots v w → place_of v w < 15
unfolding max_domain place_of
place_inside v w s = omega (arith, s.low, s.most, s.low', s.most')

pub gap-place : (v w : ℕ) → Slots v w → gap v w ≡ pos (place_of v w) -ℤ pos 7
unfolding max_domain place_of
gap-place v w s = gap_at (place_of v w) v w s.low (omega (arith, s.low', s.most))

pub same_gap : (v w v' w' : ℕ) → Slots v w → Slots v' w' → place_of v w ≡ place_of v' w' → gap v w ≡ gap v' w'
same_gap v w v' w' s s' e = gap-place v w s ∙ rw e (sym (gap-place v' w' s'))

-- ---- bytes

unfoldable fifteen : (ℕ → Bool) → Bool
fifteen f = all_to 15 (λ k. f (pred k))

at-fifteen : (f : ℕ → Bool) → fifteen f ≡ true → (k : ℕ) → k < 15 → f k ≡ true
unfolding fifteen
at-fifteen f t k h = all_to-at 15 (λ k. f (pred k)) t (suc k) (omega arith) h

least : fifteen (λ a. fifteen (λ k. same_bool (le_z (signed (gap_byte a)) (pos k -ℤ pos 7)) (leb a k))) ≡ true
unfolding all_to signed same_bool gap_byte fifteen
least = refl

greatest : fifteen (λ b. fifteen (λ k. same_bool (le_z (pos k -ℤ pos 7) (signed (gap_byte b))) (leb k b))) ≡ true
unfolding all_to signed same_bool gap_byte fifteen
greatest = refl

inside : fifteen (λ a. between (neg_ℤ (pos 7)) (pos 7) (signed (gap_byte a))) ≡ true
unfolding all_to signed between gap_byte fifteen
inside = refl

order : fifteen (λ a. fifteen (λ b. same_bool (le_z (signed (gap_byte a)) (signed (gap_byte b))) (leb a b))) ≡ true
unfolding all_to signed same_bool gap_byte fifteen
order = refl

two : (f g : ℕ → ℕ → Bool) → fifteen (λ a. fifteen (λ b. same_bool (f a b) (g a b))) ≡ true → (a b : ℕ) → a < 15 → b < 15 → f a b ≡ g a b
two f g t a b h k = same_bool_lem _ _ (at-fifteen _ (at-fifteen _ t a h) b k)

-- equal gaps have one place
place-order : (k l : ℕ) → k < 15 → l < 15 → pos k -ℤ pos 7 ≡ pos l -ℤ pos 7 → k ≤ l
place-order k l hk hl e =
    let compare = two (λ a k. le_z (signed (gap_byte a)) (pos k -ℤ pos 7)) leb least k in
    leb-true k l (sym (compare l hk hl) ∙ rw (← e) (compare k hk hk ∙ le-leb k k (omega arith)))

pub same_place : (v w v' w' : ℕ) → Slots v w → Slots v' w' → gap v w ≡ gap v' w' → place_of v w ≡ place_of v' w'
same_place v w v' w' s s' e =
    let q = sym (gap-place v w s) ∙ e ∙ gap-place v' w' s' in
    let h = place_inside v w s in
    let h' = place_inside v' w' s' in
    omega (arith, place-order (place_of v w) (place_of v' w') h h' q, place-order (place_of v' w') (place_of v w) h' h (sym q))

-- a gap lies from the gap at place a to the gap at place b
pub gap-between : (a b v w : ℕ) → a < 15 → b < 15 → Slots v w
    → between (signed (gap_byte a)) (signed (gap_byte b)) (gap v w) ≡ leb a (place_of v w) && leb (place_of v w) b
unfolding between
gap-between a b v w ha hb s =
    let k = place_of v w in
    let hk = place_inside v w s in
    rw (gap-place v w s, two (λ a k. le_z (signed (gap_byte a)) (pos k -ℤ pos 7)) leb least a k ha hk)
    (rw (two (λ b k. le_z (pos k -ℤ pos 7) (signed (gap_byte b))) (λ b k. leb k b) greatest b k hb hk))

-- and the bytes of two places, upward, are good fields
pub places-good : (i j a b : ℕ) → a ≤ b → b < 15 → gaps_good (record { lower = i; higher = j; low = gap_byte a; high = gap_byte b }) ≡ true
unfolding gaps_good
places-good i j a b l h =
    to_both _ _ (to_both _ _ (at-fifteen _ inside a (omega arith)) (at-fifteen _ inside b h))
    (two (λ a b. le_z (signed (gap_byte a)) (signed (gap_byte b))) leb order a b (omega arith) h ∙ le-leb a b l)
