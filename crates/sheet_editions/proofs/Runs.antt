-- One step of a run: where it begins, and whether it goes on.
use Rattle.std.proofs.Common.{ℕ, zero, suc, ◌+◌, ◌-◌, ◌<◌, ◌≡◌, ap, ◌∙◌, Bool, true, false, not, add-one, arith}
use Rattle.model_base.specs.Finite.{from_one}
use Rattle.model_editions.specs.Gaps.{gap_places, begins, last_from, last_of}

module _ (g : ℕ → Bool) where
  -- ---- where it begins

  pub not-begun : (k : ℕ) → g k ≡ false → begins g k ≡ false
  unfolding begins
  not-begun k e = rw e

  pub begun_first : (k : ℕ) → k ≡ 0 → g k ≡ true → begins g k ≡ true
  unfolding begins from_one
  begun_first zero z e = rw e
  begun_first (suc k) z e = absurd (omega arith)

  pub begun-above : (k : ℕ) → 0 < k → g k ≡ true → begins g k ≡ not (g (k - 1))
  unfolding begins from_one
  begun-above zero l e = absurd (omega arith)
  begun-above (suc k) l e = let same : suc k - 1 ≡ k = omega arith in rw (e, same)

  -- ---- its last place, where it has come to place k

  stops : (m k : ℕ) → g (suc k) ≡ false → last_from (suc m) k g ≡ k
  unfolding last_from
  stops m k e = rw (e, last_from)

  goes_on : (m k : ℕ) → g (suc k) ≡ true → last_from (suc m) k g ≡ last_from m (suc k) g
  unfolding last_from
  goes_on m k e = rw (e, last_from)

  pub last-here : (k : ℕ) → k < 14 → g (k + 1) ≡ false → last_of g k ≡ k
  unfolding last_of gap_places
  last-here k h e =
      let m : 14 - k ≡ suc (13 - k) = omega arith in
      ap (λ (x : ℕ). last_from x k g) m ∙ stops (13 - k) k (rw add-one at e)

  pub last_on : (k : ℕ) → k < 14 → g (k + 1) ≡ true → last_of g k ≡ last_of g (k + 1)
  unfolding last_of gap_places
  last_on k h e =
      let m : 14 - k ≡ suc (13 - k) = omega arith in
      let n : 13 - k ≡ 14 - suc k = omega arith in
      ap (λ (x : ℕ). last_from x k g) m ∙ goes_on (13 - k) k (rw add-one at e) ∙ rw add-one (ap (λ (x : ℕ). last_from x (suc k) g) n)

  pub last_end : (k : ℕ) → k ≡ 14 → last_of g k ≡ k
  unfolding last_of last_from gap_places
  last_end k e = rw e
