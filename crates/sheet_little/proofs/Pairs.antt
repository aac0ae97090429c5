-- The pairs put down so far, and what is chosen of those from k on: together the pairs of the set of bans.
-- The bits of the set are taken from the lowest, one for each owned pair.
use Rattle.std.proofs.Common.{ℕ, suc, ◌-◌, ◌/◌, ◌<◌, ◌≡◌, sym, ap, ◌∙◌, true, false, cond, List, [], ◌∷◌, ◌++◌, append-nil, append_assoc, arith}
use Rattle.model_base.specs.Finite.{gather}
use Rattle.model_sheet.specs.Row.{Row}
use Rattle.model_little.specs.Little.{chosen}
use Rattle.sheet_little.specs.Rows.{place_at, owned_by, rows_from, ban_of}
use Rattle.sheet_little.specs.declared.choice.Counts.{Counts}

-- ---- one pair further

module _ (c : Counts) (k x : ℕ) (h : k < 12) where
  rows_next : rows_from c k ≡ cond (owned_by c k) (place_at k ∷ []) [] ++ rows_from c (suc k)
  unfolding gather rows_from
  rows_next = let e : 12 - k ≡ suc (12 - suc k) = omega arith in rw e

  skipped : owned_by c k ≡ false → rows_from c k ≡ rows_from c (suc k)
  skipped e = rows_next ∙ rw e

  owned : owned_by c k ≡ true → rows_from c k ≡ place_at k ∷ rows_from c (suc k)
  owned e = rows_next ∙ rw e

  by_bit : owned_by c k ≡ true → chosen x (rows_from c k) ≡ ban_of x (place_at k) ++ chosen (x / 2) (rows_from c (suc k))
  unfolding chosen ban_of
  by_bit e = ap (chosen x) (owned e)

-- ---- the loop over the pairs

-- the rows put down, and behind them what the bits left choose from k on
abbrev pub Going : Counts → List Row → List Row → ℕ → ℕ → Type 0
Going c all rows k left = rows ++ chosen left (rows_from c k) ≡ all

module _ (c : Counts) (all rows : List Row) (k left : ℕ) (h : k < 12) (g : Going c all rows k left) where
  pub going-skipped : owned_by c k ≡ false → Going c all rows (suc k) left
  going-skipped e = ap (λ (l : List Row). rows ++ chosen left l) (sym (skipped c k left h e)) ∙ g

  pub going-owned : owned_by c k ≡ true → (new : List Row) → new ≡ rows ++ ban_of left (place_at k) → Going c all new (suc k) (left / 2)
  going-owned e new f =
      let rest = chosen (left / 2) (rows_from c (suc k)) in
      ap (λ (l : List Row). l ++ rest) f
      ∙ append_assoc rows (ban_of left (place_at k)) rest
      ∙ ap (λ (l : List Row). rows ++ l) (sym (by_bit c k left h e))
      ∙ g

pub going-ends : (c : Counts) (all rows : List Row) (k left : ℕ) → k ≡ 12 → Going c all rows k left → rows ≡ all
unfolding gather chosen rows_from
going-ends c all rows k left e g = sym (append-nil rows) ∙ rw e at g
