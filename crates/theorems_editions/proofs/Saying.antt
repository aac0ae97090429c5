-- A sheet that is written of good rows that say a table, no more and no less, is accepted and gives that table.
-- What the rows ban on the empty table is what the table has, ban by ban.
use Rattle.std.proofs.Common.{ℕ, ◌≤◌, ◌≡◌, refl, ap, ◌∙◌, ◌⊎◌, inl, inr, true, List, [], ◌∷◌, length}
use Rattle.model_base.specs.Finite.{within}
use Rattle.model_base.proofs.Tests.{or_left, or_right, or_cases}
use Rattle.model_base.proofs.Lists.{All, Any, All-map, to-every}
use Rattle.model_base.proofs.Peeling.{same_test}
use Rattle.model_sheet.specs.Problem.{Problem, banned, with_table, with_bans, no_bans}
use Rattle.model_sheet.specs.Row.{Row, row_good, row_bans, with_row, with_rows, rows_ban}
use Rattle.model_sheet.specs.Sheet.{Valid, max_records, decode}
use Rattle.model_sheet.specs.Writing.{written}
use Rattle.model_sheet.proofs.Range.{Ranged, to-range, bare-ranged}
use Rattle.model_sheet.proofs.Rows.{rows-ranged}
use Rattle.model_sheet.proofs.Same.{problem-same}
use Rattle.model_sheet.proofs.Writing.{writing-decodes, writing-bans}

module _ (e : ℕ) (p : Problem) where
  -- a good row that says nothing but what the table has
  pub record Said (row : Row) : Type 0 where
    pub good : row_good e p row ≡ true
    pub sound : (i j v w : ℕ) → row_bans e p row i j v w ≡ true → banned p i j v w ≡ true

  -- some row says each ban
  abbrev pub Whole : List Row → Type 0
  Whole rows = (i j v w : ℕ) → banned p i j v w ≡ true → Any (λ row. row_bans e p row i j v w ≡ true) rows

  some-bans : (i j v w : ℕ) (rows : List Row) → Any (λ row. row_bans e p row i j v w ≡ true) rows → rows_ban e p rows i j v w ≡ true
  unfolding rows_ban
  some-bans i j v w [] h = absurd h
  some-bans i j v w (row ∷ rows) (inl h) = or_left _ _ h
  some-bans i j v w (row ∷ rows) (inr h) = or_right (row_bans e p row i j v w) _ (some-bans i j v w rows h)

  bans-some : (i j v w : ℕ) (rows : List Row) → All Said rows → rows_ban e p rows i j v w ≡ true → banned p i j v w ≡ true
  unfolding rows_ban
  bans-some i j v w [] s h = cc
  bans-some i j v w (row ∷ rows) s h = go (or_cases (row_bans e p row i j v w) _ h) (bans-some i j v w rows s.1)
    where
      go : (row_bans e p row i j v w ≡ true) ⊎ (rows_ban e p rows i j v w ≡ true) → (rows_ban e p rows i j v w ≡ true → banned p i j v w ≡ true)
          → banned p i j v w ≡ true
      go (inl t) rest = s.0.sound i j v w t
      go (inr t) rest = rest t

  says : (rows : List Row) → All Said rows → Whole rows → (i j v w : ℕ) → rows_ban e p rows i j v w ≡ banned p i j v w
  says rows s h i j v w = same_test _ _ (bans-some i j v w rows s) (λ t. some-bans i j v w rows (h i j v w t))

-- rows change the table alone
rows-kept : (e : ℕ) (rows : List Row) (p : Problem) → ((with_rows e rows p).count ≡ p.count) × ((with_rows e rows p).domains ≡ p.domains)
unfolding with_table with_bans with_row with_rows
rows-kept e [] p = (refl, refl)
rows-kept e (row ∷ rows) p = rows-kept e rows (with_row e row p)

module _ (e : ℕ) (p : Problem) (rows : List Row) (known : within 2 e ≡ true) (range : Ranged p) where
  pub written-says : All (Said e p) rows → Whole e p rows → length rows ≤ max_records → decode (written e p rows) ≡ Valid p
  unfolding with_table
  written-says said whole few =
      let good = to-every (row_good e p) rows (All-map (Said e p) _ (λ row s. s.good) rows said) in
      let bare = with_table p no_bans in
      let kept = rows-kept e rows bare in
      let same = problem-same (with_rows e rows bare) p (rows-ranged e rows p no_bans (bare-ranged p range) good) range
      (λ i j v w. writing-bans e p rows known (to-range p range) good i j v w ∙ says e p rows said whole i j v w) kept.0 kept.1 in
      writing-decodes e p rows known (to-range p range) good few ∙ ap Valid same
