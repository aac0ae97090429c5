-- After some good rows the problem is in range, and a ban stands exactly if it stood before or one of them says so.
-- Row by row: a row's bans are those that it names, and the problem stays in range.
use Rattle.std.proofs.Common.{◌≡◌, refl, sym, ap, ◌∙◌, true, ◌||◌, List, [], ◌∷◌, ℕ}
use mathlib.Core.Bool.{or-false, or_assoc}
use Rattle.model_base.specs.Finite.{every}
use Rattle.model_base.proofs.Tests.{both}
use Rattle.model_sheet.specs.Problem.{Problem, owns, banned, with_table, with_bans}
use Rattle.model_sheet.specs.Row.{Row, row_good, hits, row_bans, with_row, with_rows, rows_ban}
use Rattle.model_sheet.proofs.Range.{Ranged, domain-same}
use Rattle.model_sheet.proofs.Bans.{bans-added}
use Rattle.model_sheet.proofs.Fields.{row-pair, row-ranged}
use Rattle.model_sheet.proofs.Walk.{row_same}

-- another table changes nothing of what a row bans
bans-same : (edition : ℕ) (p : Problem) (t : List ℕ) (row : Row) (i j v w : ℕ) → row_bans edition (with_table p t) row i j v w ≡ row_bans edition p row i j v w
unfolding owns row_bans
bans-same edition p t row i j v w = rw (domain-same p t i, domain-same p t j)

row-ban : (edition : ℕ) (p : Problem) (row : Row) → Ranged p → row_good edition p row ≡ true → (i j v w : ℕ)
    → banned (with_row edition row p) i j v w ≡ banned p i j v w || row_bans edition p row i j v w
unfolding with_row row_bans
row-ban edition p row r g = bans-added p row.lower row.higher (hits edition row) r (row-pair edition p row r g)

pub rows-ranged : (edition : ℕ) (rows : List Row) (p : Problem) (t : List ℕ) → Ranged (with_table p t) → every (row_good edition p) rows ≡ true
    → Ranged (with_rows edition rows (with_table p t))
unfolding every with_table with_bans with_row with_rows
rows-ranged edition [] p t r good = r
rows-ranged edition (row ∷ rows) p t r good =
    let g = both (row_good edition p row) _ good in
    rows-ranged edition rows p _ (row-ranged edition (with_table p t) row r (row_same edition p t row ∙ g.0)) g.1

pub rows-ban : (edition : ℕ) (rows : List Row) (p : Problem) (t : List ℕ) → Ranged (with_table p t) → every (row_good edition p) rows ≡ true
    → (i j v w : ℕ)
    → banned (with_rows edition rows (with_table p t)) i j v w ≡ banned (with_table p t) i j v w || rows_ban edition p rows i j v w
unfolding every with_table with_bans with_row with_rows rows_ban
rows-ban edition [] p t r good i j v w = sym (or-false _)
rows-ban edition (row ∷ rows) p t r good i j v w =
    let g = both (row_good edition p row) _ good in
    let here = row_same edition p t row ∙ g.0 in
    rows-ban edition rows p _ (row-ranged edition (with_table p t) row r here) g.1 i j v w
    ∙ rw (row-ban edition (with_table p t) row r here i j v w, bans-same edition p t row i j v w)
    (or_assoc (banned (with_table p t) i j v w) (row_bans edition p row i j v w) (rows_ban edition p rows i j v w))

-- the rows change the table alone, and what they ban does not hang on it
rows_same : (edition : ℕ) (rows : List Row) (p : Problem) (t : List ℕ) (i j v w : ℕ)
    → rows_ban edition (with_table p t) rows i j v w ≡ rows_ban edition p rows i j v w
unfolding rows_ban
rows_same edition [] p t i j v w = refl
rows_same edition (row ∷ rows) p t i j v w = rw (bans-same edition p t row i j v w, rows_same edition rows p t i j v w)

pub rows-table : (edition : ℕ) (rows : List Row) (p : Problem) (t : List ℕ)
    → with_table p (with_rows edition rows (with_table p t)).bans ≡ with_rows edition rows (with_table p t)
unfolding with_table with_bans with_row with_rows
rows-table edition [] p t = refl
rows-table edition (row ∷ rows) p t = rows-table edition rows p _

-- on the problem that they give
pub rows-said : (edition : ℕ) (rows : List Row) (p : Problem) (t : List ℕ) (i j v w : ℕ)
    → rows_ban edition (with_rows edition rows (with_table p t)) rows i j v w ≡ rows_ban edition p rows i j v w
rows-said edition rows p t i j v w =
    sym (ap (λ (q : Problem). rows_ban edition q rows i j v w) (rows-table edition rows p t)) ∙ rows_same edition rows p _ i j v w
