-- A good row of edition 1 bans itself alone, and every ban of a problem in range is a good row; n and slot counts settle what could be banned.
-- The fields of a row, test by test; the table of bans is nothing to the pairs of slots.
use Rattle.std.proofs.Common.{ℕ, suc, ◌-◌, ◌≡◌, refl, ap, ◌∙◌, true, ◌&&◌, List, [], ◌∷◌, arith, eqb, eq-eqb, le-leb, lt-ltb}
use mathlib.Core.Path.{fun_ext}
use Rattle.model_base.specs.Finite.{within, gather, any, every}
use Rattle.model_base.proofs.Tests.{both, to_both, within-true}
use Rattle.model_base.proofs.Peeling.{same_test}
use Rattle.model_sheet.specs.Problem.{Problem, max_domain, domain, owns, is_pair, banned, with_table, with_bans}
use Rattle.model_sheet.specs.Row.{Row, agents_good, values_good, fields_good, row_good, hits, row_bans, with_row, with_rows, rows_ban}
use Rattle.model_sheet.proofs.Range.{Ranged, domain-same, banned-inside}
use Rattle.model_sheet.proofs.Bans.{added, to-added}
use Rattle.model_sheet.proofs.Fields.{row-fields}
use Rattle.model_little.specs.Little.{pairs_of, places, bans_row}
use Rattle.model_little.proofs.Subsets.{same_row, same_row_lem, among}

-- ---- what rows ban

-- a good row bans itself alone
bans-itself : (p : Problem) (r row : Row) → row_good 1 p row ≡ true
    → row_bans 1 p row r.lower r.higher r.low r.high ≡ same_row r row
unfolding row_bans hits same_row fields_good values_good
bans-itself p r row g =
    same_test _ _
    (λ t.
    let a = added p row.lower row.higher (hits 1 row) r.lower r.higher r.low r.high t in
    let n = both (eqb r.low row.low) _ a.named in
    to_both _ _ (to_both _ _ (to_both _ _ (eq-eqb _ _ a.lower) (eq-eqb _ _ a.higher)) n.0) n.1)
    (λ t.
    let o = both (owns p row.lower row.low) _ (row-fields 1 p row g) in
    rw (same_row_lem r row t)
    (to-added p row.lower row.higher (hits 1 row) row.lower row.higher row.low row.high
    (record {
      lower = refl;
      higher = refl;
      value = o.0;
      other = o.1;
      named = to_both _ _ (eq-eqb row.low _ refl) (eq-eqb row.high _ refl);
    })))

pub rows-among : (p : Problem) (r : Row) (rows : List Row) → every (row_good 1 p) rows ≡ true
    → rows_ban 1 p rows r.lower r.higher r.low r.high ≡ among r rows
unfolding any every rows_ban among
rows-among p r [] g = refl
rows-among p r (row ∷ rows) g =
    let h = both (row_good 1 p row) _ g in
    rw (bans-itself p r row h.0, rows-among p r rows h.1)

-- a ban is between owned values
pub banned-good : (p : Problem) → Ranged p → (row : Row) → bans_row p row ≡ true → row_good 1 p row ≡ true
unfolding banned bans_row owns row_good agents_good fields_good values_good
banned-good p r row e =
    let i = row.lower in
    let j = row.higher in
    let n = banned-inside p r i j row.low row.high e in
    let b = both (is_pair i j && within max_domain row.low && within max_domain row.high) _ e in
    let y = both (is_pair i j && within max_domain row.low) _ b.0 in
    let v = within-true _ _ (both (is_pair i j) _ y.0).1 in
    let w = within-true _ _ y.1 in
    let o = (r.words i j n.0 n.1 (omega (arith, n.2, r.high))).owned row.low row.high v.0 v.1 w.0 w.1 b.1 in
    to_both _ _ (to_both _ _ (to_both _ _ (lt-ltb 0 i n.0) (lt-ltb i j n.1)) (le-leb j p.count n.2)) (to_both _ _ o.0 o.1)

-- ---- what the table is nothing to

pub rows-kept : (rows : List Row) (p : Problem) → ((with_rows 1 rows p).count ≡ p.count) × ((with_rows 1 rows p).domains ≡ p.domains)
unfolding with_table with_bans with_row with_rows
rows-kept [] p = (refl, refl)
rows-kept (row ∷ rows) p = rows-kept rows (with_row 1 row p)

as-table : (p q : Problem) → q.count ≡ p.count → q.domains ≡ p.domains → q ≡ with_table p q.bans
unfolding with_table
as-table p q n d = λ i. record { count = n i; domains = d i; bans = q.bans }

table-places : (p : Problem) (t : List ℕ) → places (with_table p t) ≡ places p
unfolding with_table places pairs_of
table-places p t =
    ap (λ (d : ℕ → ℕ).
    gather p.count 1 (λ i. gather (p.count - i) (suc i)
    (λ j. gather (d i) 1 (λ v. gather (d j) 1 (λ w. record { lower = i; higher = j; low = v; high = w } ∷ [])))))
    (fun_ext (domain-same p t))

pub same-places : (p q : Problem) → q.count ≡ p.count → q.domains ≡ p.domains → places q ≡ places p
same-places p q n d = ap places (as-table p q n d) ∙ table-places p q.bans

pub same-domain : (p q : Problem) (i : ℕ) → q.count ≡ p.count → q.domains ≡ p.domains → domain q i ≡ domain p i
same-domain p q i n d = ap (λ (x : Problem). domain x i) (as-table p q n d) ∙ domain-same p q.bans i
