-- Where a record starts, and what a good record says, in plain numbers.
-- Record r starts at 16 + 8r.
use Rattle.std.proofs.Common.{◌≡◌, sym, ap, true, ◌&&◌, List, ℕ, ◌+◌, ◌*◌, ◌≤◌, ◌<◌, arith, bit_or, eqb, ltb, leb, get_or, set, eqb-true, eq-eqb, ne_eqb, ltb-true, leb-true}
use mathlib.Core.Bool.{and-false}
use Rattle.model_base.specs.Finite.{within}
use Rattle.model_base.proofs.Tests.{test, both}
use Rattle.model_sheet.specs.Problem.{max_agents, max_domain, domain, owns, word_at, with_table, with_bans}
use Rattle.model_sheet.specs.Row.{Row as Row', signed, between, gap, values_good, fields_good, hits, with_row}
use Rattle.model_sheet.specs.Sheet.{header_length, record_length, edition_in, without_bans, record_start, row_of as row_of', record_good}
use Rattle.model_sheet.proofs.Range.{Ranged, domain-same}
use Rattle.model_sheet.proofs.Fields.{header-in-range, row-agents, row-fields, record-fits}
use Rattle.sheet_records.specs.declared.row.Row.{Row}
use Rattle.sheet_records.specs.Rows.{row_of, Possible}
use Rattle.sheet_records.specs.Parts.{Good, Pairs, row_pairs, Short, table_with}
use Rattle.sheet_records.proofs.Pairs.{renamed, more-pairs}

pub start-at : (r : ℕ) → 1 ≤ r → record_start r ≡ 16 + 8 * r
unfolding header_length record_length record_start
start-at r h = omega arith

pub ruleset starts = (start-at)

-- agents that pass the test are possible
pub possible : (n : ℕ) (row : Row) → n ≤ 12 → ltb 0 row.lower && ltb row.lower row.higher && leb row.higher n ≡ true → Possible row
possible n row most h =
    let u = both (ltb 0 row.lower && ltb row.lower row.higher) _ h in
    let l = both (ltb 0 row.lower) _ u.0 in
    let low : 1 ≤ row.lower = ltb-true _ _ l.0 in
    let order : row.lower < row.higher = ltb-true _ _ l.1 in
    let high : row.higher ≤ n = leb-true _ _ u.1 in
    record { lower = (low, omega arith); higher = (omega arith, omega arith) }

-- ---- a good record

pub record Record (s : List ℕ) (row : Row') : Type 0 where
  pub lower : 1 ≤ row.lower
  pub order : row.lower < row.higher
  pub higher : row.higher ≤ 12
  pub lowers : (1 ≤ domain (without_bans s) row.lower) × (domain (without_bans s) row.lower ≤ 8)
  pub highers : (1 ≤ domain (without_bans s) row.higher) × (domain (without_bans s) row.higher ≤ 8)
  pub fields : fields_good (edition_in s) (without_bans s) row ≡ true

good-there : (s : List ℕ) (r : ℕ) → Ranged (without_bans s) → record_good s (without_bans s) r ≡ true → Record s (row_of' s r)
unfolding max_agents max_domain
good-there s r g h =
    let p = without_bans s in
    let row = row_of' s r in
    let good = (record-fits s p r h).row in
    let a = row-agents (edition_in s) p row good in
    record {
      lower = a.lower;
      order = a.order;
      higher = omega (arith, a.higher, g.high);
      lowers = g.domained row.lower a.lower (omega (arith, a.order, a.higher));
      highers = g.domained row.higher (omega (arith, a.lower, a.order)) a.higher;
      fields = row-fields (edition_in s) p row good;
    }

pub good-record : (s : List ℕ) (r : ℕ) → Good s r → Record s (row_of' s r)
unfolding header_length
good-record s r g = good-there s r (header-in-range s (omega (arith, g.inside)) g.header) g.fields

-- as the code has its row
pub good-row : (s : List ℕ) (r : ℕ) (row : Row) → Good s r → row_of row ≡ row_of' s r → Record s (row_of row)
good-row s r row g e = rw e (good-record s r g)

-- edition 1: its slots are owned
pub values-owned : (s : List ℕ) (row : Row') → Record s row → (edition_in s ≡ 2 → ⊥)
    → (within (domain (without_bans s) row.lower) row.low ≡ true) × (within (domain (without_bans s) row.higher) row.high ≡ true)
unfolding owns values_good fields_good
values-owned s row f e = both _ _ (rw (ne_eqb (edition_in s) 2 e) at f.fields)

-- ---- what it bans

-- edition 2
pub gap_row : (s : List ℕ) (r x : ℕ) (row : Row) → row_of row ≡ row_of' s r → edition_in s ≡ 2
    → Pairs x (λ v w. within (domain (without_bans s) row.lower) v && within (domain (without_bans s) row.higher) w
    && between (signed row.low) (signed row.high) (gap v w))
    → Pairs x (row_pairs s r)
unfolding owns hits row_pairs
gap_row s r x row l e p = renamed p (λ v w a b c d. rw (← l, eq-eqb (edition_in s) 2 e))

-- of owned values, a pair that is these two
only : (d e a b v w : ℕ) → within d a ≡ true → within e b ≡ true → eqb v a && eqb w b ≡ within d v && within e w && (eqb v a && eqb w b)
only d e a b v w oa ob =
    test (eqb v a && eqb w b)
    (λ t.
    let same = both (eqb v a) _ t in
    rw (t, eqb-true v a same.0, eqb-true w b same.1, oa, ob))
    (λ t. rw t (sym (and-false (within d v && within e w))))

-- edition 1
pub value_row : (s : List ℕ) (r x : ℕ) (row : Row) → Good s r → row_of row ≡ row_of' s r → (edition_in s ≡ 2 → ⊥)
    → Pairs x (λ v w. eqb v row.low && eqb w row.high) → Pairs x (row_pairs s r)
unfolding owns hits row_pairs
value_row s r x row g l e p =
    let own = values-owned s (row_of row) (good-row s r row g l) e in
    renamed p (λ v w a b c d. rw (← l, ne_eqb (edition_in s) 2 e) (only _ _ _ _ v w own.0 own.1))

-- the table with it
pub table-there : (s : List ℕ) (r y : ℕ) (t : List ℕ) (row : Row) → Good s r → row_of row ≡ row_of' s r → Short t → Pairs y (row_pairs s r)
    → (let k = word_at row.lower row.higher in set t k (bit_or (get_or t k 0) y)) ≡ table_with s r t
unfolding owns with_table with_bans with_row row_pairs table_with
table-there s r y t row g l short p =
    let f = good-record s r g in
    let q = row_of' s r in
    rw (ap (λ (x : Row'). x.lower) l, ap (λ (x : Row'). x.higher) l, domain-same (without_bans s) t q.lower, domain-same (without_bans s) t q.higher)
    (ap (set t (word_at q.lower q.higher)) (more-pairs (hits (edition_in s) q) _ _ _ y f.lowers.1 f.highers.1 (short _) p))
