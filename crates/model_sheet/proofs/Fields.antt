-- What good headers and good records say, and that a good row leaves the problem in range.
-- Each part of a test is read off in turn. The header's checks are the problem's, and a row bans owned values only.
use Rattle.std.proofs.Common.{◌≡◌, ◌∙◌, true, ◌&&◌, List, ℕ, ◌≤◌, ◌<◌, arith, length, drop, length-drop, length-set, length-take-le, eqb, ltb, leb, ltb-true, leb-true}
use Rattle.model_base.specs.Finite.{within, all_to}
use Rattle.model_base.proofs.Tests.{both}
use Rattle.model_sheet.specs.Problem.{Problem, max_agents, domain, with_bans, count_in_range, domain_in_range}
use Rattle.model_sheet.specs.Row.{Row, agents_good, fields_good, row_good, hits, with_row}
use Rattle.model_sheet.specs.Sheet.{header_length, max_records, word_from, edition_in, records_in, first_in, domains_in, without_bans, header_good, row_of, next_of, record_good}
use Rattle.model_sheet.proofs.Bans.{Pair}
use Rattle.model_sheet.proofs.Range.{no_words, words-add, none-long, Ranged, header-ranged, table-ranged, domain-small}

-- ---- the header

pub record HeaderFits (s : List ℕ) : Type 0 where
  pub count : count_in_range (without_bans s) ≡ true
  pub edition : within 2 (edition_in s) ≡ true
  pub records : records_in s ≤ max_records
  pub domains : all_to max_agents (domain_in_range (without_bans s)) ≡ true
  pub first : first_in s ≤ records_in s

pub header-fits : (s : List ℕ) → header_good s ≡ true → HeaderFits s
unfolding header_good
header-fits s h =
    let at_first = both _ (leb (first_in s) (records_in s)) h in
    let at-22 = both _ (eqb (word_from s 22) 0) at_first.0 in
    let at-20 = both _ (eqb (word_from s 20) 0) at-22.0 in
    let at_8 = both _ (all_to max_agents (domain_in_range (without_bans s))) at-20.0 in
    let at-6 = both _ (eqb (word_from s 6) 0) at_8.0 in
    let at-4 = both _ (leb (records_in s) max_records) at-6.0 in
    let at_1 = both (count_in_range (without_bans s)) (within 2 (edition_in s)) at-4.0 in
    record {
      count = at_1.0;
      edition = at_1.1;
      records = leb-true _ _ at-4.1;
      domains = at_8.1;
      first = leb-true _ _ at_first.1;
    }

domains-long : (s : List ℕ) → header_length ≤ length s → length (domains_in s) ≡ max_agents
unfolding domains_in max_agents header_length
domains-long s h = length-take-le 12 (drop 8 s) (rw (length-drop 8 s) (omega arith))

pub header-in-range : (s : List ℕ) → header_length ≤ length s → header_good s ≡ true → Ranged (without_bans s)
unfolding without_bans
header-in-range s l g =
    let h = header-fits s g in
    header-ranged (without_bans s) (domains-long s l) none-long h.count h.domains (no_words (domain (without_bans s)))

-- ---- a row

pub record AgentsFit (p : Problem) (row : Row) : Type 0 where
  pub lower : 1 ≤ row.lower
  pub order : row.lower < row.higher
  pub higher : row.higher ≤ p.count

pub agents-fit : (p : Problem) (row : Row) → agents_good p row ≡ true → AgentsFit p row
unfolding agents_good
agents-fit p row h =
    let u = both (ltb 0 row.lower && ltb row.lower row.higher) _ h in
    let l = both (ltb 0 row.lower) _ u.0 in
    record { lower = ltb-true _ _ l.0; order = ltb-true _ _ l.1; higher = leb-true _ _ u.1 }

pub row-agents : (edition : ℕ) (p : Problem) (row : Row) → row_good edition p row ≡ true → AgentsFit p row
unfolding row_good
row-agents edition p row h = agents-fit p row (both (agents_good p row) _ h).0

pub row-fields : (edition : ℕ) (p : Problem) (row : Row) → row_good edition p row ≡ true → fields_good edition p row ≡ true
unfolding row_good
row-fields edition p row h = (both (agents_good p row) _ h).1

pub row-pair : (edition : ℕ) (p : Problem) (row : Row) → Ranged p → row_good edition p row ≡ true → Pair row.lower row.higher
row-pair edition p row r g =
    let a = row-agents edition p row g in
    record { lower = a.lower; order = a.order; higher = omega (arith, a.higher, r.high) }

-- the problem with one more row is in range
pub row-ranged : (edition : ℕ) (p : Problem) (row : Row) → Ranged p → row_good edition p row ≡ true → Ranged (with_row edition row p)
unfolding with_bans with_row
row-ranged edition p row r g =
    let a = row-pair edition p row r g in
    table-ranged p _ r (length-set p.bans _ _ ∙ r.bans_long)
    (words-add (hits edition row) (domain p) p.bans row.lower row.higher r.bans_long a.lower a.order a.higher
    (domain-small p r _) (domain-small p r _) r.words)

pub record RecordFits (s : List ℕ) (p : Problem) (r : ℕ) : Type 0 where
  pub row : row_good (edition_in s) p (row_of s r) ≡ true
  pub next : next_of s r ≤ records_in s

pub record-fits : (s : List ℕ) (p : Problem) (r : ℕ) → record_good s p r ≡ true → RecordFits s p r
unfolding record_good
record-fits s p r h =
    let z = both (row_good (edition_in s) p (row_of s r) && leb (next_of s r) (records_in s)) _ h in
    let n = both (row_good (edition_in s) p (row_of s r)) _ z.0 in
    record { row = n.0; next = leb-true _ _ n.1 }
