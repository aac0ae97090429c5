-- The line of a good row is taken: its record comes next, where the draft has room and no record of the other edition.
-- What makes a row good is what the tests ask.
use Rattle.std.proofs.Common.{ℕ, ◌-◌, ◌≤◌, ◌<◌, ◌≡◌, refl, true, false, not, arith, length, eqb, eqb-true, ne_eqb, lt-ltb}
use borrow.Author.Tests.{eqb-false}
use Rattle.model_base.specs.Finite.{within}
use Rattle.model_base.specs.Lists.{All}
use Rattle.model_base.proofs.Lists.{All-append}
use Rattle.model_base.proofs.Tests.{test, within-true, to-within, both, to_both}
use Rattle.model_sheet.specs.Problem.{max_agents, max_domain, owns}
use Rattle.model_sheet.specs.Row.{Row, signed, values_good, fields_good, row_good}
use Rattle.model_sheet.specs.Sheet.{max_records}
use Rattle.model_sheet.proofs.Range.{Ranged, domain-small}
use Rattle.model_sheet.proofs.Fields.{AgentsFit, row-agents, row-fields}
use Rattle.model_text.specs.Drafts.{Draft, begun, with_record, Next, is_agent, pair_tests, room_tests, ban_tests, gap_tests, with_statement, with_said, with_line}
use Rattle.theorems_text.proofs.Tests.{Holds, passes}
use Rattle.theorems_text.proofs.Records.{record_of}
use Rattle.theorems_text.proofs.Saying.{ban-told, gap-told}
use Rattle.theorems_text.proofs.Told.{ban_body, gap_body, row_body}
use Rattle.theorems_text.proofs.Rows.{statement_of, again, gaps-fit}

-- the slot counts are said, and no record of the other edition
pub record Open (e : ℕ) (d : Draft) : Type 0 where
  pub range : Ranged d.problem
  pub other : eqb d.edition (3 - e) ≡ false

pub open-begun : (e : ℕ) (d : Draft) → Open e d → begun d ≡ true
unfolding begun
open-begun e d o = lt-ltb 0 d.problem.count o.range.low

-- the line of a good row
abbrev pub Step : ℕ → Type 0
Step e =
    (d : Draft) (row : Row) → Open e d → row_good e d.problem row ≡ true → length d.rows < max_records
    → with_line d (row_body e row) ≡ Next (with_record d e (again e row))

module _ (e : ℕ) (d : Draft) (row : Row) (o : Open e d) (good : row_good e d.problem row ≡ true) where
  agents : AgentsFit d.problem row
  agents = row-agents e d.problem row good

  is-lower : is_agent d row.lower ≡ true
  unfolding is_agent
  is-lower = to-within _ _ agents.lower (omega (arith, agents.order, agents.higher))

  is-higher : is_agent d row.higher ≡ true
  unfolding is_agent
  is-higher = to-within _ _ (omega (arith, agents.order)) agents.higher

  apart : not (eqb row.lower row.higher) ≡ true
  apart = rw (ne_eqb row.lower row.higher (λ h. omega (arith, agents.order)))

  kinds : not (eqb d.edition (3 - e)) ≡ true
  kinds = rw o.other

  pair-holds : All Holds (pair_tests d (3 - e) row.lower row.higher)
  unfolding pair_tests
  pair-holds = (open-begun e d o, (kinds, (is-lower, (is-higher, (apart, tt)))))

  lower-small : row.lower ≤ 255
  unfolding max_agents
  lower-small = omega (arith, agents.order, agents.higher, o.range.high)

  higher-small : row.higher ≤ 255
  unfolding max_agents
  higher-small = omega (arith, agents.higher, o.range.high)

  value-small : (i v : ℕ) → owns d.problem i v ≡ true → v ≤ 255
  unfolding owns max_domain
  value-small i v h = omega (arith, (within-true _ _ h).1, domain-small d.problem o.range i)

ban-taken : Step 1
unfolding with_line with_said with_statement row_body ban_body again statement_of record_of ban_tests room_tests fields_good values_good
ban-taken d row o good room =
    let p = d.problem in
    let (low, high) = both (owns p row.lower row.low) (owns p row.higher row.high) (row-fields 1 p row good) in
    rw (ban-told row.lower row.low row.higher row.high (lower-small 1 d row o good) (value-small 1 d row o good _ _ low)
    (higher-small 1 d row o good) (value-small 1 d row o good _ _ high))
    (passes (ban_tests d row.lower row.low row.higher row.high) _
    (All-append Holds (pair_tests d 2 row.lower row.higher) _ (pair-holds 1 d row o good) (low, (high, (lt-ltb _ _ room, tt)))))

gap-taken : Step 2
unfolding with_line with_said with_statement row_body gap_body again statement_of record_of gap_tests room_tests
gap-taken d row o good room =
    let f = gaps-fit 2 d.problem row good refl in
    let least = signed row.low in
    let greatest = signed row.high in
    let order = lt-ltb _ _ (agents 2 d row o good).order in
    rw (gap-told row.lower row.higher least greatest (lower-small 2 d row o good) (higher-small 2 d row o good) f.least f.greatest)
    (passes (gap_tests d row.lower row.higher least greatest) _
    (All-append Holds (pair_tests d 1 row.lower row.higher) _ (pair-holds 2 d row o good)
    (order, (to_both _ _ f.least f.greatest, (f.order, (lt-ltb _ _ room, tt))))))

-- the edition is 1 or 2
either : (P : ℕ → Type 0) (e : ℕ) → within 2 e ≡ true → P 1 → P 2 → P e
either P e known one two =
    let w = within-true 2 e known in
    test (eqb e 2)
    (λ h. rw (eqb-true e 2 h) two)
    (λ h. let s : e ≡ 1 = omega (arith, eqb-false e 2 h) in rw s one)

pub row-taken : (e : ℕ) → within 2 e ≡ true → Step e
row-taken e known = either Step e known ban-taken gap-taken
