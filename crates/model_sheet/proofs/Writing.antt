-- A sheet that is written of good rows is accepted, and says exactly what they ban.
-- The header reads back as it was written; the walk goes through the records in their order, each leading to the one after it.
use Rattle.std.proofs.Common.{◌≡◌, refl, sym, ap, ◌∙◌, true, List, [], ◌∷◌, ◌++◌, map, append_assoc, ℕ, zero, suc, ◌+◌, ◌-◌, ◌*◌, ◌/◌, ◌%◌, ◌≤◌, ◌<◌, arith, length, get_or, drop, length-append, take_at, get_or-append-add, get_or-drop, drop-drop, eq-eqb, ne_eqb, le-leb}
use lib.Seq.{drop-append-add}
use Rattle.model_base.specs.Finite.{within, all_to, every}
use Rattle.model_base.proofs.Tests.{both, to_both}
use Rattle.model_sheet.specs.Problem.{Problem, max_agents, banned, with_table, with_bans, no_bans, count_in_range, domain_in_range, in_range}
use Rattle.model_sheet.specs.Row.{Row, row_good, with_row, with_rows, rows_ban}
use Rattle.model_sheet.specs.Sheet.{Valid, header_length, record_length, max_records, byte_at, word_from, agents_in, edition_in, records_in, first_in, domains_in, without_bans, header_good, row_at, row_of, next_of, record_start, record_good, decode}
use Rattle.model_sheet.specs.Chain.{chain_from, rows_in}
use Rattle.model_sheet.specs.Writing.{two_bytes, header_bytes, row_bytes, index_after, chained, written}
use Rattle.model_sheet.proofs.Range.{Ranged, ranged, bare-ranged, to-count, to-domains}
use Rattle.model_sheet.proofs.Bans.{none-banned}
use Rattle.model_sheet.proofs.Rows.{rows-ban}
use Rattle.model_sheet.proofs.Walk.{free_walk, free-ends, free-goes, row_same}
use Rattle.model_sheet.proofs.Checks.{walked}

-- two bytes read back
two_bytes_lem : (k : ℕ) → k % 256 + 256 * (k / 256) ≡ k
two_bytes_lem k = omega arith

pub chained-length : (r : ℕ) (rows : List Row) → length (chained r rows) ≡ 8 * length rows
unfolding chained row_bytes two_bytes
chained-length r [] = refl
chained-length r (row ∷ rows) = omega (arith, chained-length (suc r) rows)

-- ---- the header

module _ (e : ℕ) (p : Problem) (rows : List Row) (long : length p.domains ≡ max_agents) where
  reads-count : agents_in (written e p rows) ≡ p.count
  unfolding agents_in byte_at written header_bytes
  reads-count = refl

  pub reads-edition : edition_in (written e p rows) ≡ e
  unfolding edition_in byte_at written header_bytes
  reads-edition = refl

  reads_first : first_in (written e p rows) ≡ index_after 0 rows
  unfolding first_in word_from byte_at written header_bytes two_bytes
  reads_first = two_bytes_lem (index_after 0 rows)

  reads-records : records_in (written e p rows) ≡ length rows
  unfolding records_in word_from byte_at written header_bytes two_bytes
  reads-records = two_bytes_lem (length rows)

  -- behind byte 7
  behind : drop 8 (written e p rows) ≡ p.domains ++ ((0 ∷ 0 ∷ 0 ∷ 0 ∷ []) ++ chained 0 rows)
  unfolding written header_bytes two_bytes
  behind = append_assoc p.domains (0 ∷ 0 ∷ 0 ∷ 0 ∷ []) (chained 0 rows)

  reads-domains : domains_in (written e p rows) ≡ p.domains
  unfolding max_agents domains_in
  reads-domains = rw behind (take_at p.domains _ 12 long)

  zero-bytes : (k : ℕ) → byte_at (written e p rows) (20 + k) ≡ get_or ((0 ∷ 0 ∷ 0 ∷ 0 ∷ []) ++ chained 0 rows) k 0
  unfolding max_agents byte_at
  zero-bytes k =
      let there : 8 + (length p.domains + k) ≡ 20 + k = omega arith in
      rw (← there, ← get_or-drop 8 (written e p rows) (length p.domains + k) 0, behind) (get_or-append-add p.domains _ k 0)

  reads-zeros : (word_from (written e p rows) 20 ≡ 0) × (word_from (written e p rows) 22 ≡ 0)
  unfolding word_from
  reads-zeros = (rw (zero-bytes 0, zero-bytes 1), rw (zero-bytes 2, zero-bytes 3))

  pub writes-length : length (written e p rows) ≡ header_length + record_length * length rows
  unfolding max_agents header_length record_length written header_bytes two_bytes
  writes-length =
      omega (
        arith,
        length-append (p.domains ++ (0 ∷ 0 ∷ 0 ∷ 0 ∷ [])) (chained 0 rows),
        length-append p.domains (0 ∷ 0 ∷ 0 ∷ 0 ∷ []),
        chained-length 0 rows,
      )

  records-there : drop 24 (written e p rows) ≡ chained 0 rows
  unfolding max_agents
  records-there =
      let there : length p.domains + 4 ≡ 16 = omega arith in
      sym (drop-drop 16 8 (written e p rows)) ∙ rw (behind, ← there) (drop-append-add p.domains _ 4)

  reads-problem : without_bans (written e p rows) ≡ with_table p no_bans
  unfolding without_bans with_table
  reads-problem = rw (reads-count, reads-domains)

-- the index that leads on is one of the records, or zero
index-most : (r : ℕ) (rows : List Row) → index_after r rows ≤ r + length rows
unfolding index_after
index-most r [] = omega arith
index-most r (row ∷ rows) = omega arith

module _ (e : ℕ) (p : Problem) (rows : List Row) (known : within 2 e ≡ true) (range : Ranged p) (few : length rows ≤ max_records) where
  long : length p.domains ≡ max_agents
  long = range.domains_long

  writes-header : header_good (written e p rows) ≡ true
  unfolding header_good word_from byte_at written header_bytes two_bytes
  writes-header =
      let s = written e p rows in
      let bare = bare-ranged p range in
      let count : count_in_range (without_bans s) ≡ true = rw (reads-problem e p rows long) (to-count _ bare) in
      let edition : within 2 (edition_in s) ≡ true = rw (reads-edition e p rows long) known in
      let domains : all_to max_agents (domain_in_range (without_bans s)) ≡ true = rw (reads-problem e p rows long) (to-domains _ bare) in
      let records : records_in s ≤ max_records = rw (reads-records e p rows long) few in
      let first : first_in s ≤ records_in s = rw (reads_first e p rows long, reads-records e p rows long) (omega (arith, index-most 0 rows)) in
      let zeros = reads-zeros e p rows long in
      let at-4 = to_both _ _ (to_both _ _ (to_both _ _ count edition) (le-leb _ _ records)) refl in
      let at-20 = to_both _ _ (to_both _ _ at-4 domains) (eq-eqb _ _ zeros.0) in
      to_both _ _ (to_both _ _ at-20 (eq-eqb _ _ zeros.1)) (le-leb _ _ first)

-- ---- a record

-- its bytes, where record r + 1 begins with the row
module _ (s rest : List ℕ) (row : Row) (next r : ℕ) (here : drop (24 + 8 * r) s ≡ row_bytes row next ++ rest) where
  byte : (k : ℕ) → byte_at s (record_start (suc r) + k) ≡ get_or (row_bytes row next ++ rest) k 0
  unfolding header_length record_length record_start byte_at
  byte k = sym (get_or-drop (24 + 8 * r) s k 0) ∙ ap (λ (l : List ℕ). get_or l k 0) here

  word : (k : ℕ) → word_from s (record_start (suc r) + k) ≡ get_or (row_bytes row next ++ rest) k 0 + 256 * get_or (row_bytes row next ++ rest) (suc k) 0
  unfolding word_from
  word k = let on : record_start (suc r) + k + 1 ≡ record_start (suc r) + suc k = omega arith in rw (on, byte k, byte (suc k))

  reads-row : row_of s (suc r) ≡ row
  unfolding row_at row_of row_bytes two_bytes
  reads-row =
      let start : record_start (suc r) + 0 ≡ record_start (suc r) = omega arith in
      let lower : byte_at s (record_start (suc r)) ≡ row.lower = rw (← start) (byte 0) in
      rw (lower, byte 1, byte 2, byte 3)

  reads-next : next_of s (suc r) ≡ next
  unfolding next_of row_bytes two_bytes
  reads-next = word 4 ∙ two_bytes_lem next

  reads_end : word_from s (record_start (suc r) + 6) ≡ 0
  unfolding row_bytes two_bytes
  reads_end = word 6

-- ---- the walk

-- record r + 1 begins with the row, as record r + 2 begins with the next
behind-row : (s rest : List ℕ) (row : Row) (next r : ℕ) → drop (24 + 8 * r) s ≡ row_bytes row next ++ rest → drop (24 + 8 * suc r) s ≡ rest
unfolding row_bytes two_bytes
behind-row s rest row next r here =
    let on : 24 + 8 * r + 8 ≡ 24 + 8 * suc r = omega arith in
    rw (← on, ← drop-drop 8 (24 + 8 * r) s, here)

module _ (s : List ℕ) (p : Problem) where
  record-writes : (t rest : List ℕ) (row : Row) (next r : ℕ) → drop (24 + 8 * r) s ≡ row_bytes row next ++ rest → next ≤ records_in s
      → row_good (edition_in s) p row ≡ true → record_good s (with_table p t) (suc r) ≡ true
  unfolding record_good
  record-writes t rest row next r here few good =
      let fields : row_good (edition_in s) (with_table p t) (row_of s (suc r)) ≡ true =
      rw (reads-row s rest row next r here, row_same (edition_in s) p t row) good in
      let most : next_of s (suc r) ≤ records_in s = rw (reads-next s rest row next r here) few in
      to_both _ _ (to_both _ _ fields (le-leb _ _ most)) (eq-eqb _ _ (reads_end s rest row next r here))

  -- from record r on to the rows that are left
  walk-writes : (rows : List Row) (steps r : ℕ) (t : List ℕ) → drop (24 + 8 * r) s ≡ chained r rows
      → r + length rows ≤ records_in s → every (row_good (edition_in s) p) rows ≡ true → length rows < steps
      → free_walk steps s (index_after r rows) (with_table p t) ≡ Valid (with_rows (edition_in s) rows (with_table p t))
  unfolding every with_table with_bans with_row with_rows index_after chained
  walk-writes [] steps r t here few good more = free-ends s 0 (with_table p t) steps (omega arith) refl
  walk-writes (row ∷ rows) steps r t here few good more =
      let rest = chained (suc r) rows in
      let next = index_after (suc r) rows in
      let g = both (row_good (edition_in s) p row) _ good in
      let on = record-writes t rest row next r here (omega (arith, index-most (suc r) rows)) g.0 in
      free-goes s (suc r) (with_table p t) steps (omega arith) (λ z. omega arith) on
      ∙ rw (reads-next s rest row next r here, reads-row s rest row next r here)
      (walk-writes rows (steps - 1) (suc r) _ (behind-row s rest row next r here) (omega arith) g.1 (omega arith))

-- ---- the chain

-- from record r on, the rows that are left
chain-writes : (s : List ℕ) (rows : List Row) (steps r : ℕ) → drop (24 + 8 * r) s ≡ chained r rows → length rows < steps
    → map (row_of s) (chain_from steps s (index_after r rows)) ≡ rows
unfolding index_after chained chain_from
chain-writes s rows zero r here more = absurd (omega arith)
chain-writes s [] (suc steps) r here more = refl
chain-writes s (row ∷ rows) (suc steps) r here more =
    let rest = chained (suc r) rows in
    let next = index_after (suc r) rows in
    rw (ne_eqb (suc r) 0 (λ z. omega arith), chain_from, reads-next s rest row next r here, reads-row s rest row next r here)
    (ap (λ (l : List Row). row ∷ l) (chain-writes s rows steps (suc r) (behind-row s rest row next r here) (omega arith)))

-- what the records on the chain say, in its order, is what was written
pub reads-rows : (e : ℕ) (p : Problem) (rows : List Row) → length p.domains ≡ max_agents → rows_in (written e p rows) ≡ rows
unfolding rows_in
reads-rows e p rows long =
    rw (reads_first e p rows long, reads-records e p rows long)
    (chain-writes (written e p rows) rows (suc (length rows)) 0 (records-there e p rows long) (omega arith))

-- ---- the whole

module _ (e : ℕ) (p : Problem) (rows : List Row) (known : within 2 e ≡ true) (range : in_range p ≡ true) (good : every (row_good e p) rows ≡ true) where
  pub writing-decodes : length rows ≤ max_records → decode (written e p rows) ≡ Valid (with_rows e rows (with_table p no_bans))
  unfolding header_length record_length
  writing-decodes few =
      let r = ranged p range in
      let long = r.domains_long in
      let s = written e p rows in
      let m = reads-records e p rows long in
      let total : length s ≡ 24 + 8 * records_in s = rw m (writes-length e p rows long) in
      let same = reads-edition e p rows long in
      let fits : every (row_good (edition_in s) p) rows ≡ true = rw same good in
      walked s (writes-header e p rows known r few) total
      ∙ rw (reads_first e p rows long, reads-problem e p rows long)
      (rw same at (walk-writes s p rows (suc (records_in s)) 0 no_bans (records-there e p rows long) (omega arith) fits (omega arith)))

  -- exactly what one of the rows bans
  pub writing-bans : (i j v w : ℕ) → banned (with_rows e rows (with_table p no_bans)) i j v w ≡ rows_ban e p rows i j v w
  writing-bans i j v w =
      rows-ban e rows p no_bans (bare-ranged p (ranged p range)) good i j v w
      ∙ rw (none-banned p i j v w)
