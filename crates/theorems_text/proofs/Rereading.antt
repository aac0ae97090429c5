-- A told text, read again, gives the sheet of its slot counts and rows, these recorded again.
-- The first line is taken by the empty draft, and then one row after the other.
use Rattle.std.proofs.Common.{ℕ, suc, ◌+◌, ◌-◌, ◌≤◌, ◌≡◌, refl, true, false, List, [], ◌∷◌, map, arith, length, length-append, take_all, ne_eqb, le-ltb}
use Rattle.model_base.specs.Finite.{within, every}
use Rattle.model_base.proofs.Tests.{within-true, both}
use Rattle.model_sheet.specs.Problem.{Problem, empty_problem}
use Rattle.model_sheet.specs.Row.{Row, row_good}
use Rattle.model_sheet.specs.Sheet.{max_records}
use Rattle.model_sheet.proofs.Range.{Ranged}
use Rattle.model_text.specs.Drafts.{Draft, no_draft, begun, with_slots, with_record, Next, slots_tests, with_statement, with_said, with_line}
use Rattle.model_text.specs.Reading.{longest_text, Made, sheet_from, at_end, read_lines, read_from, sheet_of}
use Rattle.model_text.specs.Telling.{text_from}
use Rattle.theorems_text.proofs.Tests.{passes}
use Rattle.theorems_text.proofs.Slots.{bare, slots-ranged}
use Rattle.theorems_text.proofs.Saying.{slots-told}
use Rattle.theorems_text.proofs.Told.{slots_of, slots_body, row_body, text-lines}
use Rattle.theorems_text.proofs.Counts.{counts_some, counts-good, counts-small}
use Rattle.theorems_text.proofs.Rows.{again}
use Rattle.theorems_text.proofs.Taking.{Open, open-begun, row-taken}

-- the draft with the records of these rows
unfoldable pub after : ℕ → List Row → Draft → Draft
after e [] d = d
after e (row ∷ rows) d = after e rows (with_record d e (again e row))

-- ---- the rows

module _ (e : ℕ) (known : within 2 e ≡ true) where
  still_open : (d : Draft) (row : Row) → Open e d → Open e (with_record d e row)
  unfolding with_record
  still_open d row o =
      let w = within-true 2 e known in
      record { range = o.range; other = ne_eqb e (3 - e) (λ h. omega arith) }

  rows-read : (rows : List Row) (n : ℕ) (d : Draft) → Open e d → every (row_good e d.problem) rows ≡ true
      → length d.rows + length rows ≤ max_records → read_lines false n d (map (row_body e) rows) ≡ Made (sheet_from (after e rows d))
  unfolding read_lines at_end every after with_record
  rows-read [] n d o good room = rw (open-begun e d o, at_end)
  rows-read (row ∷ rows) n d o good room =
      let g = both (row_good e d.problem row) _ good in
      let next = with_record d e (again e row) in
      let more : length next.rows + length rows ≤ max_records = rw length-append (omega arith) in
      rw (row-taken e known d row o g.0 (omega arith), read_lines)
      (rows-read rows (suc n) next (still_open d (again e row) o) g.1 more)

-- ---- the whole text

-- the draft with a problem's slot counts
abbrev pub slotted : Problem → Draft
slotted p = with_slots no_draft (slots_of p)

slots-taken : (p : Problem) → Ranged p → with_line no_draft (slots_body p) ≡ Next (slotted p)
unfolding with_line with_said with_statement slots_body slots_tests begun no_draft empty_problem
slots-taken p r =
    rw (slots-told (slots_of p) (counts-small p r))
    (passes (slots_tests no_draft (slots_of p)) (slotted p) (refl, (counts_some p r, (counts-good p r, tt))))

module _ (e : ℕ) (known : within 2 e ≡ true) (p : Problem) (r : Ranged p) (rows : List Row) where
  slots-open : Open e (slotted p)
  unfolding with_slots no_draft
  slots-open =
      let w = within-true 2 e known in
      record { range = slots-ranged (slots_of p) (counts_some p r) (counts-good p r); other = ne_eqb 0 (3 - e) (λ h. omega arith) }

  lines-read : every (row_good e (bare (slots_of p))) rows ≡ true → length rows ≤ max_records
      → read_lines false 1 no_draft (slots_body p ∷ map (row_body e) rows) ≡ Made (sheet_from (after e rows (slotted p)))
  unfolding read_lines with_slots no_draft
  lines-read good few =
      rw (slots-taken p r, read_lines) (rows-read e known rows 2 (slotted p) slots-open good (omega arith))

  pub text-read : every (row_good e (bare (slots_of p))) rows ≡ true → length rows ≤ max_records → length (text_from e p rows) ≤ longest_text
      → sheet_of (text_from e p rows) ≡ Made (sheet_from (after e rows (slotted p)))
  unfolding sheet_of read_from
  text-read good few short =
      rw (le-ltb longest_text (length (text_from e p rows)) short, take_all longest_text (text_from e p rows) short, text-lines e p rows)
      (lines-read good few)
