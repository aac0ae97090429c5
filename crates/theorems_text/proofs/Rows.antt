-- A good row, told as a statement and recorded again, is good, bans the same and has the same line.
-- A ban comes back as it was, and of a gap's bytes the gaps that they say.
use Rattle.std.proofs.Common.{ℕ, ◌≡◌, refl, ap, ◌∙◌, true, false, cond, ◌&&◌, List, [], ◌∷◌, map, eqb, lt-ltb}
use mathlib.Core.Path.{fun_ext}
use lib.Signed.{le_z}
use Rattle.model_base.specs.Finite.{every}
use Rattle.model_base.proofs.Tests.{test, both, to_both}
use Rattle.model_sheet.specs.Problem.{Problem}
use Rattle.model_sheet.specs.Row.{Row, agents_good, signed, gaps_good, fields_good, row_good, hits, with_row, with_rows}
use Rattle.model_sheet.proofs.Fields.{row-agents, row-fields}
use Rattle.model_text.specs.Statements.{Statement, Ban, Gap}
use Rattle.model_text.specs.Drafts.{ban_record, gap_record, is_gap}
use Rattle.model_text.specs.Telling.{gap_line, row_line, row_lines}
use Rattle.theorems_text.proofs.Gaps.{byte-back}
use Rattle.theorems_text.proofs.Records.{record_of}

unfoldable pub statement_of : ℕ → Row → Statement
statement_of e row =
    cond (eqb e 2) (Gap row.lower row.higher (signed row.low) (signed row.high)) (Ban row.lower row.low row.higher row.high)

unfoldable pub again : ℕ → Row → Row
again e row = record_of (statement_of e row)

pub record GapsFit (row : Row) : Type 0 where
  pub least : is_gap (signed row.low) ≡ true
  pub greatest : is_gap (signed row.high) ≡ true
  pub order : le_z (signed row.low) (signed row.high) ≡ true

module _ (e : ℕ) (p : Problem) (row : Row) (good : row_good e p row ≡ true) where
  pub gaps-fit : eqb e 2 ≡ true → GapsFit row
  unfolding fields_good gaps_good is_gap
  gaps-fit h =
      let fields : gaps_good row ≡ true = rw h at (row-fields e p row good) in
      let o = both (is_gap (signed row.low) && is_gap (signed row.high)) _ fields in
      let g = both (is_gap (signed row.low)) _ o.0 in
      record { least = g.0; greatest = g.1; order = o.1 }

  pub ban-again : eqb e 2 ≡ false → again e row ≡ row
  unfolding again statement_of record_of ban_record
  ban-again h = rw (h, lt-ltb row.lower row.higher (row-agents e p row good).order)

  gap-again : eqb e 2 ≡ true → again e row ≡ gap_record row.lower row.higher (signed row.low) (signed row.high)
  unfolding again statement_of record_of
  gap-again h = rw h

  pub again-good : row_good e p (again e row) ≡ true
  unfolding row_good agents_good fields_good gaps_good gap_record
  again-good =
      test (eqb e 2)
      (λ h.
      let f = gaps-fit h in
      rw (gap-again h, h, byte-back _ f.least, byte-back _ f.greatest) (rw h at good))
      (λ h. rw (ban-again h) good)

  again-hits : eqb e 2 ≡ true → hits e (again e row) ≡ hits e row
  unfolding hits gap_record
  again-hits h =
      let f = gaps-fit h in
      fun_ext λ v. fun_ext λ w. rw (gap-again h, h, byte-back _ f.least, byte-back _ f.greatest)

  pub again-row : (q : Problem) → with_row e (again e row) q ≡ with_row e row q
  unfolding with_row gap_record
  again-row q = test (eqb e 2) (λ h. rw (again-hits h, gap-again h)) (λ h. rw (ban-again h))

  pub again-line : row_line e (again e row) ≡ row_line e row
  unfolding row_line gap_line gap_record
  again-line =
      test (eqb e 2)
      (λ h.
      let f = gaps-fit h in
      rw (gap-again h, h, byte-back _ f.least, byte-back _ f.greatest))
      (λ h. rw (ban-again h))

-- ---- the rows

module _ (e : ℕ) (p : Problem) where
  pub all-again : (rows : List Row) → every (row_good e p) rows ≡ true → every (row_good e p) (map (again e) rows) ≡ true
  unfolding every
  all-again [] h = refl
  all-again (row ∷ rows) h =
      let g = both (row_good e p row) _ h in to_both _ _ (again-good e p row g.0) (all-again rows g.1)

  pub rows-again : (rows : List Row) → every (row_good e p) rows ≡ true → (q : Problem) → with_rows e (map (again e) rows) q ≡ with_rows e rows q
  unfolding every with_rows
  rows-again [] h q = refl
  rows-again (row ∷ rows) h q =
      let g = both (row_good e p row) _ h in
      ap (with_rows e (map (again e) rows)) (again-row e p row g.0 q) ∙ rows-again rows g.1 (with_row e row q)

  pub lines-again : (rows : List Row) → every (row_good e p) rows ≡ true → row_lines e (map (again e) rows) ≡ row_lines e rows
  unfolding every row_lines
  lines-again [] h = refl
  lines-again (row ∷ rows) h =
      let g = both (row_good e p row) _ h in rw (again-line e p row g.0, lines-again rows g.1)
