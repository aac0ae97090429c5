-- A sheet that has a text is accepted, with good rows, and its problem is what they ban on its slot counts.
-- The rows are good for the header's problem, which differs from the sheet's in the table alone.
use Rattle.std.proofs.Common.{ℕ, ◌≤◌, ◌≡◌, refl, sym, ap, ◌∙◌, true, List, [], ◌∷◌, arith, length}
use Rattle.model_base.specs.Finite.{within, every}
use Rattle.model_sheet.specs.Problem.{Problem, with_table, no_bans}
use Rattle.model_sheet.specs.Row.{Row, row_good, with_rows}
use Rattle.model_sheet.specs.Sheet.{Decoded, Valid, Invalid, max_records, edition_in, without_bans, decode}
use Rattle.model_sheet.specs.Chain.{rows_in}
use Rattle.model_sheet.proofs.Range.{Ranged, ranged}
use Rattle.model_sheet.proofs.Fields.{header-fits}
use Rattle.model_sheet.proofs.Checks.{accepted}
use Rattle.model_sheet.proofs.Walk.{row_same}
use Rattle.model_sheet.proofs.Rows.{rows-table}
use Rattle.model_sheet.proofs.Sheet.{decode-said, decode-in-range}
use Rattle.model_text.specs.Telling.{Text, text_from, told_from, text_of}

pub record Source (s t : List ℕ) : Type 0 where
  pub problem : Problem
  pub valid : decode s ≡ Valid problem
  pub told : t ≡ text_from (edition_in s) problem (rows_in s)
  pub edition : within 2 (edition_in s) ≡ true
  pub range : Ranged problem
  pub good : every (row_good (edition_in s) problem) (rows_in s) ≡ true
  pub few : length (rows_in s) ≤ max_records
  pub gives : with_rows (edition_in s) (rows_in s) (with_table problem no_bans) ≡ problem

told-valid : (s t : List ℕ) (d : Decoded) → told_from s d ≡ Text t → (p : Problem) × (d ≡ Valid p) × (t ≡ text_from (edition_in s) p (rows_in s))
unfolding told_from
told-valid s t (Valid p) e = (p, refl, cc)
told-valid s t (Invalid f) e = let z : ◌≡◌ {A = ℕ} 0 1 = cc in absurd (omega arith)

-- the table is nothing to a row
pub rows_same : (e : ℕ) (p : Problem) (t : List ℕ) (rows : List Row) → every (row_good e (with_table p t)) rows ≡ every (row_good e p) rows
unfolding every
rows_same e p t [] = refl
rows_same e p t (row ∷ rows) = rw (row_same e p t row, rows_same e p t rows)

pub source : (s t : List ℕ) → text_of s ≡ Text t → Source s t
unfolding text_of with_table
source s t h =
    let (p, valid, told) = told-valid s t (decode s) h in
    let a = accepted s p valid in
    let header = header-fits s a.header in
    let said = decode-said s p a in
    let e = edition_in s in
    let rows = rows_in s in
    let q = without_bans s in
    let table : with_table q p.bans ≡ p = rw said.gives (rows-table e rows q no_bans) in
    let bare : with_table p no_bans ≡ with_table q no_bans = ap (λ (x : Problem). with_table x no_bans) (sym table) in
    record {
      problem = p;
      valid = valid;
      told = told;
      edition = header.edition;
      range = ranged p (decode-in-range s p valid);
      good = sym (ap (λ (x : Problem). every (row_good e x) rows) table) ∙ rows_same e q p.bans rows ∙ said.good;
      few = omega (arith, said.few, header.records);
      gives = ap (with_rows e rows) bare ∙ sym said.gives;
    }
