-- The text of a sheet, read again, gives a sheet with the same problem and the same text.
-- It is written of the same slot counts and of the rows recorded again; where there are none its edition is 1, and no row tells it.
use Rattle.std.proofs.Common.{ℕ, ◌≤◌, ◌≡◌, refl, sym, ap, ◌∙◌, ◌⊎◌, inl, inr, true, List, [], ◌∷◌, ◌++◌, map, append-nil, append_assoc, arith, length, eqb, eqb-true}
use lib.ListN.{length-map}
use borrow.Author.Tests.{eqb-false}
use Rattle.model_base.specs.Finite.{within, every}
use Rattle.model_base.proofs.Tests.{test, within-true}
use Rattle.model_sheet.specs.Problem.{Problem, with_table, no_bans}
use Rattle.model_sheet.specs.Row.{Row, row_good, with_rows}
use Rattle.model_sheet.specs.Sheet.{Valid, max_records, edition_in, decode}
use Rattle.model_sheet.specs.Chain.{rows_in}
use Rattle.model_sheet.specs.Writing.{written}
use Rattle.model_sheet.proofs.Range.{Ranged, to-range, bare-ranged}
use Rattle.model_sheet.proofs.Writing.{reads-edition, reads-rows, writing-decodes}
use Rattle.model_text.specs.Drafts.{Draft, no_draft, with_slots, with_record}
use Rattle.model_text.specs.Reading.{longest_text, Made, edition_of, sheet_from, sheet_of}
use Rattle.model_text.specs.Telling.{Text, longest_told, row_lines, text_from, told_from, text_of}
use Rattle.model_text.specs.Claims.{Again}
use Rattle.theorems_text.proofs.Slots.{bare}
use Rattle.theorems_text.proofs.Sheets.{edition-known}
use Rattle.theorems_text.proofs.Told.{slots_of}
use Rattle.theorems_text.proofs.Counts.{counts-back}
use Rattle.theorems_text.proofs.Rows.{again, all-again, rows-again, lines-again}
use Rattle.theorems_text.proofs.Rereading.{after, slotted, text-read}
use Rattle.theorems_text.proofs.Short.{text-short}
use Rattle.theorems_text.proofs.Sources.{Source, rows_same}

-- ---- the draft behind the rows

module _ (e : ℕ) where
  after-problem : (rows : List Row) (d : Draft) → (after e rows d).problem ≡ d.problem
  unfolding after with_record
  after-problem [] d = refl
  after-problem (row ∷ rows) d = after-problem rows (with_record d e (again e row))

  after-rows : (rows : List Row) (d : Draft) → (after e rows d).rows ≡ d.rows ++ map (again e) rows
  unfolding after with_record
  after-rows [] d = sym (append-nil d.rows)
  after-rows (row ∷ rows) d =
      after-rows rows (with_record d e (again e row)) ∙ append_assoc d.rows (again e row ∷ []) (map (again e) rows)

  after-edition : (rows : List Row) (d : Draft) → d.edition ≡ e → (after e rows d).edition ≡ e
  unfolding after with_record
  after-edition [] d h = h
  after-edition (row ∷ rows) d h = after-edition rows (with_record d e (again e row)) refl

  -- its edition, where there are rows
  kept-edition : within 2 e ≡ true → (rows : List Row) (d : Draft) → (rows ≡ []) ⊎ (edition_of (after e rows d) ≡ e)
  unfolding edition_of after with_record
  kept-edition known [] d = inl refl
  kept-edition known (row ∷ rows) d =
      let w = within-true 2 e known in
      inr
      (rw (after-edition rows (with_record d e (again e row)) refl)
      (test (eqb e 2) (λ h. rw h (sym (eqb-true e 2 h))) (λ h. rw h (omega (arith, eqb-false e 2 h)))))

-- ---- rows recorded again, in an edition that is theirs if there are any

module _ (e e' : ℕ) (p : Problem) (rows : List Row) (good : every (row_good e p) rows ≡ true) (kind : (rows ≡ []) ⊎ (e' ≡ e)) where
  as-good : every (row_good e' p) (map (again e) rows) ≡ true
  unfolding every
  as-good = go kind
    where
      go : (rows ≡ []) ⊎ (e' ≡ e) → every (row_good e' p) (map (again e) rows) ≡ true
      go (inl n) = rw n
      go (inr s) = rw s (all-again e p rows good)

  as-bans : (q : Problem) → with_rows e' (map (again e) rows) q ≡ with_rows e rows q
  unfolding with_rows
  as-bans q = go kind
    where
      go : (rows ≡ []) ⊎ (e' ≡ e) → with_rows e' (map (again e) rows) q ≡ with_rows e rows q
      go (inl n) = rw n
      go (inr s) = rw s (rows-again e p rows good q)

  as-lines : row_lines e' (map (again e) rows) ≡ row_lines e rows
  unfolding row_lines
  as-lines = go kind
    where
      go : (rows ≡ []) ⊎ (e' ≡ e) → row_lines e' (map (again e) rows) ≡ row_lines e rows
      go (inl n) = rw n
      go (inr s) = rw s (lines-again e p rows good)

-- ---- the sheet

-- what a text is read to
abbrev read_as : ℕ → Problem → List Row → Draft
read_as e p rows = after e rows (slotted p)

abbrev sheet_as : ℕ → Problem → List Row → List ℕ
sheet_as e p rows = written (edition_of (read_as e p rows)) (with_table p no_bans) (map (again e) rows)

module _ (e : ℕ) (p : Problem) (rows : List Row) (known : within 2 e ≡ true) (r : Ranged p) (good : every (row_good e p) rows ≡ true)
    (few : length rows ≤ max_records) where
  is-sheet : sheet_from (read_as e p rows) ≡ sheet_as e p rows
  unfolding sheet_from with_slots no_draft edition_of
  is-sheet =
      rw (after-problem e rows (slotted p), after-rows e rows (slotted p))
      (ap (λ (q : Problem). written (edition_of (read_as e p rows)) q (map (again e) rows)) (counts-back p r))

  made : sheet_of (text_from e p rows) ≡ Made (sheet_as e p rows)
  unfolding longest_text longest_told
  made =
      let fits : every (row_good e (bare (slots_of p))) rows ≡ true = rw (counts-back p r, rows_same e p no_bans rows) good in
      text-read e known p r rows fits few (omega (arith, text-short p r e rows good few)) ∙ ap Made is-sheet

  kind : (rows ≡ []) ⊎ (edition_of (read_as e p rows) ≡ e)
  kind = kept-edition e known rows (slotted p)

  module _ (gives : with_rows e rows (with_table p no_bans) ≡ p) where
    decodes : decode (sheet_as e p rows) ≡ Valid p
    unfolding with_table
    decodes =
        let e' = edition_of (read_as e p rows) in
        let rows' = map (again e) rows in
        let q = with_table p no_bans in
        let fits : every (row_good e' q) rows' ≡ true = rows_same e' p no_bans rows' ∙ as-good e e' p rows good kind in
        let short : length rows' ≤ max_records = rw (length-map rows (again e)) few in
        writing-decodes e' q rows' (edition-known (read_as e p rows)) (to-range q (bare-ranged p r)) fits short
        ∙ ap Valid (as-bans e e' p rows good kind q ∙ gives)

    told : text_of (sheet_as e p rows) ≡ Text (text_from e p rows)
    unfolding text_of told_from text_from with_table
    told =
        let e' = edition_of (read_as e p rows) in
        let rows' = map (again e) rows in
        let q = with_table p no_bans in
        rw (decodes, reads-edition e' q rows' r.domains_long, reads-rows e' q rows' r.domains_long, as-lines e e' p rows good kind)

pub read_again : (s t : List ℕ) → Source s t → Again s t
read_again s t o =
    let e = edition_in s in
    let p = o.problem in
    let rows = rows_in s in
    rw o.told
    (record {
      sheet = sheet_as e p rows;
      made = made e p rows o.edition o.range o.good o.few;
      problem = p;
      before = o.valid;
      after = decodes e p rows o.edition o.range o.good o.few o.gives;
      same = told e p rows o.edition o.range o.good o.few o.gives;
    })
