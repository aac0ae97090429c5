-- How long a told text is: at most 30 bytes for the slot counts, and 16 for each row.
-- Scanners have at most two digits, slots and gaps one.
use Rattle.std.proofs.Common.{ℕ, suc, ◌*◌, ◌≤◌, ◌<◌, ◌≡◌, true, false, List, [], ◌∷◌, arith, ℤ, pos, negsuc, eqb, leb, length, length-append, leb-true}
use Rattle.model_base.specs.Finite.{every}
use Rattle.model_base.proofs.Tests.{test, both, within-true}
use Rattle.model_base.proofs.Lists.{gather-length}
use Rattle.model_sheet.specs.Problem.{Problem, max_agents, max_domain, domain, owns}
use Rattle.model_sheet.specs.Row.{Row, signed, between, values_good, fields_good, row_good}
use Rattle.model_sheet.specs.Sheet.{max_records}
use Rattle.model_sheet.proofs.Range.{Ranged, domain-small}
use Rattle.model_sheet.proofs.Fields.{AgentsFit, row-agents, row-fields}
use Rattle.model_base.specs.Decimal.{newline}
use Rattle.model_text.specs.Statements.{slots_word, ban_word, gap_word}
use Rattle.model_text.specs.Drafts.{is_gap}
use Rattle.model_text.specs.Telling.{blank, colon, dash, figure, place, signed_figure, slots_line, ban_line, gap_line, row_line, row_lines, text_from, longest_told}
use Rattle.theorems_text.proofs.Decimals.{one-digit, two_digits}
use Rattle.theorems_text.proofs.Rows.{gaps-fit}

-- ---- words

figure-short : (k : ℕ) → k < 100 → length (figure k) ≤ 3
unfolding figure blank
figure-short k h = omega (arith, two_digits k h)

place_short : (i v : ℕ) → i < 100 → v < 10 → length (place i v) ≤ 5
unfolding place figure blank colon
place_short i v h k = rw length-append (omega (arith, two_digits i h, one-digit v k))

signed-short : (z : ℤ) → is_gap z ≡ true → length (signed_figure z) ≤ 3
unfolding signed_figure figure blank dash is_gap between
signed-short (pos k) h = omega (arith, two_digits k (omega (arith, leb-true k 7 h)))
signed-short (negsuc k) h = let small = leb-true k 6 (both (leb k 6) true h).0 in omega (arith, one-digit (suc k) (omega arith))

-- ---- lines

module _ (p : Problem) (r : Ranged p) where
  slots-short : length (slots_line p) ≤ 30
  unfolding slots_line slots_word newline max_agents max_domain figure blank
  slots-short =
      simp length-append
      (omega (
        arith,
        gather-length 2 p.count 1 (λ i. figure (domain p i)) (λ i l u. omega (arith, one-digit (domain p i) (omega (arith, domain-small p r i)))),
        r.high,
      ))

  value-digit : (i v : ℕ) → owns p i v ≡ true → v < 10
  unfolding owns max_domain
  value-digit i v h = omega (arith, (within-true _ _ h).1, domain-small p r i)

  module _ (e : ℕ) (row : Row) (good : row_good e p row ≡ true) where
    agents : AgentsFit p row
    agents = row-agents e p row good

    lower-short : row.lower < 100
    unfolding max_agents
    lower-short = omega (arith, agents.order, agents.higher, r.high)

    higher-short : row.higher < 100
    unfolding max_agents
    higher-short = omega (arith, agents.higher, r.high)

    ban-short : eqb e 2 ≡ false → length (ban_line row) ≤ 16
    unfolding ban_line ban_word newline fields_good values_good
    ban-short h =
        let fields : values_good p row ≡ true = rw h at (row-fields e p row good) in
        let values = both (owns p row.lower row.low) _ fields in
        simp length-append
        (omega (
          arith,
          place_short row.lower row.low lower-short (value-digit _ _ values.0),
          place_short row.higher row.high higher-short (value-digit _ _ values.1),
        ))

    gap-short : eqb e 2 ≡ true → length (gap_line row) ≤ 16
    unfolding gap_line gap_word newline
    gap-short h =
        let f = gaps-fit e p row good h in
        simp length-append
        (omega (
          arith,
          figure-short row.lower lower-short,
          figure-short row.higher higher-short,
          signed-short (signed row.low) f.least,
          signed-short (signed row.high) f.greatest,
        ))

    row-short : length (row_line e row) ≤ 16
    unfolding row_line
    row-short = test (eqb e 2) (λ h. rw h (gap-short h)) (λ h. rw h (ban-short h))

  rows_short : (e : ℕ) (rows : List Row) → every (row_good e p) rows ≡ true → length (row_lines e rows) ≤ 16 * length rows
  unfolding row_lines every
  rows_short e [] h = omega arith
  rows_short e (row ∷ rows) h =
      let g = both (row_good e p row) _ h in
      rw length-append (omega (arith, row-short e row g.0, rows_short e rows g.1))

  pub text-short : (e : ℕ) (rows : List Row) → every (row_good e p) rows ≡ true → length rows ≤ max_records → length (text_from e p rows) ≤ longest_told
  unfolding text_from longest_told max_records
  text-short e rows h few = rw length-append (omega (arith, slots-short, rows_short e rows h))
