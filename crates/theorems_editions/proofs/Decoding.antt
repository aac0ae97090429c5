-- The sheets that are written decode to the table they were written of; and what a gap sheet bans is sayable in gaps.
-- The rows say the table. A record of edition 2 bans two owned pairs with equal gap alike.
use Rattle.std.proofs.Common.{ℕ, ◌≤◌, ◌≡◌, refl, sym, ◌∙◌, true, List, [], ◌∷◌, arith, length, eqb, ltb, eqb-true, eq-eqb, le-ltb}
use mathlib.Core.Bool.{false≢true}
use Rattle.model_base.proofs.Tests.{test, to-within}
use Rattle.model_sheet.specs.Problem.{Problem, owns, banned}
use Rattle.model_sheet.specs.Row.{Row, hits, row_bans, rows_ban, gap}
use Rattle.model_sheet.specs.Sheet.{Valid, BadLength, BadHeader, header_length, record_length, max_records, longest_sheet, byte_at, edition_in, decode}
use Rattle.model_sheet.specs.Chain.{rows_in}
use Rattle.model_sheet.specs.Writing.{header_bytes, written}
use Rattle.model_sheet.proofs.Range.{Ranged, ranged}
use Rattle.model_sheet.proofs.Checks.{invalid, accepted}
use Rattle.model_sheet.proofs.Sheet.{decode-in-range, bans-as-said}
use Rattle.model_sheet.proofs.Writing.{writes-length}
use Rattle.model_editions.specs.Bans.{ban_rows}
use Rattle.model_editions.specs.Gaps.{sayable, gap_rows}
use Rattle.model_editions.specs.Turning.{decode_as}
use Rattle.theorems_editions.specs.Claims.{Mixed}
use Rattle.theorems_editions.proofs.Saying.{written-says}
use Rattle.theorems_editions.proofs.Bans.{bans-said, bans-whole, bans-few}
use Rattle.theorems_editions.proofs.Gaps.{gaps-said, gaps-whole, gaps-few}
use Rattle.theorems_editions.proofs.Sayable.{unsayable}

-- ---- a sheet of one edition

pub record Good (edition : ℕ) (s : List ℕ) (p : Problem) : Type 0 where
  pub valid : decode s ≡ Valid p
  pub kind : edition_in s ≡ edition
  pub range : Ranged p

pub good : (edition : ℕ) (s : List ℕ) (p : Problem) → decode_as edition s ≡ Valid p → Good edition s p
unfolding decode_as
good edition s p e =
    test (ltb (length s) header_length)
    (λ q. invalid BadLength p (rw (q, decode_as) at e))
    (λ q. test (eqb (edition_in s) edition)
    (λ k.
    let v = rw (q, decode_as, k) at e in
    record { valid = v; kind = eqb-true _ _ k; range = ranged p (decode-in-range s p v) })
    (λ k. invalid BadHeader p (rw (q, decode_as, k) at e)))

pub to-good : (edition : ℕ) (s : List ℕ) (p : Problem) → decode s ≡ Valid p → edition_in s ≡ edition → decode_as edition s ≡ Valid p
unfolding decode_as
to-good edition s p v k = rw (le-ltb (length s) header_length (accepted s p v).long, decode_as, eq-eqb _ _ k) v

-- ---- what is written

pub written-kind : (e : ℕ) (p : Problem) (rows : List Row) → edition_in (written e p rows) ≡ e
unfolding edition_in byte_at written header_bytes
written-kind e p rows = refl

pub written-short : (e : ℕ) (p : Problem) (rows : List Row) → Ranged p → length rows ≤ max_records → length (written e p rows) ≤ longest_sheet
unfolding header_length record_length longest_sheet
written-short e p rows r few = omega (arith, writes-length e p rows r.domains_long)

pub bans-decode : (p : Problem) → Ranged p → decode (written 1 p (ban_rows p)) ≡ Valid p
bans-decode p r =
    written-says 1 p (ban_rows p) (to-within 2 1 (omega arith) (omega arith)) r (bans-said p r) (bans-whole p r) (bans-few p r)

pub gaps-decode : (p : Problem) → Ranged p → sayable p ≡ true → decode (written 2 p (gap_rows p)) ≡ Valid p
gaps-decode p r s =
    written-says 2 p (gap_rows p) (to-within 2 2 (omega arith) (omega arith)) r (gaps-said p r s) (gaps-whole p r s) (gaps-few p r)

-- ---- what a gap sheet bans

-- two owned pairs with equal gap
module _ (p : Problem) (i j v w v' w' : ℕ) (a : owns p i v ≡ true) (b : owns p j w ≡ true) (a' : owns p i v' ≡ true) (b' : owns p j w' ≡ true)
    (e : gap v w ≡ gap v' w') where
  alike : (row : Row) → row_bans 2 p row i j v w ≡ row_bans 2 p row i j v' w'
  unfolding row_bans hits
  alike row = rw (a, b, a', b', e)

  all_alike : (rows : List Row) → rows_ban 2 p rows i j v w ≡ rows_ban 2 p rows i j v' w'
  unfolding rows_ban
  all_alike [] = refl
  all_alike (row ∷ rows) = rw (alike row, all_alike rows)

pub gap-sheet-sayable : (s : List ℕ) (p : Problem) → Good 2 s p → sayable p ≡ true
gap-sheet-sayable s p g = test (sayable p) (λ t. t) (λ t. absurd (never (unsayable p g.range t)))
  where
    said : (i j v w : ℕ) → banned p i j v w ≡ rows_ban 2 p (rows_in s) i j v w
    said i j v w = bans-as-said s p g.valid i j v w ∙ rw g.kind

    never : Mixed p → ⊥
    never x =
        let i = x.lower in
        let j = x.higher in
        let o = x.owned in
        let o' = x.owned' in
        false≢true
        (sym x.free ∙ said i j x.low' x.high'
        ∙ sym (all_alike p i j x.low x.high x.low' x.high' o.0 o.1 o'.0 o'.1 x.equal (rows_in s))
        ∙ sym (said i j x.low x.high) ∙ x.ban)
