-- A sheet that a text gives is accepted; its slot counts and bans are those that the statements say.
-- It is written of good records, which ban what the statements say, and they leave the slot counts as they are.
use Rattle.std.proofs.Common.{ℕ, ◌≤◌, ◌≡◌, refl, sym, ap, ◌∙◌, true, List, [], ◌∷◌, map, arith, length, eqb, eqb-true}
use lib.ListN.{length-map}
use borrow.Author.Tests.{eqb-false}
use Rattle.model_base.specs.Finite.{within, every, any}
use Rattle.model_base.specs.Lists.{All}
use Rattle.model_base.proofs.Tests.{test, to_both}
use Rattle.model_sheet.specs.Problem.{Problem, owns, banned, with_table, no_bans}
use Rattle.model_sheet.specs.Row.{Row, row_good, with_rows, rows_ban}
use Rattle.model_sheet.specs.Sheet.{Valid, record_length, max_records, longest_sheet, decode}
use Rattle.model_sheet.proofs.Range.{to-range, domain-same}
use Rattle.model_sheet.proofs.Rows.{rows-table}
use Rattle.model_sheet.proofs.Writing.{writes-length, writing-decodes, writing-bans}
use Rattle.model_text.specs.Statements.{Statement, Slots, Ban, Gap}
use Rattle.model_text.specs.Drafts.{Draft, with_slots}
use Rattle.model_text.specs.Reading.{edition_of, sheet_from}
use Rattle.model_text.specs.Claims.{says_ban, Accepted, SlotsSaid}
use Rattle.theorems_text.proofs.Records.{record_of, Fits}
use Rattle.theorems_text.proofs.Drafts.{Begun, refit}

pub edition-known : (d : Draft) → within 2 (edition_of d) ≡ true
unfolding edition_of within
edition-known d = test (eqb d.edition 2) (λ h. rw h) (λ h. rw h)

edition-same : (d : Draft) → 1 ≤ d.edition → d.edition ≤ 2 → d.edition ≡ edition_of d
unfolding edition_of
edition-same d l u =
    test (eqb d.edition 2)
    (λ h. rw h (eqb-true d.edition 2 h))
    (λ h. rw h (omega (arith, eqb-false d.edition 2 h)))

-- ---- the records of statements

module _ (p : Problem) (e : ℕ) where
  all-good : (rest : List Statement) → All (Fits p e) rest → every (row_good e p) (map record_of rest) ≡ true
  unfolding every
  all-good [] h = refl
  all-good (s ∷ rest) h = to_both _ _ h.0.good (all-good rest h.1)

  all_say : (i j v w : ℕ) (rest : List Statement) → All (Fits p e) rest
      → rows_ban e p (map record_of rest) i j v w ≡ any (says_ban p i j v w) rest
  unfolding rows_ban any
  all_say i j v w [] h = refl
  all_say i j v w (s ∷ rest) h = rw (h.0.says i j v w, all_say i j v w rest h.1)

-- the table is nothing to what a statement says
says_same : (p : Problem) (t : List ℕ) (i j v w : ℕ) (s : Statement) → says_ban (with_table p t) i j v w s ≡ says_ban p i j v w s
unfolding says_ban owns
says_same p t i j v w (Slots domains) = refl
says_same p t i j v w (Ban a x b y) = refl
says_same p t i j v w (Gap a b least greatest) = rw (domain-same p t i, domain-same p t j)

any_same : (p : Problem) (t : List ℕ) (i j v w : ℕ) (rest : List Statement)
    → any (says_ban (with_table p t) i j v w) rest ≡ any (says_ban p i j v w) rest
unfolding any
any_same p t i j v w [] = refl
any_same p t i j v w (s ∷ rest) = rw (says_same p t i j v w s, any_same p t i j v w rest)

-- ---- the sheet of a draft

module _ (d : Draft) (said : List Statement) (b : Begun d said) where
  fits : All (Fits d.problem (edition_of d)) b.rest
  fits = refit d.problem d.edition (edition_of d) (edition-same d) b.rest b.fit

  rows-good : every (row_good (edition_of d) d.problem) d.rows ≡ true
  unfolding edition_of
  rows-good = rw b.rows (all-good d.problem (edition_of d) b.rest fits)

  rows_few : length d.rows ≤ max_records
  rows_few = rw (b.rows, length-map b.rest record_of) b.few

  -- what it decodes to
  given : Problem
  given = with_rows (edition_of d) d.rows (with_table d.problem no_bans)

  decodes : decode (sheet_from d) ≡ Valid given
  unfolding sheet_from given
  decodes = writing-decodes (edition_of d) d.problem d.rows (edition-known d) (to-range _ b.range) rows-good rows_few

  pub sheet-accepted : Accepted (sheet_from d)
  unfolding sheet_from record_length longest_sheet
  sheet-accepted =
      record {
        problem = given;
        valid = decodes;
        short = omega (arith, writes-length (edition_of d) d.problem d.rows b.range.domains_long, rows_few);
      }

  -- the records change the table alone
  kept : given ≡ with_table d.problem given.bans
  unfolding given
  kept = sym (rows-table (edition_of d) d.rows d.problem no_bans)

  given-slots : SlotsSaid given said
  unfolding with_table with_slots
  given-slots =
      record {
        domains = b.domains;
        others = b.rest;
        first = b.first;
        count = ap (λ (q : Problem). q.count) kept ∙ ap (λ (q : Problem). q.count) b.problem;
        padded = ap (λ (q : Problem). q.domains) kept ∙ ap (λ (q : Problem). q.domains) b.problem;
      }

  given-bans : (i j v w : ℕ) → banned given i j v w ≡ any (says_ban given i j v w) said
  unfolding given any says_ban
  given-bans i j v w =
      let p = d.problem in
      let e = edition_of d in
      writing-bans e p d.rows (edition-known d) (to-range p b.range) rows-good i j v w
      ∙ ap (λ (rows : List Row). rows_ban e p rows i j v w) b.rows
      ∙ all_say p e i j v w b.rest fits
      ∙ sym (any_same p given.bans i j v w b.rest)
      ∙ sym (ap (λ (q : Problem). any (says_ban q i j v w) b.rest) kept)
      ∙ sym (ap (any (says_ban given i j v w)) b.first)

  -- it decodes to nothing else
  module _ (p : Problem) (v : decode (sheet_from d) ≡ Valid p) where
    same : given ≡ p
    same = let e : Valid given ≡ Valid p = sym decodes ∙ v in cc

    pub sheet-slots : SlotsSaid p said
    sheet-slots = rw same at given-slots

    pub sheet-bans : (i j v w : ℕ) → banned p i j v w ≡ any (says_ban p i j v w) said
    sheet-bans = rw same at given-bans
