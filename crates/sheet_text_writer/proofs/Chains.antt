-- The lines of the records from record r on, where the walk from there ends well; and those of the slot counts.
-- A record on the chain is good, so its line is told and the chain goes on; at index 0 all is told.
use Rattle.std.proofs.Common.{ℕ, zero, suc, ◌+◌, ◌-◌, ◌*◌, ◌≤◌, ◌<◌, ◌≡◌, refl, sym, subst, ◌∙◌, ◌≢◌, true, List, [], ◌++◌, map, append_assoc, add-one, arith, eqb, length, eqb-true, eq-eqb, ne_eqb}
use Rattle.model_base.specs.Finite.{gather}
use Rattle.model_base.proofs.Tests.{test}
use Rattle.model_sheet.specs.Problem.{Problem}
use Rattle.model_sheet.specs.Row.{with_row}
use Rattle.model_sheet.specs.Sheet.{Valid, BadLength, BadRecord, Cycle, max_records, header_length, word_from, edition_in, first_in, records_in, without_bans, row_of, next_of, record_good, decode}
use Rattle.model_sheet.specs.Chain.{chain_from, rows_in}
use Rattle.model_sheet.proofs.Fields.{header-fits, record-fits}
use Rattle.model_sheet.proofs.Walk.{free_walk, free-none, free-fails, free-goes}
use Rattle.model_sheet.proofs.Checks.{bad-length, invalid, accepted}
use Rattle.sheet_reader.proofs.Walking.{next-there}
use Rattle.support_buffer.specs.declared.cursor.Cursor.{Cursor}
use Rattle.support_buffer.specs.Puts.{Adds}
use Rattle.support_buffer.proofs.Puts.{Left, all_left, left_as, less-left, none_left}
use Rattle.model_text.specs.Telling.{row_line, row_lines}
use Rattle.sheet_text_writer.specs.Parts.{RoomFor, Readable}
use Rattle.sheet_text_writer.proofs.Rooms.{room-first, room-put, room-left}

-- ---- the chain

-- what is still to be told at record r, in at most so many steps
abbrev lines_from : List ℕ → ℕ → ℕ → List ℕ
lines_from s r left = row_lines (edition_in s) (map (row_of s) (chain_from left s r))

pub record Ahead (s : List ℕ) (old out : Cursor) (r left : ℕ) : Type 0 where
  pub total : length s ≡ 24 + 8 * records_in s
  pub records : records_in s ≤ 4224
  pub here : r ≤ records_in s
  pub before : Problem
  pub after : Problem
  pub walk : free_walk left s r before ≡ Valid after
  pub rest : Left old (row_lines (edition_in s) (rows_in s)) out (lines_from s r left)

total-good : (s : List ℕ) (p : Problem) → decode s ≡ Valid p → length s ≡ 24 + 8 * records_in s
unfolding header_length
total-good s p v =
    let a = accepted s p v in
    test (eqb (length s) (24 + 8 * records_in s)) (λ t. eqb-true _ _ t) (λ t. invalid BadLength p (sym (bad-length s a.long a.header t) ∙ v))

pub whole_header : (s : List ℕ) → Readable s → 24 ≤ length s
whole_header s readable = omega (arith, total-good s readable.problem readable.valid)

pub starts : (s : List ℕ) (old : Cursor) → Readable s → RoomFor old (row_lines (edition_in s) (rows_in s)) → Ahead s old old (word_from s 2) (word_from s 4 + 1)
unfolding max_records first_in records_in rows_in
starts s old readable room =
    let a = accepted s readable.problem readable.valid in
    let f = header-fits s a.header in
    record {
      total = total-good s readable.problem readable.valid;
      records = f.records;
      here = f.first;
      before = without_bans s;
      after = readable.problem;
      walk = rw (add-one (word_from s 4)) a.walk;
      rest = rw (add-one (word_from s 4)) (all_left old (row_lines (edition_in s) (rows_in s)) refl (room-put _ room));
    }

-- a line, and those behind it
line_first : (s : List ℕ) (r left : ℕ) → 0 < left → r ≢ 0 → lines_from s r left ≡ row_line (edition_in s) (row_of s r) ++ lines_from s (next_of s r) (left - 1)
unfolding chain_from row_lines
line_first s r zero h n = absurd (omega arith)
line_first s r (suc left) h n =
    let l : suc left - 1 ≡ left = omega arith in
    rw (ne_eqb r 0 n, chain_from, l) refl

-- at index 0 there is none
line-none : (s : List ℕ) (r left : ℕ) → 0 < left → r ≡ 0 → lines_from s r left ≡ []
unfolding chain_from row_lines
line-none s r zero h z = absurd (omega arith)
line-none s r (suc left) h z = rw (eq-eqb r 0 z, chain_from)

-- the record is whole
pub whole_record : (s : List ℕ) {old out : Cursor} (r : ℕ) {left : ℕ} → Ahead s old out r left → 24 + 8 * r ≤ length s
whole_record s r w = omega (arith, w.total, w.here)

module _ {s : List ℕ} {old out : Cursor} {r left : ℕ} (w : Ahead s old out r left) where
  -- the walk does not end before the chain
  pub not-over : left ≤ 0 → ⊥
  not-over h = invalid Cycle w.after (sym (free-none s r w.before left h) ∙ w.walk)

  pub ends : 0 < left → r ≡ 0 → Adds old (row_lines (edition_in s) (rows_in s)) out
  ends h z = none_left (left_as (line-none s r left h z) w.rest) refl

  module _ (h : 0 < left) (n : r ≢ 0) where
    good : record_good s w.before r ≡ true
    good =
        test (record_good s w.before r) (λ g. g)
        (λ g. invalid BadRecord w.after (sym (free-fails s r w.before left h n g) ∙ w.walk))

    pub room-here : RoomFor old (row_lines (edition_in s) (rows_in s)) → RoomFor out (row_line (edition_in s) (row_of s r))
    room-here room = room-first _ _ (subst (RoomFor out) (line_first s r left h n) (room-left room w.rest))

    pub goes : {new : Cursor} → Adds out (row_line (edition_in s) (row_of s r)) new → Ahead s old new (word_from s (20 + 8 * r)) (left - 1)
    goes p =
        let there : word_from s (20 + 8 * r) ≡ next_of s r = next-there s r (omega arith) in
        record {
          total = w.total;
          records = w.records;
          here = rw there (record-fits s w.before r good).next;
          before = with_row (edition_in s) (row_of s r) w.before;
          after = w.after;
          walk = rw there (sym (free-goes s r w.before left h n good) ∙ w.walk);
          rest = rw there (less-left (left_as (line_first s r left h n) w.rest) p);
        }

-- ---- the slot counts

pub gather-first : (m k : ℕ) (f : ℕ → List ℕ) (t : List ℕ) → 0 < m → gather m k f ++ t ≡ f k ++ (gather (m - 1) (suc k) f ++ t)
unfolding gather
gather-first zero k f t h = absurd (omega arith)
gather-first (suc m) k f t h =
    let l : suc m - 1 ≡ m = omega arith in
    rw l (append_assoc (f k) (gather m (suc k) f) t)

pub gather-over : (m k : ℕ) (f : ℕ → List ℕ) (t : List ℕ) → m ≤ 0 → gather m k f ++ t ≡ t
unfolding gather
gather-over zero k f t h = refl
gather-over (suc m) k f t h = absurd (omega arith)
