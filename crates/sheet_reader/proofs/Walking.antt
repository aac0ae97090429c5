-- The walk's loop invariant: what is left of the walk is the definition's walk from here, with the table so far.
-- It holds at the first record, and a good record takes it to the next.
use Rattle.std.proofs.Common.{◌≡◌, ◌∙◌, true, false, List, ℕ, ◌+◌, ◌-◌, ◌*◌, ◌^◌, ◌≤◌, ◌<◌, add-one, arith, eqb, ltb, length, set, replicate, length-set, get_or-set_same, get_or-set_other, eqb-true, ltb-true, ltb-false}
use lib.ListN.{length-replicate}
use lib.Seq.{set_out}
use borrow.Author.Tests.{eqb-false}
use Rattle.model_base.proofs.Tests.{test}
use Rattle.model_base.proofs.Arrays.{get_or-same}
use Rattle.model_sheet.specs.Problem.{max_domain, max_pairs, with_table, with_bans, no_bans}
use Rattle.model_sheet.specs.Row.{with_row}
use Rattle.model_sheet.specs.Sheet.{Invalid, BadRecord, header_length, record_length, word_from, agents_in, first_in, records_in, without_bans, header_good, row_of, next_of, record_good, decode}
use Rattle.model_sheet.proofs.Fields.{record-fits}
use Rattle.model_sheet.proofs.Range.{domain-same}
use Rattle.model_sheet.proofs.Bits.{bits_below}
use Rattle.model_sheet.proofs.Walk.{free_walk, free-fails, free-goes, record_same}
use Rattle.model_sheet.proofs.Checks.{walked}
use Rattle.sheet_records.specs.Parts.{Good, Short, table_with}
use Rattle.sheet_records.proofs.Headers.{header}
use Rattle.sheet_records.proofs.Records.{start-at, good-record}
use Rattle.sheet_reader.specs.Abstract.{Framed}

pub record Walking (s : List ℕ) (bans : List ℕ) (r left : ℕ) : Type 0 where
  pub header : header_good s ≡ true
  pub agents : agents_in s ≤ 12
  pub records : records_in s ≤ 4224
  pub total : length s ≡ 24 + 8 * records_in s
  pub here : r ≤ records_in s
  pub words : length bans ≡ 66
  pub short : Short bans
  pub rest : decode s ≡ free_walk left s r (with_table (without_bans s) bans)

pub starts : (s : List ℕ) → Framed s → Walking s (replicate 66 0) (word_from s 2) (word_from s 4 + 1)
unfolding max_pairs with_table no_bans header_length record_length first_in records_in without_bans
starts s f =
    let head = header s f.header in
    record {
      header = f.header;
      agents = head.agents;
      records = head.records;
      total = f.total;
      here = head.first;
      words = length-replicate {A = ℕ} 66 0;
      short = λ k. rw (get_or-same {A = ℕ} 66 0 k) (omega arith);
      rest = rw (add-one (word_from s 4)) (walked s f.header f.total);
    }

pub fails : (s bans : List ℕ) (r left : ℕ) → Walking s bans r left → 0 < left → (r ≡ 0 → ⊥) → record_good s (without_bans s) r ≡ false
    → decode s ≡ Invalid BadRecord
fails s bans r left w more e h =
    w.rest ∙ free-fails s r (with_table (without_bans s) bans) left more e (record_same s (without_bans s) bans r ∙ h)

pub good : (s bans : List ℕ) (r left : ℕ) → Walking s bans r left → (r ≡ 0 → ⊥) → record_good s (without_bans s) r ≡ true → Good s r
good s bans r left w e h = record { header = w.header; index = omega arith; inside = omega (arith, w.total, w.here); fields = h }

-- words of 64 bits stay so
short-set : (t : List ℕ) (i x : ℕ) → Short t → x < 2 ^ 64 → Short (set t i x)
short-set t i x short h k =
    test (eqb k i)
    (λ e. test (ltb i (length t))
    (λ l. rw (eqb-true k i e, get_or-set_same t i x 0 (ltb-true i (length t) l)) h)
    (λ l. rw (set_out t i x (ltb-false i (length t) l)) (short k)))
    (λ e. rw (get_or-set_other t i k x 0 (eqb-false k i e)) (short k))

short-more : (s : List ℕ) (r : ℕ) (t : List ℕ) → Good s r → Short t → Short (table_with s r t)
unfolding max_domain with_table with_bans with_row table_with
short-more s r t g short =
    let f = good-record s r g in
    let same = domain-same (without_bans s) t in
    short-set t _ _ short
    (bits_below _ _ _ _ (rw (same (row_of s r).lower) f.lowers.1) (rw (same (row_of s r).higher) f.highers.1) (short _))

pub next-there : (s : List ℕ) (r : ℕ) → 1 ≤ r → word_from s (20 + 8 * r) ≡ next_of s r
unfolding next_of
next-there s r l = let on : 20 + 8 * r ≡ 16 + 8 * r + 4 = omega arith in rw (on, start-at r l)

pub goes : (s bans : List ℕ) (r left : ℕ) → Walking s bans r left → 0 < left → (r ≡ 0 → ⊥) → record_good s (without_bans s) r ≡ true
    → Walking s (table_with s r bans) (word_from s (20 + 8 * r)) (left - 1)
unfolding with_table with_bans with_row table_with
goes s bans r left w more e h =
    let there = next-there s r (omega arith) in
    let on = free-goes s r (with_table (without_bans s) bans) left more e (record_same s (without_bans s) bans r ∙ h) in
    record {
      header = w.header;
      agents = w.agents;
      records = w.records;
      total = w.total;
      here = rw there (record-fits s (without_bans s) r h).next;
      words = length-set bans _ _ ∙ w.words;
      short = short-more s r bans (good s bans r left w e h) w.short;
      rest = rw there (w.rest ∙ on);
    }
