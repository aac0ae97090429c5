-- A sheet of one edition: the first check that decides; and what a writer answers for each outcome.
-- Each opens a definition once, with the tests that led there.
use Rattle.model_base.specs.Lent.{untouched, put}
use Rattle.model_sheet.specs.Problem.{Problem, in_range}
use Rattle.model_sheet.specs.Sheet.{Valid, Invalid, BadLength, BadHeader, header_length, max_records, edition_in, decode}
use Rattle.model_sheet.specs.Writing.{written}
use Rattle.model_sheet.proofs.Range.{to-range}
use Rattle.std.proofs.Common.{Err, ℕ, ◌≤◌, ◌<◌, ◌≡◌, refl, ◌≢◌, true, false, List, length, lt-ltb, le-ltb, eq-eqb, ne_eqb}
use Rattle.support_rejection.specs.declared.Rejection.{Rejection}
use Rattle.support_rejection.specs.Rejections.{rejection_number}
use Rattle.sheet_reader.specs.Abstract.{outcome, outcome_of}
use Rattle.sheet_reader.proofs.Outcomes.{refused}
use Rattle.support_buffer.proofs.Within.{Within, put-within, untouched-within}
use Rattle.model_editions.specs.Bans.{ban_rows}
use Rattle.model_editions.specs.Gaps.{sayable, gap_rows}
use Rattle.model_editions.specs.Turning.{Turned, Made, Refused, not_sayable, decode_as, bans_from, gaps_from, ban_sheet, gap_sheet, put_turned, to_bans, to_gaps}
use Rattle.theorems_editions.proofs.Bans.{bans-few}
use Rattle.theorems_editions.proofs.Gaps.{gaps-few}
use Rattle.theorems_editions.proofs.Decoding.{good}
use Rattle.sheet_editions.specs.Pairs.{rows_of, all_rows}

-- ---- a sheet of one edition

module _ (edition : ℕ) (s : List ℕ) where
  pub as_short : length s < 24 → decode_as edition s ≡ Invalid BadLength
  unfolding decode_as header_length
  as_short h = rw (lt-ltb (length s) 24 h, decode_as)

  pub as-other : 24 ≤ length s → edition_in s ≢ edition → decode_as edition s ≡ Invalid BadHeader
  unfolding decode_as header_length
  as-other h n = rw (le-ltb (length s) 24 h, decode_as, ne_eqb (edition_in s) edition n)

  pub as_same : 24 ≤ length s → edition_in s ≡ edition → decode_as edition s ≡ decode s
  unfolding decode_as header_length
  as_same h e = rw (le-ltb (length s) 24 h, decode_as, eq-eqb (edition_in s) edition e)

-- ---- its rows

bans-are : (p : Problem) → all_rows 1 p ≡ ban_rows p
unfolding rows_of all_rows ban_rows
bans-are p = refl

gaps-are : (p : Problem) → all_rows 2 p ≡ gap_rows p
unfolding rows_of all_rows gap_rows
gaps-are p = refl

module _ (s : List ℕ) (p : Problem) where
  pub bans-ready : decode_as 2 s ≡ Valid p → (in_range p ≡ true) × (length (all_rows 1 p) ≤ 4224)
  unfolding max_records
  bans-ready v = let r = (good 2 s p v).range in (to-range p r, rw (bans-are p) (bans-few p r))

  pub gaps-ready : decode_as 1 s ≡ Valid p → (in_range p ≡ true) × (length (all_rows 2 p) ≤ 4224)
  unfolding max_records
  gaps-ready v = let r = (good 1 s p v).range in (to-range p r, rw (gaps-are p) (gaps-few p r))

-- ---- what is answered

module _ (s buffer : List ℕ) where
  pub answers-no-bans : (r : Rejection) → outcome_of (Err r) ≡ outcome (decode_as 2 s) → to_bans s buffer ≡ untouched (rejection_number r) buffer
  unfolding to_bans ban_sheet bans_from put_turned
  answers-no-bans r e = let f = refused (decode_as 2 s) r e in rw (f.1.0, f.1.1)

  pub answers-no-gaps : (r : Rejection) → outcome_of (Err r) ≡ outcome (decode_as 1 s) → to_gaps s buffer ≡ untouched (rejection_number r) buffer
  unfolding to_gaps gap_sheet gaps_from put_turned
  answers-no-gaps r e = let f = refused (decode_as 1 s) r e in rw (f.1.0, f.1.1)

  module _ (p : Problem) where
    pub answers-bans : decode_as 2 s ≡ Valid p → to_bans s buffer ≡ put (written 1 p (all_rows 1 p)) buffer
    unfolding to_bans ban_sheet bans_from put_turned
    answers-bans v = rw (v, bans-are p)

    pub answers-unsayable : decode_as 1 s ≡ Valid p → sayable p ≡ false → to_gaps s buffer ≡ untouched not_sayable buffer
    unfolding to_gaps gap_sheet gaps_from put_turned
    answers-unsayable v n = rw (v, n, gaps_from)

    pub answers-gaps : decode_as 1 s ≡ Valid p → sayable p ≡ true → to_gaps s buffer ≡ put (written 2 p (all_rows 2 p)) buffer
    unfolding to_gaps gap_sheet gaps_from put_turned
    answers-gaps v y = rw (v, y, gaps_from, gaps-are p)

turned-within : (t : Turned) (buffer : List ℕ) → Within (put_turned t buffer)
unfolding put_turned
turned-within (Made t) buffer = put-within t buffer
turned-within (Refused number) buffer = untouched-within number buffer

pub bans-within : (s buffer : List ℕ) → Within (to_bans s buffer)
unfolding to_bans
bans-within s buffer = turned-within (ban_sheet s) buffer

pub gaps-within : (s buffer : List ℕ) → Within (to_gaps s buffer)
unfolding to_gaps
gaps-within s buffer = turned-within (gap_sheet s) buffer
