-- What is answered for a sheet: its text, or the number of its fault; and how bytes are put as a whole.
-- Each opens a definition once, with the outcome that led there.
use Rattle.std.proofs.Common.{ℕ, ◌+◌, ◌≤◌, ◌<◌, ◌≡◌, sym, ap, List, ◌++◌, arith, length, drop, replicate, le-leb, Err}
use lib.ListN.{length-replicate}
use borrow.Author.Tests.{lt-leb}
use Rattle.model_base.specs.Lent.{short_buffer, untouched, put}
use Rattle.model_sheet.specs.Problem.{Problem, max_agents}
use Rattle.model_sheet.specs.Sheet.{Decoded, Valid, Invalid, edition_in, decode}
use Rattle.model_sheet.specs.Chain.{rows_in}
use Rattle.model_sheet.proofs.Range.{ranged}
use Rattle.model_sheet.proofs.Sheet.{decode-in-range}
use Rattle.sheet_reader.specs.Abstract.{Outcome, outcome, outcome_of}
use Rattle.support_rejection.specs.Rejections.{rejection_number}
use Rattle.support_rejection.proofs.Numbers.{refusal-some}
use Rattle.support_rejection.specs.declared.Rejection.{Rejection}
use Rattle.model_text.specs.Telling.{longest_told, Text, text_from, told_from, text_of}
use Rattle.theorems_text.proofs.Theorems.{texts-short}
use Rattle.sheet_text_writer.specs.Parts.{put_told}

-- ---- bytes as a whole

module _ (s buffer : List ℕ) where
  pub put-short : length buffer < length s → put s buffer ≡ record { number = 12; length = 0; buffer = buffer }
  unfolding short_buffer untouched put
  put-short h = rw (lt-leb (length s) (length buffer) h, put)

  pub put-fits : (new : List ℕ) → length s ≤ length buffer → new ≡ s ++ drop (length s) buffer
      → put s buffer ≡ record { number = 0; length = length s; buffer = new }
  unfolding put
  put-fits new h e = rw (le-leb (length s) (length buffer) h, put, e)

-- ---- the outcome of reading

-- a refusal has the number of the fault
refused : (s : List ℕ) (d : Decoded) (r : Rejection) (buffer : List ℕ) → outcome_of (Err r) ≡ outcome d
    → put_told (told_from s d) buffer ≡ untouched (rejection_number r) buffer
unfolding outcome outcome_of told_from put_told
refused s (Valid p) r buffer e = absurd (refusal-some r (ap (λ (o : Outcome). o.number) e))
refused s (Invalid f) r buffer e = ap (λ (n : ℕ). untouched n buffer) (sym (ap (λ (o : Outcome). o.number) e))

pub answers-refused : (s : List ℕ) (r : Rejection) (buffer : List ℕ) → outcome_of (Err r) ≡ outcome (decode s)
    → put_told (text_of s) buffer ≡ untouched (rejection_number r) buffer
unfolding text_of
answers-refused s r buffer e = refused s (decode s) r buffer e

-- ---- the text

module _ (s : List ℕ) (p : Problem) (v : decode s ≡ Valid p) where
  pub agents-few : p.count ≤ 12
  unfolding max_agents
  agents-few = (ranged p (decode-in-range s p v)).high

  text-is : text_of s ≡ Text (text_from (edition_in s) p (rows_in s))
  unfolding text_of told_from
  text-is = rw v

  pub text-room : length (text_from (edition_in s) p (rows_in s)) + 20 ≤ length (replicate {A = ℕ} 67634 0)
  unfolding longest_told
  text-room = omega (arith, texts-short s _ text-is, length-replicate {A = ℕ} 67634 0)

  pub answers-text : (buffer : List ℕ) → put_told (text_of s) buffer ≡ put (text_from (edition_in s) p (rows_in s)) buffer
  unfolding put_told
  answers-text buffer = rw text-is
