-- What a program answers, and that it did so.
use Rattle.std.specs.Prelude.{ℕ, ◌≡◌, Bool, true, false, List, [], ◌++◌, eqb, take, codes}
use Rattle.model_base.specs.Lent.{Written}
use Rattle.model_base.specs.Decimal.{newline, line_of}
use Rattle.support_cli.specs.Streams.{OutputState, Puts}
use Rattle.support_cli.specs.declared.status.Status.{Status}
use Rattle.support_cli.specs.declared.status.Status.TheVariants.{Done, Refused, NotUnderstood, NotWritten}

-- ---- the exit status

abbrev pub done : ℕ
done = 0

-- a sheet, a rule, an image, an ordinal or a text is refused
abbrev pub refused : ℕ
refused = 1

-- something is not understood or cannot be read, or memory runs out
abbrev pub not_understood : ℕ
not_understood = 2

-- standard output cannot be written
abbrev pub not_written : ℕ
not_written = 3

abbrev pub status_code : Status → ℕ
status_code Done = done
status_code Refused = refused
status_code NotUnderstood = not_understood
status_code NotWritten = not_written

-- ---- the answer

-- what a program writes on standard output and on standard error where it can, and its exit status
pub record Answer : Type 0 where
  pub output : List ℕ
  pub errors : List ℕ
  pub status : ℕ

-- on standard output alone
unfoldable pub prints : List ℕ → ℕ → Answer
prints text status = record { output = text; errors = []; status = status }

-- on standard error alone
unfoldable pub tells : List ℕ → ℕ → Answer
tells text status = record { output = []; errors = text; status = status }

-- .. one line: what is said, and the word that it is said of
unfoldable pub says : List ℕ → List ℕ → ℕ → Answer
says what word status = tells (what ++ (word ++ newline)) status

-- "refused "
abbrev pub refused_word : List ℕ
refused_word = codes "refused "

-- .. one line that has a refusal's number
unfoldable pub says_refused : ℕ → Answer
says_refused number = tells (line_of refused_word number) refused

-- what was written into a lent buffer: its bytes on standard output, or its refusal
unfoldable pub hands_over : Written → Answer
hands_over w = elim (eqb w.number 0) [ true ↦ prints (take w.length w.buffer) done | false ↦ says_refused w.number ]

-- "cannot write", where standard output has failed
abbrev pub failure_line : Bool → List ℕ
failure_line true = codes "cannot write\n"
failure_line false = []

abbrev pub status_by : Bool → ℕ → ℕ
status_by true status = not_written
status_by false status = status

-- A program gives this answer: standard output grows by its text, and standard error by what it says there. Where standard output has failed, that is said
-- too, and the status is that.
pub record Answered (a : Answer) (out out' err err' : OutputState) (code : ℕ) : Type 0 where
  pub output : Puts a.output out out'
  pub errors : Puts (a.errors ++ failure_line out'.failed) err err'
  pub status : code ≡ status_by out'.failed a.status
