-- What `season` answers, for every command line and every input: `season [--progress] < STREAM`. docs/PROGRAMS.md, 'A season's figures'.
use Rattle.std.specs.Prelude.{ℕ, zero, suc, ◌+◌, ◌*◌, ◌/◌, Bool, true, false, List, [], ◌∷◌, ◌++◌, eqb, length, drop, bytes_eq, codes}
use Rattle.std.specs.List.{starts_with}
use Rattle.model_base.specs.Finite.{gather}
use Rattle.model_base.specs.Decimal.{decimal, newline}
use Rattle.model_season.specs.Stream.{most_sheets, length_bytes, length_in, is_whole, split, season}
use Rattle.season_text.specs.Text.{season_text}
use Rattle.support_cli.specs.Answers.{Answer, done, not_understood, prints}

-- ---- the command line

unfoldable pub is_progress : List ℕ → Bool
is_progress word = bytes_eq word (codes "--progress")

-- a stream is to be read, and whether progress is told; or this word is not understood
pub data Asked : Type 0 where
  Stream : Bool → Asked
  Wrong : List ℕ → Asked

-- nothing may stand behind the option
unfoldable pub asked_behind : List (List ℕ) → Asked
asked_behind [] = Stream true
asked_behind (word ∷ words) = Wrong word

unfoldable pub asked : List (List ℕ) → Asked
asked [] = Stream false
asked (word ∷ words) = elim (is_progress word) [ true ↦ asked_behind words | false ↦ Wrong word ]

-- an option that there is not, or that stands twice; or a word too many
unfoldable pub wrong_what : List ℕ → List ℕ
wrong_what word =
    elim (starts_with eqb word (codes "--")) [ true ↦ codes "option not understood: " | false ↦ codes "argument not understood: " ]

unfoldable pub wrong_answer : List ℕ → Answer
wrong_answer word = prints (wrong_what word ++ (word ++ newline)) not_understood

-- ---- progress: "a line on standard error after every 1,000"

unfoldable pub progress_line : ℕ → List ℕ
progress_line sheets = decimal sheets ++ codes " sheets\n"

-- for so many sheets
unfoldable pub progress : ℕ → List ℕ
progress sheets = gather (sheets / 1000) 1 (λ k. progress_line (1000 * k))

abbrev pub told : Bool → ℕ → List ℕ
told true sheets = progress sheets
told false sheets = []

-- ---- the answer

-- the figures of the stream, on standard output
unfoldable pub stream_answer : Bool → List ℕ → Answer
stream_answer tells stream =
    record { output = season_text (season stream); errors = told tells (length (split most_sheets stream).sheets); status = done }

abbrev pub answer_to : Asked → List ℕ → Answer
answer_to (Stream tells) stream = stream_answer tells stream
answer_to (Wrong word) stream = wrong_answer word

-- ---- how much of the stream is read: lengths and whole sheets, at most so many, and what breaks off behind them

unfoldable pub bytes_from : ℕ → List ℕ → ℕ
bytes_from zero bytes = 0
bytes_from (suc most) bytes =
    elim (is_whole bytes) [
      | true ↦ length_bytes + length_in bytes + bytes_from most (drop (length_bytes + length_in bytes) bytes)
      | false ↦ length bytes
    ]

unfoldable pub bytes_read : List ℕ → ℕ
bytes_read stream = bytes_from most_sheets stream
