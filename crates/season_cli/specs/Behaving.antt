-- What `season` does with its input and its outputs.
use Rattle.std.specs.Prelude.{ℕ, ◌<◌, ◌≡◌, true, false, List, [], length}
use Rattle.std.specs.Io.KnownBytes.{Consumes, IsAtEnd}
use Rattle.model_season.specs.Stream.{most_sheets, split}
use Rattle.support_cli.specs.Streams.{InputState, OutputState, Takes}
use Rattle.support_cli.specs.Answers.{Answered}
use Rattle.season_cli.specs.Answers.{Asked, Stream, Wrong, asked, answer_to, bytes_read}

-- These bytes are taken from the input: those of the lengths and sheets that are read, and no byte more. Fewer sheets than may be are read only at the
-- input's end, or where a read fails; nothing is taken where a read has failed.
pub record ReadsStream (bytes : List ℕ) (given given' : InputState) : Type 0 where
  pub taken : Consumes given.known given'.known bytes
  pub exact : bytes_read bytes ≡ length bytes
  pub all : given'.failed ≡ false → length (split most_sheets bytes).sheets < most_sheets → IsAtEnd given'.known
  pub over : given.failed ≡ true → (given'.failed ≡ true) × (bytes ≡ [])

-- nothing is read for a command line that is not understood
abbrev pub ReadsFor : Asked → List ℕ → InputState → InputState → Type 0
ReadsFor (Stream tells) bytes given given' = ReadsStream bytes given given'
ReadsFor (Wrong word) bytes given given' = Takes 0 bytes given given'

-- what is taken of the input, and the answer for it
pub record Serves (a : Asked) (given given' : InputState) (out out' err err' : OutputState) (code : ℕ) : Type 0 where
  pub input : List ℕ
  pub reads : ReadsFor a input given given'
  pub answered : Answered (answer_to a input) out out' err err' code

abbrev pub Behaves : List (List ℕ) → InputState → InputState → OutputState → OutputState → OutputState → OutputState → ℕ → Type 0
Behaves words given given' out out' err err' code = Serves (asked words) given given' out out' err err' code
