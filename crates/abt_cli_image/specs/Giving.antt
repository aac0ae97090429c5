-- What `image` does: it gives its answer for the bytes that are read of its file.
use Rattle.std.specs.Prelude.{ℕ, ◌≡◌, Bool, List, Option, None, Some}
use Rattle.support_cli.specs.Streams.{OutputState}
use Rattle.support_cli.specs.Answers.{Answer, Answered}
use Rattle.support_cli.specs.Files.{Held, IsRead}

-- the answer, by whether memory is enough for the list of calls
pub record Ends (answer : Bool → Answer) (out out' err err' : OutputState) (code : ℕ) : Type 0 where
  pub enough : Bool
  pub answered : Answered (answer enough) out out' err err' code

-- .. and by the bytes that are read of the file
pub record Gives (answer : Bool → Option (List ℕ) → Answer) (held : Held) (out out' err err' : OutputState) (code : ℕ) : Type 0 where
  pub enough : Bool
  pub file : Option (List ℕ)
  pub read : IsRead held file
  pub answered : Answered (answer enough file) out out' err err' code
