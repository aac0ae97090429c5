-- What `board` does: it gives its answer, or a beginning of it where memory runs out.
use Rattle.std.specs.Prelude.{ℕ, ◌≡◌, false, ◌⊎◌, List, [], take, Option, None, Some, Result, Ok, Err}
use Rattle.support_cli.specs.Streams.{OutputState, Puts}
use Rattle.support_cli.specs.Answers.{Answer, status_code, not_understood, prints, Answered}
use Rattle.support_cli.specs.Files.{Held, IsRead}
use Rattle.support_cli.specs.declared.status.Status.{Status}

-- All that is answered is put on the output, and the status is the answer's unless a write has failed. Where memory runs out, a beginning of it is put.
abbrev pub Said : {E : Type 0} → Answer → Result Status E → OutputState → OutputState → Type 0
Said a (Ok s) old new = Puts a.output old new × (new.failed ≡ false → status_code s ≡ a.status) × (a.errors ≡ [])
Said a (Err e) old new = (n : ℕ) × Puts (take n a.output) old new

-- .. for the bytes that are read of a name
pub record SaidOf {E : Type 0} (answer : Option (List ℕ) → Answer) (held : Held) (said : Result Status E) (old new : OutputState) : Type 0 where
  pub file : Option (List ℕ)
  pub read : IsRead held file
  pub kept : Said (answer file) said old new

-- where memory runs out: a beginning of the answer, and its status
unfoldable pub cut_short : ℕ → Answer → Answer
cut_short n a = prints (take n a.output) not_understood

-- `board` gives its answer for the bytes that are read of its file; or memory runs out
pub record Gives (answer : Option (List ℕ) → Answer) (held : Held) (out out' err err' : OutputState) (code : ℕ) : Type 0 where
  pub file : Option (List ℕ)
  pub read : IsRead held file
  pub answered : Answered (answer file) out out' err err' code ⊎ ((n : ℕ) × Answered (cut_short n (answer file)) out out' err err' code)
