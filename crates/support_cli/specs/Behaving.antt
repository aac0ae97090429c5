-- What a program does that reads standard input.
use Rattle.std.specs.Prelude.{ℕ, ◌≡◌, List, take}
use Rattle.support_cli.specs.Streams.{InputState, OutputState, Takes}
use Rattle.support_cli.specs.Answers.{Answer, Answered}

-- It takes at most so many bytes of its input, and gives the answer for them: and so for every whole input that begins with them where it is cut there.
pub record Behaves (most : ℕ) (answer : List ℕ → Answer) (given given' : InputState) (out out' err err' : OutputState) (code : ℕ) : Type 0 where
  pub input : List ℕ
  pub takes : Takes most input given given'
  pub answered : (whole : List ℕ) → take most whole ≡ input → Answered (answer whole) out out' err err' code
