-- A reason as a scanner's record holds it, a left side packed in a word. A primed name is the code's.
use Rattle.std.specs.Prelude.{ℕ, Option, Some, None}
use Rattle.model_agent.specs.Message.{Assignment}
use Rattle.abt_packed.specs.Packed.{assignment}

abbrev pub reason_of : Option ℕ → Option Assignment
reason_of (Some word) = Some (assignment word)
reason_of None = None
