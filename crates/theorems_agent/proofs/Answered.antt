-- Line 5.1 of the report's conflict rule, from the facts alone: an outdated Back that refuses the own value is answered, so that its sender, which
-- has forgotten the value, hears it again.
use Rattle.std.proofs.Common.{◌≡◌, ◌≢◌, inr, [], false, ℕ}
use Rattle.model_agent.specs.Message.{Assignment, Back, sent_to}
use Rattle.model_agent.specs.Agent.{Self, Bans, Agent, Step}
use Rattle.theorems_agent.specs.Facts.{Facts}

pub told-again : (S : Assignment → Type 0) (s : Self) (bans : Bans) (a : Agent) (from : ℕ) (lhs : Assignment) (v : ℕ) (t : Step)
    → (F : Facts S s bans a from (Back lhs v) t) → v ≡ a.value → F.chooses ≡ false → sent_to from t.sent ≢ []
told-again S s bans a from lhs v t F e c = (F.quiet c).answers (inr e)
