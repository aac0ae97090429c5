-- No rule reads a count, so an agent can be taken apart without them: in shape it stays in shape, and its step is counted afterwards.
use Rattle.std.proofs.Common.{ℕ, ◌≡◌, sym, ap, Bool, [], ◌∷◌}
use Rattle.model_agent.specs.Message.{Message, Info, Back, AddLink}
use Rattle.model_agent.specs.Traffic.{Traffic}
use Rattle.model_agent.specs.Agent.{Self, Bans, Agent, with_counts}
use Rattle.model_agent.specs.Receiving.{react, counted, receive}
use Rattle.model_agent.specs.Shape.{RecordFits, MessageFits}
use Rattle.theorems_agent.proofs.Uncounted.{react-uncounted}

-- a record in shape, and a message that fits it
pub fits-recounted : (owns : ℕ → ℕ → Bool) (s : Self) (a : Agent) (c : Traffic) → RecordFits owns s a → RecordFits owns s (with_counts a c)
fits-recounted owns s a c f =
    record { valued = f.valued; kept = f.kept; upward = f.upward; downward = f.downward; viewed = f.viewed; agreed = f.agreed }

pub message-recounted : (owns : ℕ → ℕ → Bool) (s : Self) (a : Agent) (c : Traffic) (from : ℕ) (m : Message) → MessageFits owns s a from m
    → MessageFits owns s (with_counts a c) from m
message-recounted owns s a c from (Info v) f = f
message-recounted owns s a c from (Back lhs v) f = f
message-recounted owns s a c from AddLink f = f

pub receives : (s : Self) (bans : Bans) (c : Traffic) (a : Agent) (from : ℕ) (m : Message)
    → receive s bans a from m ≡ counted a (m ∷ []) (react s bans (with_counts a c) from m)
unfolding receive counted
receives s bans c a from m = sym (ap (counted a (m ∷ [])) (react-uncounted s bans c a from m))
