-- Networks that hold nothing outside their arrays: there are agents 1 to 12, and records and messages are plain. Every network of the code is such,
-- and every network reached from a start.
use Rattle.std.specs.Prelude.{ℕ, ◌≡◌, false, []}
use Rattle.model_base.specs.Finite.{within}
use Rattle.model_base.specs.Lists.{All}
use Rattle.model_sheet.specs.Problem.{max_agents}
use Rattle.model_agent.specs.Agent.{unused_agent}
use Rattle.model_agent.specs.Plain.{PlainAgent, PlainMessage}
use Rattle.model_network.specs.Lines.{is_channel}
use Rattle.model_network.specs.Network.{Network}

pub record Plain (w : Network) : Type 0 where
  pub agents : (i : ℕ) → PlainAgent (w.agents i)
  pub others : (i : ℕ) → within max_agents i ≡ false → w.agents i ≡ unused_agent
  pub channels : (i j : ℕ) → is_channel i j ≡ false → w.channel i j ≡ []
  pub messages : (i j : ℕ) → All PlainMessage (w.channel i j)
