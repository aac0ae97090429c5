-- An agent of the code's array is the network's.
use Rattle.std.proofs.Common.{ℕ, ◌+◌, ◌<◌, ◌≡◌, ◌∙◌, map, arith, add-one, length, get_or}
use lib.ListN.{length-map, get_or-map}
use Rattle.model_base.specs.Finite.{from_one}
use Rattle.model_base.proofs.Arrays.{get_or-below}
use Rattle.model_agent.specs.Agent.{unused_agent}
use Rattle.abt_agent.specs.Abstract.{agent_of}
use Rattle.abt_agent.specs.declared.Agent.{Agent}
use Rattle.abt_record.specs.Abstract.{agents_of, network_of}
use Rattle.abt_record.specs.declared.Network.{Network}

pub agent-at : (r : Network) (i : ℕ) (d : Agent) → length r.agents ≡ 12 → i < 12
    → (network_of r).agents (i + 1) ≡ agent_of (get_or r.agents i d)
unfolding network_of agents_of from_one
agent-at r i d l h =
    rw (add-one i)
    (get_or-below (map agent_of r.agents) i unused_agent (agent_of d) (rw length-map (omega arith)) ∙ get_or-map agent_of r.agents i d)
