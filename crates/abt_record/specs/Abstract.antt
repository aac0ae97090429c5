-- What the network's record means. A primed name is the definitions'.
use Rattle.std.specs.Prelude.{ℕ, zero, suc, ◌+◌, ◌*◌, ◌%◌, true, false, List, [], ◌∷◌, map, get_or}
use Rattle.model_base.specs.Finite.{from_one}
use Rattle.model_sheet.specs.Problem.{Problem}
use Rattle.model_agent.specs.Message.{Message as Message'}
use Rattle.model_agent.specs.Agent.{Agent as Agent', unused_agent}
unfoldable pub use Rattle.model_network.specs.Lines.{is_channel, channel_at}
use Rattle.model_network.specs.Network.{Network as Network'}
use Rattle.abt_packed.specs.Packed.{assignment}
use Rattle.abt_agent.specs.declared.Message.TheVariants.{Info}
use Rattle.abt_agent.specs.Abstract.{message_of, agent_of}
use Rattle.abt_record.specs.declared.Place.{Place}
use Rattle.abt_record.specs.declared.Network.{Network}

unfoldable pub place_of : Place → Message'
place_of p = message_of p.message

-- what stands in a place where nothing was put
unfoldable pub no_place : Place
no_place = record { message = Info 0 }

-- the messages of a ring of eight places from `base` on, so many from `head` on, round and round
unfoldable pub ring : List Place → ℕ → ℕ → ℕ → List Message'
ring places base head zero = []
ring places base head (suc count) = place_of (get_or places (base + head % 8) no_place) ∷ ring places base (suc head) count

-- the row of sender i, digit k for receiver k
unfoldable pub row_of : List ℕ → ℕ → ℕ → ℕ
row_of rows i = assignment (from_one 0 (λ k. get_or rows k 0) i)

unfoldable pub channel_of : Network → ℕ → ℕ → List Message'
channel_of r i j = ring r.places (8 * channel_at i j) (row_of r.heads i j) (row_of r.counts i j)

unfoldable pub problem_of : Network → Problem
problem_of r = record { count = r.count; domains = r.domains; bans = r.bans }

unfoldable pub agents_of : List Agent' → ℕ → Agent'
agents_of l = from_one unused_agent (λ k. get_or l k unused_agent)

-- Where in its ring a channel's messages stand, and what its unused places hold, is no part of the network.
unfoldable pub network_of : Network → Network'
network_of r =
    record {
      problem = problem_of r;
      rule = r.rule;
      unsolvable = r.unsolvable;
      agents = agents_of (map agent_of r.agents);
      channel = λ i j. elim (is_channel i j) [ true ↦ channel_of r i j | false ↦ [] ];
    }
