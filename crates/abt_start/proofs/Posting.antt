-- What an agent sends, put on its channels all at once; and the code's network with a row of counts.
use Rattle.std.proofs.Common.{◌≡◌, List, [], ℕ, set}
use Rattle.model_agent.specs.Message.{Post}
use Rattle.model_network.specs.Network.{Network as Network', posted}
use Rattle.abt_record.specs.declared.Network.{Network}
use Rattle.abt_record_laws.proofs.Changes.{counted}

-- what agent i sends goes to the ends of its channels
unfoldable pub with_posts : Network' → ℕ → List Post → Network'
with_posts w i posts =
    record {
      problem = w.problem;
      rule = w.rule;
      unsolvable = w.unsolvable;
      agents = w.agents;
      channel = posted i posts w.channel;
    }

-- nothing waits on agent i's channels
abbrev pub Silent : Network' → ℕ → Type 0
Silent w i = (j : ℕ) → w.channel i j ≡ []

-- the network with this row of counts
abbrev pub with_row : Network → ℕ → ℕ → Network
with_row o k row = counted o (set o.counts k row)
