-- The blocks of the scanners.
use Rattle.std.proofs.Common.{◌≡◌, ℕ, ◌+◌, ◌<◌, List, length, get_or, ap}
use Rattle.model_network.specs.Network.{Network as Network'}
use Rattle.abt_agent.specs.declared.Agent.{Agent}
use Rattle.abt_agent.specs.Abstract.{agent_of}
use Rattle.abt_record.specs.declared.Network.{Network}
use Rattle.abt_record.specs.Abstract.{network_of}
use Rattle.abt_record.proofs.Agents.{agent-at}
use Rattle.abt_board_drawing.specs.Text.{scanner_block}

abbrev pub block_of : Network' → ℕ → List ℕ
block_of w i = scanner_block i (w.agents i)

pub block-at : (r : Network) (i : ℕ) (d : Agent) → length r.agents ≡ 12 → i < 12
    → block_of (network_of r) (i + 1) ≡ scanner_block (i + 1) (agent_of (get_or r.agents i d))
block-at r i d l h = ap (scanner_block (i + 1)) (agent-at r i d l h)
