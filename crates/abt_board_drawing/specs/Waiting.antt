-- The messages of a line as the record has them: the one so many places behind the head, and those behind the head. A primed name is the definitions'.
use Rattle.std.specs.Prelude.{ℕ, suc, ◌+◌, ◌*◌, ◌%◌, List, get_or}
use Rattle.model_agent.specs.Message.{Message as Message'}
use Rattle.model_network.specs.Lines.{channel_at}
use Rattle.abt_record.specs.Abstract.{place_of, no_place, ring, row_of}
use Rattle.abt_record.specs.declared.Network.{Network}

abbrev pub waiting : Network → ℕ → ℕ → ℕ → Message'
waiting r i j k = place_of (get_or r.places (8 * channel_at i j + (row_of r.heads i j + k) % 8) no_place)

abbrev pub others : Network → ℕ → ℕ → ℕ → List Message'
others r i j count = ring r.places (8 * channel_at i j) (suc (row_of r.heads i j)) count
