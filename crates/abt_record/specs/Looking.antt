-- The test of the shape: all but the lines first (`Framed`); then the lines, one by one, the messages of a line from the last to the first.
use Rattle.std.specs.Prelude.{ℕ, ◌+◌, ◌*◌, ◌-◌, ◌%◌, ◌≡◌, Bool, ◌&&◌, List, leb, get_or}
use Rattle.model_base.specs.Finite.{all_to, every}
use Rattle.model_sheet.specs.Problem.{max_agents}
use Rattle.model_agent.specs.Message.{Message as Message'}
use Rattle.model_agent.specs.Traffic.{AddLinks, number}
use Rattle.model_network.specs.Network.{Network as Network'}
use Rattle.model_network.specs.Shape.{message_fits, channel_in_shape, in_shape}
use Rattle.model_network.specs.Run.{one_if}
use Rattle.abt_shape.specs.Frames.{Framing}
use Rattle.abt_shape.specs.declared.frames.Frame.{Frame}
use Rattle.abt_record.specs.Abstract.{channel_at, place_of, no_place, ring, row_of, network_of}
use Rattle.abt_record.specs.declared.Network.{Network}

-- every line is in shape
unfoldable pub channels_in_shape : Network → Bool
channels_in_shape r = all_to max_agents (λ i. all_to max_agents (λ j. channel_in_shape (network_of r) i j))

-- all but the lines is in shape; the frame is the network's
pub record Framed (r : Network) (f : Frame) : Type 0 where
  pub lines : in_shape (network_of r) ≡ channels_in_shape r
  pub framing : Framing (network_of r) f

-- ---- one line

-- what is asked of the messages on the channel from i to j, where a request was asked already or not
unfoldable pub fitting : Network' → ℕ → ℕ → List Message' → Bool → Bool
fitting w i j ms asked = leb (number AddLinks ms + one_if asked) 1 && every (message_fits w i j) ms

-- what is asked of a channel, all but the first `left` of its messages having been looked at
unfoldable pub left_fits : Network → ℕ → ℕ → ℕ → Bool → Bool
left_fits r i j left asked = fitting (network_of r) i j (ring r.places (8 * channel_at i j) (row_of r.heads i j) left) asked

-- the last of them
unfoldable pub last_left : Network → ℕ → ℕ → ℕ → Message'
last_left r i j left = place_of (get_or r.places (8 * channel_at i j + (row_of r.heads i j + (left - 1)) % 8) no_place)
