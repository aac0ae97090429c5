-- What the parts of the test compute or read, where the shape has no name for it.
use Rattle.std.specs.Prelude.{ℕ, pred, ◌*◌, ◌/◌, ◌^◌, ◌≤◌, ◌<◌, ◌≡◌, Bool, true, false, not, cond, ◌&&◌, List, get_or, eqb, leb}
use Rattle.std.specs.Int.Bits.{bit_and}
use Rattle.model_base.specs.Finite.{from_one, within, all_to}
use Rattle.model_base.specs.Bits.{bit}
use Rattle.model_sheet.specs.Problem.{Problem, max_domain, domain, bit_at, linked}
use Rattle.model_agent.specs.Message.{Message as Message', Info, Back, AddLink}
use Rattle.model_network.specs.Network.{Network as Network'}
use Rattle.model_network.specs.Shape.{
  holds_value,
  last_fits,
  listens_upward,
  informs_downward,
  view_listened,
  nogoods_fit,
  counts_fit,
  unused,
  message_fits,
}
use Rattle.model_base.specs.Sets.{members}
use Rattle.abt_packed.specs.Packed.{assignment}

-- x has the domains as digits
abbrev pub Domains : Problem → ℕ → Type 0
Domains p x = (k : ℕ) → assignment x k ≡ domain p k

-- x has the bits of a ban word that stand for values of a higher agent with domain e
abbrev pub Columns : ℕ → ℕ → Type 0
Columns e x = (v w : ℕ) → 1 ≤ v → v ≤ max_domain → 1 ≤ w → w ≤ max_domain → bit x (bit_at v w) ≡ within e w

-- x has the bits of a ban word that stand for no value of a lower agent with domain d: a word has none of them exactly if its bytes behind d are empty
abbrev pub Beyond : ℕ → ℕ → Type 0
Beyond d x = (word : ℕ) → word < 2 ^ 64 → eqb (bit_and word x) 0 ≡ eqb (word / 2 ^ (8 * d)) 0

-- Each agent above j either informs it and is listened to, or is not linked with it: of all agents together this asks as much as 'banned pairs
-- listen and inform' and 'whoever is informed listens'.
unfoldable pub heard : Network' → ℕ → Bool
heard w j = all_to (pred j) (λ i. cond ((w.agents i).informs j) ((w.agents j).listens i) (not (linked w.problem i j)))

-- what is asked of an agent's links
unfoldable pub links_in_shape : Network' → ℕ → Bool
links_in_shape w i = listens_upward w i && informs_downward w i && heard w i

-- the other clauses on an agent: its value, the last that it took, its view, its nogoods and its counts
unfoldable pub holds_in_shape : Network' → ℕ → Bool
holds_in_shape w i = holds_value w i && last_fits w i && view_listened w i && nogoods_fit w i && counts_fit w i

-- all that is asked of agent i
unfoldable pub agent_passes : Network' → ℕ → Bool
agent_passes w i =
    elim (leb i w.problem.count) [ true ↦ links_in_shape w i && holds_in_shape w i | false ↦ unused (w.agents i) ]

-- ---- the messages

-- the message is a link request
unfoldable pub is_link : Message' → Bool
is_link (Info v) = false
is_link (Back lhs v) = false
is_link AddLink = true

-- a message on the channel from i to j, where no link request fits any more if one was asked
unfoldable pub fits_now : Network' → ℕ → ℕ → Bool → Message' → Bool
fits_now w i j asked m = not (is_link m && asked) && message_fits w i j m

-- ---- the sets of all agents, side by side

-- agent k's set, where the masks of agents 1, 2, .. stand in a list
unfoldable pub set_of : List ℕ → ℕ → ℕ → Bool
set_of masks k = members (from_one 0 (λ j. get_or masks j 0) k)
