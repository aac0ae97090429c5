-- The shape of a network, clause by clause. docs/RULES.md, below the table: "The shape: ..".
use Rattle.std.specs.Prelude.{ℕ, pred, Bool, true, false, not, ◌&&◌, ◌||◌, length, eqb, ltb, leb, None, Option, Some}
use Rattle.model_base.specs.Finite.{all_to, every, is_some}
use Rattle.model_sheet.specs.Problem.{Problem, max_agents, max_domain, owns, linked, in_range}
use Rattle.model_agent.specs.Message.{Assignment, known, Message, Info, Back, AddLink}
use Rattle.model_agent.specs.Traffic.{AddLinks, each_count, number, top}
use Rattle.model_agent.specs.Agent.{Agent}
use Rattle.model_agent.specs.Shape.{max_named}
use Rattle.model_network.specs.Network.{Network, is_rule}

-- "132 lines of eight places"
unfoldable pub capacity : ℕ
capacity = 8

-- An agent's record and a left side have room to name the agents 1 to `max_named`, 16; those above n must not be named.

-- each agent that a partial assignment names passes
unfoldable pub each_named : Assignment → (ℕ → ℕ → Bool) → Bool
each_named l p = all_to max_named (λ k. not (known (l k)) || p k (l k))

-- each agent of a set passes
unfoldable pub each_in : (ℕ → Bool) → (ℕ → Bool) → Bool
each_in s p = all_to max_named (λ k. not (s k) || p k)

-- ---- the agents

-- "Every scanner holds an owned slot; only under a verdict may it have none."
unfoldable pub holds_value : Network → ℕ → Bool
holds_value w i = owns w.problem i (w.agents i).value || (w.unsolvable && eqb (w.agents i).value 0)

-- "The last slot that a scanner took is an owned one, and the one held if it holds any."
unfoldable pub last_fits : Network → ℕ → Bool
last_fits w i =
    owns w.problem i (w.agents i).last && (eqb (w.agents i).value 0 || eqb (w.agents i).value (w.agents i).last)

-- "It listens only upward"
unfoldable pub listens_upward : Network → ℕ → Bool
listens_upward w i = each_in (w.agents i).listens (λ k. ltb k i)

-- ".. and informs only downward"
unfoldable pub informs_downward : Network → ℕ → Bool
informs_downward w i = each_in (w.agents i).informs (λ k. ltb i k && leb k w.problem.count)

-- "banned pairs listen and inform"
unfoldable pub linked_listen : Network → ℕ → Bool
linked_listen w j =
    all_to (pred j) (λ i. not (linked w.problem i j) || ((w.agents j).listens i && (w.agents i).informs j))

-- "whoever is informed listens"
unfoldable pub informed_listen : Network → ℕ → Bool
informed_listen w i = each_in (w.agents i).informs (λ k. (w.agents k).listens i)

-- "A view names only scanners listened to, with slots they own."
unfoldable pub view_listened : Network → ℕ → Bool
view_listened w i = each_named (w.agents i).view (λ k v. (w.agents i).listens k && owns w.problem k v)

-- "A stored reason names only scanners whose slot in the view is the same", and stands at an owned value
unfoldable pub nogood_fits : Bool → Assignment → Option Assignment → Bool
nogood_fits owned view None = true
nogood_fits owned view (Some lhs) = owned && each_named lhs (λ k v. eqb v (view k))

unfoldable pub nogoods_fit : Network → ℕ → Bool
nogoods_fit w i =
    all_to max_domain (λ v. nogood_fits (owns w.problem i v) (w.agents i).view ((w.agents i).nogoods v))

-- "Check 5 accepts any counts": each a number of 64 bits
unfoldable pub counts_fit : Network → ℕ → Bool
counts_fit w i = each_count (w.agents i).counts (λ c. leb c top)

-- everything beyond n is zero
unfoldable pub unused : Agent → Bool
unused a =
    eqb a.value 0
    && eqb a.last 0
    && each_in a.listens (λ k. false)
    && each_in a.informs (λ k. false)
    && each_named a.view (λ k v. false)
    && all_to max_domain (λ v. not (is_some (a.nogoods v)))
    && each_count a.counts (λ c. eqb c 0)

unfoldable pub agent_in_shape : Network → ℕ → Bool
agent_in_shape w i =
    elim (leb i w.problem.count) [
      | true ↦ holds_value w i
          && last_fits w i
          && listens_upward w i
          && informs_downward w i
          && linked_listen w i
          && informed_listen w i
          && view_listened w i
          && nogoods_fit w i
          && counts_fit w i
      | false ↦ unused (w.agents i)
    ]

-- ---- the channels

-- "a refusal's left side names only scanners above the receiver", "with owned slots"
unfoldable pub lhs_fits : Problem → ℕ → Assignment → Bool
lhs_fits p j lhs = each_named lhs (λ k v. ltb k j && owns p k v)

-- "all in its direction, with owned slots; the receiver of news listens to its sender, the sender of a refusal or request listens to the
-- receiver"; "no request waits from a scanner that its receiver informs already"
unfoldable pub message_fits : Network → ℕ → ℕ → Message → Bool
message_fits w i j (Info v) = ltb i j && owns w.problem i v && (w.agents j).listens i
message_fits w i j (Back lhs v) =
    ltb j i && owns w.problem j v && (w.agents i).listens j && lhs_fits w.problem j lhs
message_fits w i j AddLink = ltb j i && (w.agents i).listens j && not ((w.agents j).informs i)

-- "A line holds at most eight messages"
unfoldable pub has_room : Network → ℕ → ℕ → Bool
has_room w i j = leb (length (w.channel i j)) capacity

-- "at most one request waits on a line"
unfoldable pub one_request : Network → ℕ → ℕ → Bool
one_request w i j = leb (number AddLinks (w.channel i j)) 1

unfoldable pub channel_in_shape : Network → ℕ → ℕ → Bool
channel_in_shape w i j = has_room w i j && one_request w i j && every (message_fits w i j) (w.channel i j)

-- ---- the whole

unfoldable pub in_shape : Network → Bool
in_shape w =
    in_range w.problem
    && is_rule w.rule
    && all_to max_agents (agent_in_shape w)
    && all_to max_agents (λ i. all_to max_agents (λ j. channel_in_shape w i j))
