-- What each count is to be, and the totals over all agents and lines. docs/RULES.md, 'Figures on every scanner'.
use Rattle.std.specs.Prelude.{ℕ, ◌+◌, ◌≤◌, ◌<◌, true, false, List, [], ◌++◌, map, length}
use Rattle.model_base.specs.Finite.{within, sum}
use Rattle.model_sheet.specs.Problem.{Problem}
use Rattle.model_agent.specs.Message.{Message, Post}
use Rattle.model_agent.specs.Traffic.{Sort, Infos, Backs, AddLinks, Traffic, number, messages_in, top}
use Rattle.model_network.specs.Network.{Network, begun, start}
use Rattle.theorems_network.specs.Calls.{Call}
use Rattle.theorems_network.specs.Deeds.{Handed, handed_in, posts_in}

-- ---- "the start and the accepted deliveries sent from that scanner, or handed to it"

unfoldable pub start_posts : ℕ → Problem → ℕ → List Post
start_posts rule p i = elim (within p.count i) [ true ↦ (begun rule p i).sent | false ↦ [] ]

unfoldable pub sent_from : ℕ → Problem → List Call → ℕ → List Message
sent_from rule p calls i = messages_in (start_posts rule p i ++ posts_in i calls (start rule p))

unfoldable pub message_of : Handed → Message
message_of h = h.message

-- the start hands nothing over
unfoldable pub received_by : ℕ → Problem → List Call → ℕ → List Message
received_by rule p calls i = map message_of (handed_in i calls (start rule p))

-- ---- "while no count has reached the top": of agents 1 to n

abbrev pub BelowTop : Problem → Network → Type 0
BelowTop p w =
    (i : ℕ) → 1 ≤ i → i ≤ p.count → (x : Sort) → ((w.agents i).counts.sent x < top) × ((w.agents i).counts.received x < top)

-- ---- totals over agents 1 to n: of one sort, and of all three

unfoldable pub total_of : Problem → Network → (Traffic → ℕ) → ℕ
total_of p w count = sum p.count (λ i. count (w.agents i).counts)

unfoldable pub of_all_sorts : (Sort → ℕ) → ℕ
of_all_sorts f = f Infos + f Backs + f AddLinks

unfoldable pub total_sent : Problem → Network → ℕ
total_sent p w = total_of p w (λ c. of_all_sorts c.sent)

unfoldable pub total_received : Problem → Network → ℕ
total_received p w = total_of p w (λ c. of_all_sorts c.received)

-- what waits on all lines between them, by a measure of one line
unfoldable pub on_all_lines : Problem → Network → (List Message → ℕ) → ℕ
on_all_lines p w f = sum p.count (λ i. sum p.count (λ j. f (w.channel i j)))

unfoldable pub waiting_of : Problem → Network → Sort → ℕ
waiting_of p w x = on_all_lines p w (number x)

unfoldable pub total_waiting : Problem → Network → ℕ
total_waiting p w = on_all_lines p w length
