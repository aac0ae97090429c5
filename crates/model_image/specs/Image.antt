-- The image of a network (rail), byte for byte. docs/FORMATS.md, 'The image'.
use Rattle.std.specs.Prelude.{ℕ, suc, ◌+◌, ◌-◌, Bool, cond, List, [], ◌∷◌, ◌++◌, length, get_or, replicate, eqb, None, Option, Some}
use Rattle.model_base.specs.Finite.{gather}
use Rattle.model_sheet.specs.Problem.{Problem, max_agents, max_domain, domain, word_at}
use Rattle.model_agent.specs.Message.{Assignment, Message, Info, Back, AddLink}
use Rattle.model_agent.specs.Traffic.{Sort, Infos, Backs, AddLinks}
use Rattle.model_agent.specs.Agent.{Agent}
use Rattle.model_base.specs.Sets.{mask_from}
use Rattle.model_network.specs.Network.{Network}
use Rattle.model_image.specs.Bytes.{bytes_of}

-- "twelve view slots", "twelve left-side slots": of agents 1 to 12
unfoldable pub slots : Assignment → List ℕ
slots l = gather max_agents 1 (λ k. l k ∷ [])

unfoldable pub byte_for : Bool → ℕ
byte_for b = cond b 1 0

-- ---- "The header: 1, n, the rule, the verdict (1 for `none`, else 0), twelve slot counts."

-- the first form
unfoldable pub first_form : ℕ
first_form = 1

unfoldable pub header_bytes : Network → List ℕ
header_bytes w = first_form ∷ w.problem.count ∷ w.rule ∷ byte_for w.unsolvable ∷ slots (domain w.problem)

-- ---- "Then the bans, eight bytes for each of 66 pairs, upward by lower, then higher"

unfoldable pub ban_bytes : Problem → List ℕ
ban_bytes p =
    gather max_agents 1 (λ i. gather (max_agents - i) (suc i) (λ j. bytes_of 8 (get_or p.bans (word_at i j) 0)))

-- ---- "Then scanners 1 to n"

-- "masks .. (two bytes each, scanner 1 lowest)"
unfoldable pub mask_bytes : (ℕ → Bool) → List ℕ
mask_bytes f = bytes_of 2 (mask_from f 1 max_agents)

-- "eight reasons (1 if stored, twelve left-side slots)": one of them
unfoldable pub reason_bytes : Option Assignment → List ℕ
reason_bytes None = replicate (suc max_agents) 0
reason_bytes (Some lhs) = 1 ∷ slots lhs

-- "news, refusals, requests"
unfoldable pub count_bytes : (Sort → ℕ) → List ℕ
count_bytes count = bytes_of 8 (count Infos) ++ bytes_of 8 (count Backs) ++ bytes_of 8 (count AddLinks)

-- "slot, last slot, the masks of those listened to and of those informed .., twelve view slots, eight reasons .., six counts (sent, then received ..)"
unfoldable pub agent_bytes : Agent → List ℕ
agent_bytes a =
    (a.value ∷ a.last ∷ [])
    ++ mask_bytes a.listens
    ++ mask_bytes a.informs
    ++ slots a.view
    ++ gather max_domain 1 (λ v. reason_bytes (a.nogoods v))
    ++ count_bytes a.counts.sent
    ++ count_bytes a.counts.received

-- ---- "Then 132 two-byte heads by sender, then receiver, and the messages, numbered from 1"

-- all lines, by sender, then receiver
unfoldable pub all_lines : Network → List (List Message)
all_lines w = gather max_agents 1 (λ i. gather max_agents 1 (λ j. cond (eqb i j) [] (w.channel i j ∷ [])))

-- the number of the first message of a list, behind so many: "zero ends a line's chain"
unfoldable pub number_after : ℕ → List Message → ℕ
number_after before [] = 0
number_after before (m ∷ ms) = suc before

-- "The writer lays messages out line by line"
unfoldable pub heads_from : ℕ → List (List Message) → List ℕ
heads_from before [] = []
heads_from before (l ∷ ls) = bytes_of 2 (number_after before l) ++ heads_from (before + length l) ls

-- a left side that a message does not have
unfoldable pub no_slots : List ℕ
no_slots = replicate max_agents 0

-- "the sort (1 news, 2 refusal, 3 request), the slot, the index of the next message (two bytes), twelve left-side slots"; "Unused is zero"
unfoldable pub message_bytes : Message → ℕ → List ℕ
message_bytes (Info v) next = (1 ∷ v ∷ []) ++ bytes_of 2 next ++ no_slots
message_bytes (Back lhs v) next = (2 ∷ v ∷ []) ++ bytes_of 2 next ++ slots lhs
message_bytes AddLink next = (3 ∷ 0 ∷ []) ++ bytes_of 2 next ++ no_slots

-- the messages of one line, behind so many
unfoldable pub chain_from : ℕ → List Message → List ℕ
chain_from before [] = []
chain_from before (m ∷ ms) = message_bytes m (number_after (suc before) ms) ++ chain_from (suc before) ms

unfoldable pub messages_from : ℕ → List (List Message) → List ℕ
messages_from before [] = []
messages_from before (l ∷ ls) = chain_from before l ++ messages_from (before + length l) ls

-- ---- the whole

unfoldable pub image : Network → List ℕ
image w =
    header_bytes w
    ++ ban_bytes w.problem
    ++ gather w.problem.count 1 (λ i. agent_bytes (w.agents i))
    ++ heads_from 0 (all_lines w)
    ++ messages_from 0 (all_lines w)
