-- Reading an image: the network that the bytes would be the image of, and whether they are. docs/FORMATS.md, 'The image'.
use Rattle.std.specs.Prelude.{ℕ, zero, suc, pred, ◌+◌, ◌*◌, ◌-◌, Bool, true, false, ◌&&◌, cond, List, [], ◌∷◌, length, get_or, take, drop, eqb, None, Option, Some}
use Rattle.model_base.specs.Finite.{within, gather, sum}
use Rattle.model_base.specs.Same.{same_numbers}
use Rattle.model_sheet.specs.Problem.{Problem, max_agents, max_domain}
use Rattle.model_agent.specs.Message.{Assignment, Message, Info, Back, AddLink}
use Rattle.model_agent.specs.Traffic.{Sort, Infos, Backs, AddLinks}
use Rattle.model_agent.specs.Agent.{Nogoods, Agent, unused_agent}
use Rattle.model_base.specs.Sets.{members}
use Rattle.model_network.specs.Lines.{is_channel, channel_at}
use Rattle.model_network.specs.Network.{Network, empty_network}
use Rattle.model_network.specs.Shape.{capacity, in_shape}
use Rattle.model_image.specs.Bytes.{number_in, stretch}
use Rattle.model_image.specs.Image.{image}

-- ---- where the parts stand

-- "1, n, the rule, the verdict .., twelve slot counts"
unfoldable pub header_length : ℕ
header_length = 16

-- "eight bytes for each of 66 pairs"
unfoldable pub bans_length : ℕ
bans_length = 528

-- 1 + 1 + 2 + 2 + 12 + 8 × 13 + 6 × 8
unfoldable pub agent_length : ℕ
agent_length = 170

-- "132 two-byte heads"
unfoldable pub heads_length : ℕ
heads_length = 264

-- 1 + 1 + 2 + 12
unfoldable pub message_length : ℕ
message_length = 16

unfoldable pub agents_start : ℕ
agents_start = header_length + bans_length

unfoldable pub heads_start : ℕ → ℕ
heads_start n = agents_start + agent_length * n

unfoldable pub messages_start : ℕ → ℕ
messages_start n = heads_start n + heads_length

-- ---- the parts of a record

-- the assignment of twelve slots
unfoldable pub slots_in : List ℕ → Assignment
slots_in s k = cond (within max_agents k) (get_or s (pred k) 0) 0

unfoldable pub reason_in : List ℕ → Option Assignment
reason_in s = cond (eqb (get_or s 0 0) 1) (Some (slots_in (drop 1 s))) None

unfoldable pub counts_in : List ℕ → Sort → ℕ
counts_in s Infos = number_in (stretch 0 8 s)
counts_in s Backs = number_in (stretch 8 8 s)
counts_in s AddLinks = number_in (stretch 16 8 s)

-- the reason of own value v, each thirteen bytes long
unfoldable pub reasons_in : List ℕ → Nogoods
reasons_in s v = cond (within max_domain v) (reason_in (stretch (13 * pred v) 13 s)) None

unfoldable pub agent_in : List ℕ → Agent
agent_in s =
    record {
      value = get_or s 0 0;
      last = get_or s 1 0;
      listens = members (number_in (stretch 2 2 s));
      informs = members (number_in (stretch 4 2 s));
      view = slots_in (stretch 6 12 s);
      nogoods = reasons_in (stretch 18 104 s);
      counts = record { sent = counts_in (stretch 122 24 s); received = counts_in (stretch 146 24 s) };
    }

-- ---- the bans

-- the words of the pairs with a lower agent below i come first, 11 + 10 + .. of them; then those of i, by higher agent
unfoldable pub ban_place : ℕ → ℕ → ℕ
ban_place i j = sum (pred i) (λ k. max_agents - k) + (pred j - i)

unfoldable pub ban_in : List ℕ → ℕ → ℕ → ℕ
ban_in s i j = number_in (stretch (header_length + 8 * ban_place i j) 8 s)

-- the ban table: the words of one higher agent together
unfoldable pub bans_in : List ℕ → List ℕ
bans_in s = gather max_agents 1 (λ j. gather (pred j) 1 (λ i. ban_in s i j ∷ []))

unfoldable pub problem_in : List ℕ → Problem
problem_in s = record { count = get_or s 1 0; domains = stretch 4 max_agents s; bans = bans_in s }

-- ---- the lines

unfoldable pub message_in : List ℕ → Message
message_in s =
    cond (eqb (get_or s 0 0) 1) (Info (get_or s 1 0))
    (cond (eqb (get_or s 0 0) 2) (Back (slots_in (drop 4 s)) (get_or s 1 0)) AddLink)

-- the index of the next message
unfoldable pub next_in : List ℕ → ℕ
next_in s = number_in (stretch 2 2 s)

-- one line: at most `most` messages from the first on, up to one whose next index is zero
unfoldable pub chain_in : ℕ → List ℕ → List Message
chain_in zero s = []
chain_in (suc most) s = message_in s ∷ cond (eqb (next_in s) 0) [] (chain_in most (drop message_length s))

-- the line with this head, where the messages of s are left
unfoldable pub line_in : ℕ → List ℕ → List Message
line_in head s = cond (eqb head 0) [] (chain_in capacity s)

-- the lines with these heads, in order: the messages of one stand behind those of the one before
unfoldable pub lines_in : ℕ → List ℕ → List ℕ → List (List Message)
lines_in zero heads s = []
lines_in (suc count) heads s =
    line_in (number_in (take 2 heads)) s
    ∷ lines_in count (drop 2 heads) (drop (message_length * length (line_in (number_in (take 2 heads)) s)) s)

-- 132 of them
unfoldable pub line_count : ℕ
line_count = 132

unfoldable pub channel_in : List (List Message) → ℕ → ℕ → List Message
channel_in lines i j = cond (is_channel i j) (get_or lines (channel_at i j) []) []

-- ---- the whole

unfoldable pub agents_in : ℕ → List ℕ → ℕ → Agent
agents_in n s i = cond (within n i) (agent_in (stretch (agents_start + agent_length * pred i) agent_length s)) unused_agent

-- the network that these bytes would be the image of; a byte that is not there is zero
unfoldable pub parse : List ℕ → Network
parse s =
    record {
      problem = problem_in s;
      rule = get_or s 2 0;
      unsolvable = eqb (get_or s 3 0) 1;
      agents = agents_in (get_or s 1 0) s;
      channel = channel_in (lines_in line_count (drop (heads_start (get_or s 1 0)) s) (drop (messages_start (get_or s 1 0)) s));
    }

-- "not the image of a rail in shape"
unfoldable pub bad_image : ℕ
bad_image = 13

-- what reading gives, and the number that it answers
pub record Loaded : Type 0 where
  pub number : ℕ
  pub network : Network

-- the bytes are the image of a network in shape
unfoldable pub is_image : List ℕ → Bool
is_image s = in_shape (parse s) && same_numbers (image (parse s)) s

-- what reading gives of bytes in the first form: the network that they are the image of, or 13 and the empty network
unfoldable pub load_first : List ℕ → Loaded
load_first s = elim (is_image s) [ true ↦ record { number = 0; network = parse s } | false ↦ record { number = bad_image; network = empty_network } ]
