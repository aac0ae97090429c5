-- The board of a network, as bytes in ASCII: what `board` draws of a rail. A definition for each line of the page, its words from left to right.
use Rattle.std.specs.Prelude.{ℕ, Bool, true, false, not, List, [], ◌∷◌, ◌++◌, min, eqb, codes, None, Option, Some}
use Rattle.model_base.specs.Finite.{all_to, gather}
use Rattle.model_sheet.specs.Problem.{max_agents, max_domain}
use Rattle.model_agent.specs.Message.{Assignment, known, Message, Info, Back, AddLink}
use Rattle.model_agent.specs.Traffic.{Sort, Infos, Backs, AddLinks, each_count}
use Rattle.model_agent.specs.Agent.{Agent}
use Rattle.model_agent.specs.Shape.{max_named}
use Rattle.model_network.specs.Network.{Network}
use Rattle.model_base.specs.Decimal.{decimal, newline}

-- ---- sets of scanners: a record can name the scanners 1 to 16

unfoldable pub said_if : Bool → List ℕ → List ℕ
said_if true text = text
said_if false text = []

-- what is said of each scanner of a set, upward
unfoldable pub of_each : (ℕ → Bool) → (ℕ → List ℕ) → List ℕ
of_each set text = gather max_named 1 (λ k. said_if (set k) (text k))

unfoldable pub is_nobody : (ℕ → Bool) → Bool
is_nobody set = all_to max_named (λ k. not (set k))

-- a line about a set, left out where it is nobody
unfoldable pub line_about : (ℕ → Bool) → List ℕ → List ℕ
line_about set line = said_if (not (is_nobody set)) line

-- ---- scanners with their slots

-- " 3"
unfoldable pub scanner_of : ℕ → List ℕ
scanner_of k = codes " " ++ decimal k

-- " 3=2"
unfoldable pub pair : ℕ → ℕ → List ℕ
pair k v = scanner_of k ++ (codes "=" ++ decimal v)

-- " 3=2", and " 3=?" where the slot is unknown
unfoldable pub seen : ℕ → ℕ → List ℕ
seen k v = elim (known v) [ true ↦ pair k v | false ↦ scanner_of k ++ codes "=?" ]

-- " 1=2 3=1", and " nothing" where nobody is named
unfoldable pub left_side : Assignment → List ℕ
left_side l =
    elim (is_nobody (λ k. known (l k))) [ true ↦ codes " nothing" | false ↦ of_each (λ k. known (l k)) (λ k. pair k (l k)) ]

-- ---- a scanner's block

-- "2"; "-, last 1" where the verdict left it without a slot
unfoldable pub slot_of : Agent → List ℕ
slot_of a = elim (known a.value) [ true ↦ decimal a.value | false ↦ codes "-, last " ++ decimal a.last ]

-- "scanner 1 slot 2"
unfoldable pub scanner_line : ℕ → Agent → List ℕ
scanner_line i a = codes "scanner " ++ (decimal i ++ (codes " slot " ++ (slot_of a ++ newline)))

-- "  view 1=2 2=?"
unfoldable pub view_text : Agent → List ℕ
view_text a = codes "  view" ++ (of_each a.listens (λ k. seen k (a.view k)) ++ newline)

unfoldable pub view_line : Agent → List ℕ
view_line a = line_about a.listens (view_text a)

-- "  informs 3 4"
unfoldable pub informs_text : Agent → List ℕ
informs_text a = codes "  informs" ++ (of_each a.informs scanner_of ++ newline)

unfoldable pub informs_line : Agent → List ℕ
informs_line a = line_about a.informs (informs_text a)

-- "  reason 1: 1=2"
unfoldable pub reason_line : ℕ → Option Assignment → List ℕ
reason_line v None = []
reason_line v (Some l) = codes "  reason " ++ (decimal v ++ (codes ":" ++ (left_side l ++ newline)))

unfoldable pub reason_lines : Agent → List ℕ
reason_lines a = gather max_domain 1 (λ v. reason_line v (a.nogoods v))

-- " news 1 refusals 0 links 0"
unfoldable pub sorts : (Sort → ℕ) → List ℕ
sorts c = codes " news " ++ (decimal (c Infos) ++ (codes " refusals " ++ (decimal (c Backs) ++ (codes " links " ++ decimal (c AddLinks)))))

-- "  sent news 1 refusals 0 links 0, received news 2 refusals 1 links 0", left out where all six are zero
unfoldable pub counts_line : Agent → List ℕ
counts_line a =
    said_if (not (each_count a.counts (λ k. eqb k 0)))
    (codes "  sent" ++ (sorts a.counts.sent ++ (codes ", received" ++ (sorts a.counts.received ++ newline))))

unfoldable pub scanner_block : ℕ → Agent → List ℕ
scanner_block i a = scanner_line i a ++ (view_line a ++ (informs_line a ++ (reason_lines a ++ counts_line a)))

-- ---- the lines between scanners

-- "news 2", "refusal 1: 2=1", "link"
unfoldable pub message_text : Message → List ℕ
message_text (Info v) = codes "news " ++ decimal v
message_text (Back l v) = codes "refusal " ++ (decimal v ++ (codes ":" ++ left_side l))
message_text AddLink = codes "link"

-- ", news 2, link": messages behind another
unfoldable pub messages_behind : List Message → List ℕ
messages_behind [] = []
messages_behind (m ∷ ms) = codes ", " ++ (message_text m ++ messages_behind ms)

-- "line 1 to 3: "
unfoldable pub line_start : ℕ → ℕ → List ℕ
line_start i j = codes "line " ++ (decimal i ++ (codes " to " ++ (decimal j ++ codes ": ")))

-- "line 1 to 3: link, news 2", the head first; an empty line is not drawn
unfoldable pub line_line : ℕ → ℕ → List Message → List ℕ
line_line i j [] = []
line_line i j (m ∷ ms) = line_start i j ++ (message_text m ++ (messages_behind ms ++ newline))

-- ---- the board

unfoldable pub verdict_line : Bool → List ℕ
verdict_line unsolvable = said_if unsolvable (codes "verdict none" ++ newline)

-- a block for each scanner, of twelve at most
unfoldable pub scanner_blocks : Network → List ℕ
scanner_blocks w = gather (min w.problem.count max_agents) 1 (λ i. scanner_block i (w.agents i))

-- the lines by sender, then receiver
unfoldable pub lines_of : Network → ℕ → List ℕ
lines_of w i = gather max_agents 1 (λ j. line_line i j (w.channel i j))

unfoldable pub line_lines : Network → List ℕ
line_lines w = gather max_agents 1 (lines_of w)

unfoldable pub board_of : Network → List ℕ
board_of w = verdict_line w.unsolvable ++ (scanner_blocks w ++ line_lines w)
