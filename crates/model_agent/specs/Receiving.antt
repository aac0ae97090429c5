-- What an agent does with a message, and at the start. docs/RULES.md, 'What a scanner does' (figure 1: ProcessInfo, ResolveConflict; figure 2:
-- ResolveConflict, SetLink, CheckAddLink).
use Rattle.std.specs.Prelude.{ℕ, Bool, true, false, not, ◌&&◌, ◌||◌, cond, List, [], ◌∷◌, eqb, None, Option, Some}
use Rattle.model_base.specs.Finite.{at, lowest, all_to, is_some, gather}
use Rattle.model_agent.specs.Message.{Assignment, known, Message, Info, Back, AddLink, Post}
use Rattle.model_agent.specs.Traffic.{counting}
use Rattle.model_agent.specs.Agent.{
  Self,
  Bans,
  Agent,
  Step,
  unused_agent,
  with_value,
  with_listens,
  with_informs,
  with_view,
  with_nogoods,
  with_counts,
  above,
  agrees,
}
use Rattle.model_agent.specs.Choosing.{bars, no_refuser, after, check_view}

-- a step that sends what it is given to send and does not choose
unfoldable pub quiet : Agent → List Post → Step
quiet a posts = record { agent = a; sent = posts; unsolvable = false }

-- the own value, told to one agent
unfoldable pub answer : Agent → ℕ → List Post
answer a to = record { to = to; message = Info a.value } ∷ []

-- ---- News

-- "reasons that disagree with it are dropped"
unfoldable pub keep_if : Bool → Assignment → Option Assignment
keep_if true lhs = Some lhs
keep_if false lhs = None

unfoldable pub agreeing : Self → Assignment → Option Assignment → Option Assignment
agreeing s view None = None
agreeing s view (Some lhs) = keep_if (agrees s view lhs) lhs

-- "The view is updated, and reasons that disagree with it are dropped."
unfoldable pub updated : Self → Agent → ℕ → ℕ → Agent
updated s a from v =
    with_nogoods (with_view a (at a.view from v)) (λ w. agreeing s (at a.view from v) (a.nogoods w))

-- the own value is banned against a known value of the view, whoever is to blame for it
unfoldable pub conflicts : Self → Bans → Assignment → ℕ → Bool
conflicts s bans view v = is_some (lowest (above s) 1 (bars bans view v))

-- "If the own slot is now banned, it chooses; otherwise that is all."
unfoldable pub on_info : Self → Bans → Agent → ℕ → ℕ → Step
on_info s bans a from v =
    elim (conflicts s bans (at a.view from v) a.value)
    [ true ↦ check_view s bans no_refuser (updated s a from v) | false ↦ quiet (updated s a from v) [] ]

-- ---- Refusal

-- a left-side agent that is listened to has that value in the view. "unknown does not match."
unfoldable pub matches : Agent → Assignment → ℕ → Bool
matches a lhs k = not (known (lhs k)) || not (a.listens k) || eqb (lhs k) (a.view k)

-- "It holds if the refused slot is the receiver's own and each scanner of the left side that the receiver listens to has that slot in its view."
unfoldable pub holds : Self → Agent → Assignment → ℕ → Bool
holds s a lhs v = eqb v a.value && all_to (above s) (matches a lhs)

-- a left-side agent not listened to
unfoldable pub unheard : Agent → Assignment → ℕ → Bool
unheard a lhs k = known (lhs k) && not (a.listens k)

unfoldable pub add_link_to : Agent → Assignment → ℕ → List Post
add_link_to a lhs k = elim (unheard a lhs k) [ true ↦ record { to = k; message = AddLink } ∷ [] | false ↦ [] ]

-- "upward, each scanner of the left side that is not listened to gets a link request"
unfoldable pub add_links : Self → Agent → Assignment → List Post
add_links s a lhs = gather (above s) 1 (add_link_to a lhs)

-- ".. is listened to and has its slot put into the view."
abbrev pub hearing : Agent → Assignment → Agent
hearing a lhs =
    with_view (with_listens a (λ k. a.listens k || known (lhs k))) (λ k. cond (unheard a lhs k) (lhs k) (a.view k))

-- "then the left side is stored as the reason, the slot is cleared"
unfoldable pub accepting : Agent → Assignment → ℕ → Agent
accepting a lhs v = with_value (with_nogoods (hearing a lhs) (at a.nogoods v (Some lhs))) 0

-- "If it does not hold: where the refused slot is the own one, news goes to the sender; otherwise nothing.", under either rule
unfoldable pub outdated : Agent → ℕ → ℕ → Step
outdated a from v = quiet a (elim (eqb v a.value) [ true ↦ answer a from | false ↦ [] ])

unfoldable pub on_back : Self → Bans → Agent → ℕ → Assignment → ℕ → Step
on_back s bans a from lhs v =
    elim (holds s a lhs v)
    [ true ↦ after (add_links s a lhs) (check_view s bans from (accepting a lhs v)) | false ↦ outdated a from v ]

-- ---- Link request: "The sender is informed from now on, and gets news.", under either rule

unfoldable pub informing : Agent → ℕ → Agent
informing a from = with_informs a (at a.informs from true)

unfoldable pub on_add_link : Agent → ℕ → Step
on_add_link a from = quiet (informing a from) (answer a from)

-- ---- a message, of whatever kind

unfoldable pub react : Self → Bans → Agent → ℕ → Message → Step
react s bans a from (Info v) = on_info s bans a from v
react s bans a from (Back lhs v) = on_back s bans a from lhs v
react s bans a from AddLink = on_add_link a from

-- ---- Counting: the step of agent a, with what it was handed and what it sends counted. No other rule reads or changes a count.

unfoldable pub counted : Agent → List Message → Step → Step
counted a got t =
    record { agent = with_counts t.agent (counting a.counts got t.sent); sent = t.sent; unsolvable = t.unsolvable }

unfoldable pub receive : Self → Bans → Agent → ℕ → Message → Step
receive s bans a from m = counted a (m ∷ []) (react s bans a from m)

-- ---- Start: "All views are unknown, and each scanner chooses." Its news counts. Nobody has taken a slot yet, so under either rule all that are
-- informed get it.

unfoldable pub fresh : (ℕ → Bool) → (ℕ → Bool) → Agent
fresh listens informs = with_informs (with_listens unused_agent listens) informs

unfoldable pub begin : Self → Bans → (ℕ → Bool) → (ℕ → Bool) → Step
begin s bans listens informs = counted (fresh listens informs) [] (check_view s bans no_refuser (fresh listens informs))
