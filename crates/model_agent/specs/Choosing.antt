-- The rules 'Choosing' and 'Backing up' of docs/RULES.md (figure 1: ChooseValue, CheckAgentView lines 2-4, Backtrack).
use Rattle.std.specs.Prelude.{ℕ, zero, suc, ◌-◌, Bool, true, false, not, ◌&&◌, ◌||◌, cond, List, [], ◌∷◌, ◌++◌, eqb, None, Option, Some}
use Rattle.model_base.specs.Finite.{at, lowest, highest, gather, is_some}
use Rattle.model_sheet.specs.Problem.{max_agents}
use Rattle.model_agent.specs.Message.{Assignment, known, nobody, Info, Back, Post}
use Rattle.model_agent.specs.Agent.{Self, Bans, Nogoods, Agent, Step, with_value, with_last, with_view, with_nogoods, above}

-- ---- whom to blame

-- agent k has a known value in the view that bans the own value v. "A scanner that is unknown bans nothing."
unfoldable pub bars : Bans → Assignment → ℕ → ℕ → Bool
bars bans view v k = known (view k) && bans k (view k) v

-- the left side of a stored reason; where none is stored, nobody is named
unfoldable pub lhs_of : Option Assignment → Assignment
lhs_of None = nobody
lhs_of (Some lhs) = lhs

-- some stored reason, of whichever own value, names agent k
abbrev pub named : Self → Nogoods → ℕ → Bool
named s nogoods k = is_some (lowest s.domain 1 (λ v. known (lhs_of (nogoods v) k)))

-- "the lowest-numbered one that some stored reason names already, and only if there is none the lowest-numbered of all"
unfoldable pub blame : Self → Bans → Assignment → Nogoods → ℕ → Option ℕ
blame s bans view nogoods v =
    elim (lowest (above s) 1 (λ k. bars bans view v k && named s nogoods k)) [
      | Some k ↦ Some k
      | None ↦ lowest (above s) 1 (bars bans view v)
    ]

-- "that scanner has that slot": the left side that names agent k alone, at value v
unfoldable pub only : ℕ → ℕ → Assignment
only k v j = at nobody k v j

unfoldable pub blaming : Assignment → Option ℕ → Option Assignment
blaming view None = None
blaming view (Some k) = Some (only k (view k))

-- the reason of own value v once it is tried: the stored one ("A slot with a stored reason is skipped"), else the ban that bars it, else
-- none, and the value is free
unfoldable pub reason_of : Option Assignment → Option Assignment → Option Assignment
reason_of None barred = barred
reason_of (Some lhs) barred = Some lhs

unfoldable pub reason : Self → Bans → Assignment → Nogoods → ℕ → Option Assignment
reason s bans view nogoods v = reason_of (nogoods v) (blaming view (blame s bans view nogoods v))

-- ---- choosing

pub record Choice : Type 0 where
  pub value : Option ℕ  -- the value taken, if one is free
  pub nogoods : Nogoods  -- the reasons, with those given on the way

-- "goes through its own slots upward": m of them from v on. "The lowest slot that is still free is taken; those above it are not tried and get no reason."
unfoldable pub choose : ℕ → ℕ → Self → Bans → Assignment → Nogoods → Choice
choose zero v s bans view nogoods = record { value = None; nogoods = nogoods }
choose (suc m) v s bans view nogoods =
    elim (reason s bans view nogoods v) [
      | None ↦ record { value = Some v; nogoods = nogoods }
      | Some lhs ↦ choose m (suc v) s bans view (at nogoods v (Some lhs))
    ]

unfoldable pub choice : Self → Bans → Agent → Choice
choice s bans a = choose s.domain 1 s bans a.view a.nogoods

-- the number of the quiet rule
unfoldable pub quiet_rule : ℕ
quiet_rule = 2

-- where no refusal is being worked
unfoldable pub no_refuser : ℕ
no_refuser = 0

-- whether agent k gets the news of value v. Rule 1: "News of it goes to all that it informs, even if the slot is the old one." Rule 2: "a scanner
-- whose new slot is the last that it took keeps silent"; "The scanner whose refusal is being worked has forgotten the slot and gets the news in
-- any case, once."
unfoldable pub tells : Self → Agent → ℕ → ℕ → ℕ → Bool
tells s a refuser v k =
    cond (eqb s.rule quiet_rule) ((a.informs k && not (eqb v a.last)) || eqb k refuser) (a.informs k)

unfoldable pub info_to : Self → Agent → ℕ → ℕ → ℕ → List Post
info_to s a refuser v k = elim (tells s a refuser v k) [ true ↦ record { to = k; message = Info v } ∷ [] | false ↦ [] ]

unfoldable pub infos : Self → Agent → ℕ → ℕ → List Post
infos s a refuser v = gather (max_agents - s.number) (suc s.number) (info_to s a refuser v)

-- the agent with what choosing left: its value, 0 for none, and its nogoods
unfoldable pub chosen : Agent → ℕ → Nogoods → Agent
chosen a v nogoods = with_nogoods (with_value a v) nogoods

-- the value is taken, and is the last one taken from now on
unfoldable pub took : Self → ℕ → Agent → ℕ → Nogoods → Step
took s refuser a v nogoods = record { agent = with_last (chosen a v nogoods) v; sent = infos s a refuser v; unsolvable = false }

-- ---- backing up

-- both sides' agents
unfoldable pub join : Assignment → Assignment → Assignment
join l r k = cond (known (l k)) (l k) (r k)

-- "all left sides are joined": of values 1 to m
unfoldable pub union : ℕ → Nogoods → Assignment
union zero nogoods = nobody
union (suc m) nogoods = join (union m nogoods) (lhs_of (nogoods (suc m)))

-- "If the join is empty, the verdict is "none": the scanner is left without a slot, and its reasons .. remain". The last slot it took stays.
unfoldable pub failed : Agent → Nogoods → Step
failed a nogoods = record { agent = chosen a 0 nogoods; sent = []; unsolvable = true }

-- "the highest-numbered scanner in the join gets a refusal: its slot is the one refused, and the rest is the left side"
unfoldable pub refusing : ℕ → Assignment → Post
refusing k whole = record { to = k; message = Back (at whole k 0) (whole k) }

-- a reason that does not name agent k is kept
unfoldable pub drop_if : Bool → Assignment → Option Assignment
drop_if true lhs = None
drop_if false lhs = Some lhs

unfoldable pub without : ℕ → Option Assignment → Option Assignment
without k None = None
without k (Some lhs) = drop_if (known (lhs k)) lhs

-- "The sender sets that scanner to unknown, drops every reason that names it"
unfoldable pub forget : ℕ → Agent → Nogoods → Agent
forget k a nogoods = with_nogoods (with_view a (at a.view k 0)) (λ v. without k (nogoods v))

-- what is sent before the rest of the step
unfoldable pub after : List Post → Step → Step
after posts t = record { agent = t.agent; sent = posts ++ t.sent; unsolvable = t.unsolvable }

-- Choosing, with backing up. "chooses again, until a slot is taken." Each time one agent more of the view is unknown, so `times` above the
-- number of agents is never used up. The agent whose refusal is being worked stays the same throughout.
unfoldable pub settle : ℕ → Self → Bans → ℕ → Agent → Step
settle zero s bans refuser a = failed a (choice s bans a).nogoods
settle (suc times) s bans refuser a =
    elim (choice s bans a).value [
      | Some v ↦ took s refuser a v (choice s bans a).nogoods
      | None ↦ elim (highest (above s) (λ k. known (union s.domain (choice s bans a).nogoods k))) [
        | None ↦ failed a (choice s bans a).nogoods
        | Some k ↦ after (refusing k (union s.domain (choice s bans a).nogoods) ∷ [])
            (settle times s bans refuser (forget k a (choice s bans a).nogoods))
      ]
    ]

unfoldable pub check_view : Self → Bans → ℕ → Agent → Step
check_view s bans refuser a = settle s.number s bans refuser a
