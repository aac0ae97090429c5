-- An agent (scanner): what it is by the problem, what it holds, and what a step of it gives. docs/RULES.md, 'The rail'.
use Rattle.std.specs.Prelude.{ℕ, pred, Bool, false, not, ◌||◌, List, eqb, None, Option}
use Rattle.model_base.specs.Finite.{all_to}
use Rattle.model_agent.specs.Message.{Assignment, known, nobody, Post}
use Rattle.model_agent.specs.Traffic.{Traffic, no_counts}

-- an agent's number and its domain (slot count), all of the problem that it has beside the bans that name it; and the network's rule
pub record Self : Type 0 where
  pub number : ℕ
  pub domain : ℕ
  pub rule : ℕ

-- the bans that name an agent, with the agents above it: agent k at value v bans the own value w
abbrev pub Bans : Type 0
Bans = ℕ → ℕ → ℕ → Bool

-- "for each own slot at most one stored reason, which is the left side of a refusal"
abbrev pub Nogoods : Type 0
Nogoods = ℕ → Option Assignment

pub record Agent : Type 0 where
  pub value : ℕ  -- "its slot", 0 where it has none
  pub last : ℕ  -- "the last slot that it took, under either rule", 0 before the start
  pub listens : ℕ → Bool  -- "the scanners above it that it listens to"
  pub informs : ℕ → Bool  -- "those below it that it informs"
  pub view : Assignment  -- "a slot or unknown for each it listens to"
  pub nogoods : Nogoods
  pub counts : Traffic  -- "the messages that it sent and those that it received, of each of the three sorts"

-- "handed back changed, with what it sends"
pub record Step : Type 0 where
  pub agent : Agent
  pub sent : List Post  -- in the order of sending
  pub unsolvable : Bool  -- the verdict "none" fell

unfoldable pub no_nogoods : Nogoods
no_nogoods v = None

-- an agent beyond n
unfoldable pub unused_agent : Agent
unused_agent =
    record { value = 0; last = 0; listens = λ k. false; informs = λ k. false; view = nobody; nogoods = no_nogoods; counts = no_counts }

-- ---- a record with one part changed. The rules change records by these alone.

abbrev pub with_value : Agent → ℕ → Agent
with_value a value =
    record { value = value; last = a.last; listens = a.listens; informs = a.informs; view = a.view; nogoods = a.nogoods; counts = a.counts }

abbrev pub with_last : Agent → ℕ → Agent
with_last a last =
    record { value = a.value; last = last; listens = a.listens; informs = a.informs; view = a.view; nogoods = a.nogoods; counts = a.counts }

abbrev pub with_listens : Agent → (ℕ → Bool) → Agent
with_listens a listens =
    record { value = a.value; last = a.last; listens = listens; informs = a.informs; view = a.view; nogoods = a.nogoods; counts = a.counts }

abbrev pub with_informs : Agent → (ℕ → Bool) → Agent
with_informs a informs =
    record { value = a.value; last = a.last; listens = a.listens; informs = informs; view = a.view; nogoods = a.nogoods; counts = a.counts }

abbrev pub with_view : Agent → Assignment → Agent
with_view a view =
    record { value = a.value; last = a.last; listens = a.listens; informs = a.informs; view = view; nogoods = a.nogoods; counts = a.counts }

abbrev pub with_nogoods : Agent → Nogoods → Agent
with_nogoods a nogoods =
    record { value = a.value; last = a.last; listens = a.listens; informs = a.informs; view = a.view; nogoods = nogoods; counts = a.counts }

abbrev pub with_counts : Agent → Traffic → Agent
with_counts a counts =
    record { value = a.value; last = a.last; listens = a.listens; informs = a.informs; view = a.view; nogoods = a.nogoods; counts = counts }

-- ---- what it has of the others

-- the agents above, 1 to this number
unfoldable pub above : Self → ℕ
above s = pred s.number

-- a left side agrees with a view: each agent that it names has that value in the view
unfoldable pub agrees : Self → Assignment → Assignment → Bool
agrees s view lhs = all_to (above s) (λ k. not (known (lhs k)) || eqb (lhs k) (view k))
