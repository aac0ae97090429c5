-- The agent facts: all that the network level may use of one agent, gathered in `AgentFacts` at the end. Statements alone, and nothing of the text
-- of a rule: a change of the rules proves `AgentFacts` again, and nothing above it moves.
use Rattle.std.specs.Prelude.{◌≡◌, ◌≢◌, ◌⊎◌, List, [], ◌∷◌, Bool, true, false, not, ◌&&◌, cond, ℕ, ◌≤◌, ◌<◌, length, None, Some}
use Rattle.model_base.specs.Finite.{at, within, is_some}
use Rattle.model_base.specs.Lists.{All, Any}
use Rattle.model_sheet.specs.Problem.{max_agents, max_domain}
use Rattle.model_agent.specs.Message.{Assignment, known, Message, Info, Back, AddLink, sent_to}
use Rattle.model_agent.specs.Traffic.{Sort, Traffic, no_counts, number, messages_in, raised}
use Rattle.model_agent.specs.Agent.{Self, Bans, Agent, Step}
use Rattle.model_agent.specs.Shape.{max_named, EachNamed, EachIn, RecordFits, MessageFits}
use Rattle.model_agent.specs.Plain.{PlainAgent, PlainMessage}
use Rattle.model_agent.specs.Sorts.{IsInfo, IsBack, IsAddLink, Not, Refuses, OneLink, seen}

-- ---- links: of every step, whatever the record and the message

-- whom a message makes listened to
abbrev pub Names : Message → ℕ → Type 0
Names (Info v) x = ⊥
Names (Back lhs v) x = known (lhs x) ≡ true
Names AddLink x = ⊥

-- y sent a link request
abbrev pub Asks : ℕ → Message → ℕ → Type 0
Asks from m y = (y ≡ from) × IsAddLink m

-- y sent a Back or a link request
abbrev pub Answered : ℕ → Message → ℕ → Type 0
Answered from m y = (y ≡ from) × Not IsInfo m

-- a link request goes to an agent newly listened to
abbrev pub Requests : Agent → Step → ℕ → Message → Type 0
Requests a t y (Info v) = Unit {0}
Requests a t y (Back lhs v) = Unit {0}
Requests a t y AddLink = (t.agent.listens y ≡ true) × (a.listens y ≡ false)

pub record Linking (a : Agent) (from : ℕ) (m : Message) (t : Step) : Type 0 where
  pub keeps : (x : ℕ) → a.listens x ≡ true → t.agent.listens x ≡ true
  pub hears : (x : ℕ) → t.agent.listens x ≡ true → (a.listens x ≡ true) ⊎ Names m x
  pub informs : (y : ℕ) → a.informs y ≡ true → t.agent.informs y ≡ true
  pub joins : IsAddLink m → t.agent.informs from ≡ true
  pub joined : (y : ℕ) → t.agent.informs y ≡ true → (a.informs y ≡ true) ⊎ Asks from m y
  pub requests : (y : ℕ) → All (Requests a t y) (sent_to y t.sent)
  pub once : (y : ℕ) → OneLink (sent_to y t.sent)

-- ---- figures: of every step. The messages handed over and the posts sent are counted, and nothing else.

pub record Counted (before : Traffic) (got : List Message) (t : Step) : Type 0 where
  pub sent : (x : Sort) → t.agent.counts.sent x ≡ raised (before.sent x) (number x (messages_in t.sent))
  pub received : (x : Sort) → t.agent.counts.received x ≡ raised (before.received x) (number x got)

-- ---- the shape: of every record and message that fit, forged ones too. `owns k v`: agent k owns value v

-- a record fits, but for its value
pub record RestFits (owns : ℕ → ℕ → Bool) (s : Self) (a : Agent) : Type 0 where
  pub upward : EachIn a.listens (λ k. k < s.number)
  pub downward : EachIn a.informs (λ k. (s.number < k) × (k ≤ max_agents))
  pub viewed : EachNamed a.view (λ k v. (a.listens k ≡ true) × (owns k v ≡ true))
  pub agreed : (v : ℕ) (lhs : Assignment) → 1 ≤ v → v ≤ max_domain → a.nogoods v ≡ Some lhs
      → (v ≤ s.domain) × EachNamed lhs (λ k u. u ≡ a.view k)

-- an owned value, or none where the verdict fell
abbrev pub Valued : Self → Step → Type 0
Valued s t = ((t.unsolvable ≡ false) × (within s.domain t.agent.value ≡ true)) ⊎ ((t.unsolvable ≡ true) × (t.agent.value ≡ 0))

-- a message to agent y: `listens` are the agents listened to afterwards, `told` those that may be told the own value
abbrev pub PostFits : (ℕ → ℕ → Bool) → Self → (ℕ → Bool) → (ℕ → Type 0) → ℕ → Message → Type 0
PostFits owns s listens told y (Info v) = (s.number < y) × (y ≤ max_agents) × told y × (within s.domain v ≡ true)
PostFits owns s listens told y (Back lhs v) =
    (1 ≤ y) × (y < s.number) × (listens y ≡ true) × (owns y v ≡ true) × EachNamed lhs (λ k u. (k < y) × (owns k u ≡ true))
PostFits owns s listens told y AddLink = (1 ≤ y) × (y < s.number) × (listens y ≡ true)

pub record StepFits (owns : ℕ → ℕ → Bool) (s : Self) (a : Agent) (from : ℕ) (m : Message) (t : Step) : Type 0 where
  pub rest : RestFits owns s t.agent
  pub valued : Valued s t
  pub posts : (y : ℕ)
      → All (PostFits owns s t.agent.listens (λ y. (a.informs y ≡ true) ⊎ Answered from m y) y) (sent_to y t.sent)
  pub twice : (y : ℕ) → length (sent_to y t.sent) ≤ 2
  -- the last value taken is an owned one, and the one held if any is held
  pub lasting : (within s.domain t.agent.last ≡ true) × (known t.agent.value ≡ true → t.agent.last ≡ t.agent.value)

-- ---- plainness: what is left and what is sent hold nothing outside their arrays

pub record PlainStep (t : Step) : Type 0 where
  pub agent : PlainAgent t.agent
  pub sent : (y : ℕ) → All PlainMessage (sent_to y t.sent)

-- ---- assignments. `S` says which assignments count: at the network level, those that obey all bans.

-- an assignment that gives the agent an owned value and breaks none of its bans
pub record Respects (s : Self) (bans : Bans) (σ : Assignment) : Type 0 where
  pub owned : within s.domain (σ s.number) ≡ true
  pub obeys : (k : ℕ) → bans k (σ k) (σ s.number) ≡ false

abbrev pub Extends : Assignment → Assignment → Type 0
Extends lhs σ = (k : ℕ) → known (lhs k) ≡ true → σ k ≡ lhs k

-- a nogood, or a Back, is implied: no assignment that counts extends its left side and has the refused value
abbrev pub Excludes : (Assignment → Type 0) → ℕ → ℕ → Assignment → Type 0
Excludes S y v lhs = (σ : Assignment) → S σ → Extends lhs σ → σ y ≡ v → ⊥

-- what the agent may count on from the problem
pub record Setting (S : Assignment → Type 0) (s : Self) (bans : Bans) : Type 0 where
  pub low : 1 ≤ s.number
  pub high : s.number ≤ max_agents
  pub upward : (k v w : ℕ) → bans k v w ≡ true → (1 ≤ k) × (k < s.number)
  pub respects : (σ : Assignment) → S σ → Respects s bans σ

-- ---- good records

-- an agent at this value is banned against that agent's known value in a view
abbrev pub Barred : Bans → Assignment → ℕ → ℕ → Type 0
Barred bans view v k = (known (view k) ≡ true) × (bans k (view k) v ≡ true)

pub record Good (S : Assignment → Type 0) (s : Self) (bans : Bans) (a : Agent) : Type 0 where
  pub low : 1 ≤ a.value
  pub high : a.value ≤ s.domain
  pub kept : a.last ≡ a.value
  pub free : (k : ℕ) → Barred bans a.view a.value k → ⊥
  pub fresh : a.nogoods a.value ≡ None
  pub agree : (v : ℕ) (lhs : Assignment) → a.nogoods v ≡ Some lhs → (k : ℕ) → known (lhs k) ≡ true → lhs k ≡ a.view k
  pub implied : (v : ℕ) (lhs : Assignment) → a.nogoods v ≡ Some lhs → Excludes S s.number v lhs
  pub viewed : (k : ℕ) → known (a.view k) ≡ true → a.listens k ≡ true
  pub upward : (k : ℕ) → a.listens k ≡ true → (1 ≤ k) × (k < s.number)

-- what the receiver of a message may count on
abbrev pub Handed : (Assignment → Type 0) → Self → Agent → ℕ → Message → Type 0
Handed S s a from (Info v) = a.listens from ≡ true
Handed S s a from (Back lhs v) = Excludes S s.number v lhs × ((k : ℕ) → known (lhs k) ≡ true → (1 ≤ k) × (k < s.number))
Handed S s a from AddLink = Unit {0}

-- ---- the view right after the message's own update

-- where the agent does not choose
abbrev pub quiet_view : Agent → ℕ → Message → Assignment
quiet_view a from (Info v) x = at a.view from v x
quiet_view a from (Back lhs v) x = a.view x
quiet_view a from AddLink x = a.view x

-- where it chooses
abbrev pub busy_view : Agent → ℕ → Message → Assignment
busy_view a from (Info v) x = at a.view from v x
busy_view a from (Back lhs v) x = cond (known (lhs x) && not (a.listens x)) (lhs x) (a.view x)
busy_view a from AddLink x = a.view x

-- ---- the agent does not choose

-- an answer: the own value, to the sender of a Back or of a link request
abbrev pub TellsSender : Agent → ℕ → Message → ℕ → Message → Type 0
TellsSender a from m y (Info v) = (v ≡ a.value) × Answered from m y
TellsSender a from m y (Back lhs v) = ⊥
TellsSender a from m y AddLink = ⊥

pub record Quiet (a : Agent) (from : ℕ) (m : Message) (t : Step) : Type 0 where
  pub value : t.agent.value ≡ a.value
  pub listens : t.agent.listens ≡ a.listens
  pub view : (x : ℕ) → t.agent.view x ≡ quiet_view a from m x
  pub nogoods : ((x : ℕ) → t.agent.view x ≡ a.view x) → (v : ℕ) → is_some (a.nogoods v) ≡ true → is_some (t.agent.nogoods v) ≡ true
  pub sent : (y : ℕ) → All (TellsSender a from m y) (sent_to y t.sent)
  pub answers : IsAddLink m ⊎ Refuses a.value m → sent_to from t.sent ≢ []

-- ---- the agent chooses

abbrev pub Why : Bans → Agent → ℕ → Message → Type 0
Why bans a from (Info v) = (k : ℕ) × Barred bans (at a.view from v) a.value k
Why bans a from (Back lhs v) = v ≡ a.value
Why bans a from AddLink = ⊥

-- a Back to y with this left side and refused value, from a view
pub record Backs (S : Assignment → Type 0) (view : Assignment) (y : ℕ) (lhs : Assignment) (v : ℕ) : Type 0 where
  pub of-view : v ≡ view y
  pub real : known v ≡ true
  pub inside : (x : ℕ) → (lhs x ≡ 0) ⊎ (lhs x ≡ view x)
  pub below : (x : ℕ) → known (lhs x) ≡ true → x < y
  pub implied : Excludes S y v lhs

-- news goes to the informed, or to the sender of the Back that is worked
abbrev pub Sends : (Assignment → Type 0) → Agent → ℕ → Message → Step → ℕ → Message → Type 0
Sends S a from m t y (Info v) = (a.informs y ≡ true) ⊎ ((y ≡ from) × IsBack m)
Sends S a from m t y (Back lhs v) = (t.agent.listens y ≡ true) × Backs S (busy_view a from m) y lhs v
Sends S a from m t y AddLink = Unit {0}

-- told the new value; or, where the value is as it was and the message is another's, told nothing
abbrev pub Informed : Agent → ℕ → Step → ℕ → Type 0
Informed a from t y =
    ((v : ℕ) → seen v (sent_to y t.sent) ≡ t.agent.value)
    ⊎ ((t.agent.value ≡ a.value) × ((v : ℕ) → seen v (sent_to y t.sent) ≡ v) × (y ≢ from))

pub record Busy (S : Assignment → Type 0) (s : Self) (bans : Bans) (a : Agent) (from : ℕ) (m : Message) (t : Step) : Type 0 where
  pub why : Why bans a from m
  pub view : (x : ℕ)
      → (t.agent.view x ≡ busy_view a from m x)
      ⊎ ((t.agent.view x ≡ 0) × Any (Refuses (busy_view a from m x)) (sent_to x t.sent))
  pub asks : (x : ℕ) → a.listens x ≡ false → t.agent.listens x ≡ true → Any IsAddLink (sent_to x t.sent)
  pub sent : (y : ℕ) → All (Sends S a from m t y) (sent_to y t.sent)
  pub tells : (y : ℕ) → s.number < y → y ≤ max_agents → a.informs y ≡ true → Informed a from t y
  -- a Back accepted with no Back sent adds a nogood and takes none away
  pub grows : IsBack m → ((y : ℕ) → All (Not IsBack) (sent_to y t.sent))
      → ((v : ℕ) → is_some (a.nogoods v) ≡ true → is_some (t.agent.nogoods v) ≡ true) × (is_some (t.agent.nogoods a.value) ≡ true)

-- ---- a step with no verdict

pub record Facts (S : Assignment → Type 0) (s : Self) (bans : Bans) (a : Agent) (from : ℕ) (m : Message) (t : Step) : Type 0 where
  pub good : Good S s bans t.agent
  pub chooses : Bool  -- the agent chooses
  pub quiet : chooses ≡ false → Quiet a from m t
  pub busy : chooses ≡ true → Busy S s bans a from m t
  -- a Back that refuses the own value, with nothing in the view against it
  pub must : (lhs : Assignment) (v : ℕ) → m ≡ Back lhs v → v ≡ a.value
      → ((x : ℕ) → known (lhs x) ≡ true → a.listens x ≡ true → lhs x ≡ a.view x) → chooses ≡ true

-- ---- the first step

pub record Begun (s : Self) (listens informs : ℕ → Bool) (t : Step) : Type 0 where
  pub running : t.unsolvable ≡ false
  pub owned : within s.domain t.agent.value ≡ true
  pub kept : t.agent.last ≡ t.agent.value
  pub listened : t.agent.listens ≡ listens
  pub informed : t.agent.informs ≡ informs
  pub view : (x : ℕ) → t.agent.view x ≡ 0
  pub nogoods : (v : ℕ) → t.agent.nogoods v ≡ None
  pub tells : (y : ℕ) → s.number < y → y ≤ max_agents → informs y ≡ true → sent_to y t.sent ≡ Info t.agent.value ∷ []
  pub silent : (y : ℕ) → informs y ≡ false → sent_to y t.sent ≡ []

-- ---- all of it, of an agent that takes messages by `receive` and starts by `begin`

pub record AgentFacts (receive : Self → Bans → Agent → ℕ → Message → Step) (begin : Self → Bans → (ℕ → Bool) → (ℕ → Bool) → Step)
    : Type 1 where
  -- of every step
  pub links : (s : Self) (bans : Bans) (a : Agent) (from : ℕ) (m : Message) → Linking a from m (receive s bans a from m)
  pub counts : (s : Self) (bans : Bans) (a : Agent) (from : ℕ) (m : Message) → Counted a.counts (m ∷ []) (receive s bans a from m)
  -- of a record and a message in shape
  pub fits : (owns : ℕ → ℕ → Bool) (s : Self) (bans : Bans) (a : Agent) (from : ℕ) (m : Message)
      → s.number ≤ max_agents → s.domain ≤ max_domain → RecordFits owns s a → MessageFits owns s a from m
      → StepFits owns s a from m (receive s bans a from m)
  -- of a plain record that holds a value, and a plain message from an agent that a record can name
  pub plain : (s : Self) (bans : Bans) (a : Agent) (from : ℕ) (m : Message)
      → within max_named from ≡ true → s.domain ≤ max_domain → within max_domain a.value ≡ true → PlainAgent a → PlainMessage m
      → PlainStep (receive s bans a from m)
  -- of a good record and an implied message: with no verdict, and with one
  pub runs : (S : Assignment → Type 0) (s : Self) (bans : Bans) (a : Agent) (from : ℕ) (m : Message)
      → Setting S s bans → Handed S s a from m → Good S s bans a
      → (receive s bans a from m).unsolvable ≡ false → Facts S s bans a from m (receive s bans a from m)
  pub ends : (S : Assignment → Type 0) (s : Self) (bans : Bans) (a : Agent) (from : ℕ) (m : Message)
      → Setting S s bans → Handed S s a from m → Good S s bans a
      → (receive s bans a from m).unsolvable ≡ true → (σ : Assignment) → S σ → ⊥
  -- of the start
  pub begins : (s : Self) (bans : Bans) (listens informs : ℕ → Bool) → 1 ≤ s.number → 1 ≤ s.domain
      → Begun s listens informs (begin s bans listens informs)
  pub starts : (s : Self) (bans : Bans) (listens informs : ℕ → Bool) → Counted no_counts [] (begin s bans listens informs)
