-- The claims. Each is proved elsewhere against the type that stands here.
use Rattle.std.specs.Prelude.{ℕ, ◌+◌, ◌≤◌, ◌≡◌, true, false, List, [], map}
use Rattle.model_base.specs.Lists.{All}
use Rattle.model_sheet.specs.Problem.{Problem, Obeys}
use Rattle.model_agent.specs.Sorts.{IsAddLink, Not, OneLink}
use Rattle.model_agent.specs.Traffic.{Sort, number, raised}
use Rattle.model_network.specs.Network.{start}
use Rattle.model_network.specs.Shape.{in_shape}
use Rattle.model_network.specs.Run.{Line, idle, run}
use Rattle.theorems_network.specs.Calls.{
  tries_of,
  left_by_all,
  tried_by_all,
  made_by_all,
  Stretch,
  lines_of,
  marked_in,
  AllFull,
  ExactlyFull,
  round_stretch,
}
use Rattle.theorems_network.specs.Marking.{parts_of_all, stretch_of, AllMarkedRightly}
use Rattle.theorems_network.specs.Deeds.{handed_in, posts_in}
use Rattle.theorems_network.specs.Figures.{BelowTop, total_of, total_sent, total_received, waiting_of, total_waiting}
use Rattle.theorems_network.specs.Claims.{most_rounds, slots_of, Tells, StandsFor}
use Rattle.theorems_isolation.specs.Tenants.{Alike}
use Rattle.model_image.specs.Plain.{Plain}
use Rattle.model_dispatch.specs.Dispatch.{Dispatcher}
use Rattle.theorems_dispatch.specs.Steps.{left_by_steps, calls_in}
use Rattle.theorems_dispatch.specs.Claims.{above}
use Rattle.theorems_lists.specs.Items.{
  Item,
  left_by_items,
  calls_in_items,
  read_by_items,
  tried_by_items,
  made_by_items,
  parts_of_items,
  handed_by_items,
  posts_by_items,
  sent_from_items,
  received_by_items,
  steps_in,
}

-- ---- a mixed list is the calls that it comes to

-- What a mixed list leaves, tries, makes, hands over and sends is what the calls that it comes to do; every read answers 0; and without its writes
-- and reads the list comes to the same calls, and leaves the same network, count and place.
pub record Comes (items : List Item) (d : Dispatcher) : Type 0 where
  pub leaves : (left_by_items items d).network ≡ left_by_all (calls_in_items items d) d.network
  pub tries : tried_by_items items d ≡ tried_by_all (calls_in_items items d) d.network
  pub makes : made_by_items items d ≡ made_by_all (calls_in_items items d) d.network
  pub parts : parts_of_items items d ≡ parts_of_all (calls_in_items items d) d.network
  pub hands : (j : ℕ) → handed_by_items j items d ≡ handed_in j (calls_in_items items d) d.network
  pub sends : (j : ℕ) → posts_by_items j items d ≡ posts_in j (calls_in_items items d) d.network
  pub reads : All (λ number. number ≡ 0) (read_by_items items d)
  pub calls : calls_in_items items d ≡ calls_in (steps_in items) d
  pub state : left_by_items items d ≡ left_by_steps (steps_in items) d

-- from every plain network in shape, forged ones too, whatever the dispatcher's count and place
abbrev pub ComesToCallsAnywhere : Type 0
ComesToCallsAnywhere = (d : Dispatcher) → Plain d.network → in_shape d.network ≡ true → (items : List Item) → Comes items d

-- of every mixed list from the start, whatever the dispatcher's count and place at first
abbrev pub FromStart : ℕ → Problem → (List Item → Dispatcher → Type 0) → Type 0
FromStart rule p C = (picks : ℕ) (place : Line) (items : List Item) → C items (above (start rule p) picks place)

abbrev pub ComesToCalls : ℕ → Problem → Type 0
ComesToCalls rule p = FromStart rule p Comes

-- ---- so what is claimed of lists of calls is claimed of mixed lists

-- A network reached from the start with nothing waiting and no verdict breaks no ban.
abbrev pub SoundMixed : ℕ → Problem → Type 0
SoundMixed rule p =
    FromStart rule p (λ items d.
    (left_by_items items d).network.unsolvable ≡ false → idle (left_by_items items d).network ≡ true
    → Obeys p (λ i. ((left_by_items items d).network.agents i).value))

-- The verdict comes only where no choice of values obeys all bans.
abbrev pub CompleteMixed : ℕ → Problem → Type 0
CompleteMixed rule p =
    FromStart rule p (λ items d. (left_by_items items d).network.unsolvable ≡ true → (σ : ℕ → ℕ) → Obeys p σ → ⊥)

-- Every network reached is in shape and holds nothing outside its arrays.
abbrev pub ReachedMixed : ℕ → Problem → Type 0
ReachedMixed rule p =
    FromStart rule p (λ items d. Plain (left_by_items items d).network × (in_shape (left_by_items items d).network ≡ true))

-- However full rounds are marked off in what the list tries, they are at most 16 × n × (d + 2)^n;
abbrev pub RoundBoundMixed : ℕ → Problem → Type 0
RoundBoundMixed rule p =
    FromStart rule p (λ items d.
    (marking : List Stretch) → lines_of marking ≡ tried_by_items items d → AllFull rule p [] marking → marked_in marking ≤ most_rounds p)

-- .. so are those that its runs return together.
abbrev pub RunBoundMixed : ℕ → Problem → Type 0
RunBoundMixed rule p = FromStart rule p (λ items d. made_by_items items d ≤ most_rounds p)

-- What any mixed list leaves tells by itself: at rest its slots obey all bans, and under a verdict no choice of slots does.
abbrev pub StandsMixed : ℕ → Problem → Type 0
StandsMixed rule p = FromStart rule p (λ items d. StandsFor p (left_by_items items d).network)

-- What the word, the full rounds and the slots of a run tell, behind any mixed list.
abbrev pub RunTellsMixed : ℕ → Problem → Type 0
RunTellsMixed rule p =
    FromStart rule p (λ items d.
    (k : ℕ)
    → Tells p (made_by_items items d) (run k (left_by_items items d).network).ending (run k (left_by_items items d).network).made
    (slots_of (run k (left_by_items items d).network).network))

-- A run after any mixed list counts a round exactly if it is full at its place, and returns how many it counts.
pub record RunCountsMixed (rule : ℕ) (p : Problem) (items : List Item) (d : Dispatcher) (k : ℕ) : Type 0 where
  pub cuts : lines_of (map round_stretch (run k (left_by_items items d).network).rounds) ≡ tries_of (run k (left_by_items items d).network).rounds
  pub exact : ExactlyFull rule p (tried_by_items items d) (map round_stretch (run k (left_by_items items d).network).rounds)
  pub returned : (run k (left_by_items items d).network).made ≡ marked_in (map round_stretch (run k (left_by_items items d).network).rounds)

abbrev pub RunsCountMixed : ℕ → Problem → Type 0
RunsCountMixed rule p = FromStart rule p (λ items d. (k : ℕ) → RunCountsMixed rule p items d k)

-- The runs' own rounds, with each other delivery as a gap, mark off all that the list tries. Every marked one is full, of the runs' rounds exactly
-- the full ones are marked, and they are as many as the runs return together.
pub record RunsMarkedMixed (rule : ℕ) (p : Problem) (items : List Item) (d : Dispatcher) : Type 0 where
  pub lines : lines_of (map stretch_of (parts_of_items items d)) ≡ tried_by_items items d
  pub full : AllFull rule p [] (map stretch_of (parts_of_items items d))
  pub exact : AllMarkedRightly rule p [] (parts_of_items items d)
  pub number : marked_in (map stretch_of (parts_of_items items d)) ≡ made_by_items items d

abbrev pub RunsMarkMixed : ℕ → Problem → Type 0
RunsMarkMixed rule p = FromStart rule p (RunsMarkedMixed rule p)

-- While no count has reached the top, each equals the number of messages of its sort that were sent from that agent, or handed to it.
abbrev pub CountsExactMixed : ℕ → Problem → Type 0
CountsExactMixed rule p =
    FromStart rule p (λ items d.
    BelowTop p (left_by_items items d).network → (i : ℕ) → 1 ≤ i → i ≤ p.count → (x : Sort)
    → (((left_by_items items d).network.agents i).counts.sent x ≡ number x (sent_from_items rule p items d i))
    × (((left_by_items items d).network.agents i).counts.received x ≡ number x (received_by_items items d i)))

-- .. and whatever the others are, a count is that number, or the top where the number is above it.
abbrev pub CountsCappedMixed : ℕ → Problem → Type 0
CountsCappedMixed rule p =
    FromStart rule p (λ items d.
    (i : ℕ) (x : Sort)
    → (((left_by_items items d).network.agents i).counts.sent x ≡ raised 0 (number x (sent_from_items rule p items d i)))
    × (((left_by_items items d).network.agents i).counts.received x ≡ raised 0 (number x (received_by_items items d i))))

-- While no count has reached the top, the total sent is the total received plus what waits on all lines,
abbrev pub SentIsReceivedAndWaitingMixed : ℕ → Problem → Type 0
SentIsReceivedAndWaitingMixed rule p =
    FromStart rule p (λ items d.
    BelowTop p (left_by_items items d).network
    → total_sent p (left_by_items items d).network
    ≡ total_received p (left_by_items items d).network + total_waiting p (left_by_items items d).network)

-- .. and so in each sort by itself.
abbrev pub SentIsReceivedAndWaitingOfMixed : ℕ → Problem → Type 0
SentIsReceivedAndWaitingOfMixed rule p =
    FromStart rule p (λ items d.
    BelowTop p (left_by_items items d).network → (x : Sort)
    → total_of p (left_by_items items d).network (λ c. c.sent x)
    ≡ total_of p (left_by_items items d).network (λ c. c.received x) + waiting_of p (left_by_items items d).network x)

-- A link is asked for once: no request waits from an agent already informed, nor do two requests wait on one channel.
abbrev pub AskedOnceMixed : ℕ → Problem → Type 0
AskedOnceMixed rule p =
    FromStart rule p (λ items d.
    (x y : ℕ)
    → OneLink ((left_by_items items d).network.channel y x)
    × (((left_by_items items d).network.agents x).informs y ≡ true → All (Not IsAddLink) ((left_by_items items d).network.channel y x)))

-- ---- of every plain network in shape, forged ones too, whatever the dispatcher's count and place

-- It stays plain and in shape.
abbrev pub StaysMixed : Type 0
StaysMixed =
    (d : Dispatcher) → Plain d.network → in_shape d.network ≡ true → (items : List Item)
    → Plain (left_by_items items d).network × (in_shape (left_by_items items d).network ≡ true)

-- A count never falls.
abbrev pub CountsNeverFallMixed : Type 0
CountsNeverFallMixed =
    (d : Dispatcher) → Plain d.network → in_shape d.network ≡ true → (items : List Item) (i : ℕ) (x : Sort)
    → ((d.network.agents i).counts.sent x ≤ ((left_by_items items d).network.agents i).counts.sent x)
    × ((d.network.agents i).counts.received x ≤ ((left_by_items items d).network.agents i).counts.received x)

-- The rule stays.
abbrev pub RuleKeptMixed : Type 0
RuleKeptMixed =
    (d : Dispatcher) → Plain d.network → in_shape d.network ≡ true → (items : List Item)
    → (left_by_items items d).network.rule ≡ d.network.rule

-- ---- two networks alike in one agent

-- "it ends with the same record on both and has sent the same, in the same order"
pub record SameDeedsMixed (j : ℕ) (d e : Dispatcher) (items others : List Item) : Type 0 where
  pub agent : (left_by_items items d).network.agents j ≡ (left_by_items others e).network.agents j
  pub sent : posts_by_items j items d ≡ posts_by_items j others e

-- Two plain networks in shape that are alike in agent j, and a mixed list on each. Where both lists hand j the same messages, from the same senders in
-- the same order, j ends with the same record and has sent the same. For both readings of the bans that must be alike.
abbrev pub ActsAlikeMixed : (ℕ → ℕ → ℕ → Type 0) → Type 0
ActsAlikeMixed Names =
    (j : ℕ) (d e : Dispatcher) → Plain d.network → in_shape d.network ≡ true → Plain e.network → in_shape e.network ≡ true
    → Alike Names j d.network e.network → (items others : List Item) → handed_by_items j items d ≡ handed_by_items j others e
    → SameDeedsMixed j d e items others
