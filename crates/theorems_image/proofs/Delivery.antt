-- A delivery keeps a network plain, forged ones too, and so does a list of calls. By the agent facts the receiver's record and what it sends are plain
-- (`PlainStep`), and what it sends goes along its lines (`StepFits`); all else stays. Only a network in shape is changed.
use Rattle.std.proofs.Common.{◌≡◌, refl, sym, ◌∙◌, ◌≢◌, ◌⊎◌, List, [], ◌∷◌, true, false, ℕ, ◌≤◌, arith}
use mathlib.Core.Bool.{false≢true}
use Rattle.model_base.specs.Finite.{within}
use Rattle.model_base.specs.Lists.{All}
use Rattle.model_base.proofs.Tests.{within-true, to-within}
use Rattle.model_base.proofs.Lists.{All-append}
use Rattle.model_sheet.specs.Problem.{max_agents, max_domain, owns}
use Rattle.model_agent.specs.Message.{Message, Info, Back, AddLink, sent_to}
use Rattle.model_agent.specs.Agent.{unused_agent}
use Rattle.model_agent.specs.Shape.{max_named}
use Rattle.model_agent.specs.Plain.{PlainAgent, PlainMessage}
use Rattle.model_agent.proofs.Assignments.{agents-named}
use Rattle.theorems_agent.specs.Facts.{Answered, PostFits, PlainStep}
use Rattle.model_network.specs.Lines.{is_channel}
use Rattle.model_network.specs.Network.{Network, self_of, bans_of, step_on, handed}
use Rattle.model_network.specs.Delivery.{rejecting, deliver}
use Rattle.model_network.specs.Run.{Line}
use Rattle.theorems_shape.proofs.Wall.{agent-facts}
use Rattle.theorems_shape.proofs.Handing.{Handing, OnAgent, mine, other, on-agent, OnChannel, hit, put, rest, on-channel, handing}
use Rattle.theorems_shape.proofs.Outcome.{Outcome, refused, accepted, outcome, numbers}
use Rattle.theorems_shape.proofs.DeliverShape.{Head, record-fits, step_fits, at_head}
use Rattle.theorems_network.specs.Calls.{tried_by_all, attempt_of, replay}
use Rattle.theorems_network.proofs.Replay.{calls-replay}
use Rattle.model_image.specs.Plain.{Plain}
use Rattle.theorems_image.specs.Claims.{StaysPlain}
use Rattle.theorems_image.proofs.Lines.{is-a-line}

none_of : {A : Type 0} (Q : A → Type 0) → ((x : A) → Q x → ⊥) → (l : List A) → All Q l → l ≡ []
none_of Q never [] h = refl
none_of Q never (x ∷ xs) h = absurd (never x h.0)

module _ (w : Network) (i j : ℕ) (m : Message) (others : List Message) (apart : i ≢ j) (H : Head w i j m others) (P : Plain w) where
  -- ---- the receiver's step

  owned : within max_domain (w.agents j).value ≡ true
  unfolding self_of
  owned =
      let own = (record-fits w j H.shape H.running H.to_low H.to_high).valued in
      let (l, h) = within-true _ (w.agents j).value own in
      to-within max_domain (w.agents j).value l (omega (arith, (H.shape.range.domained j H.to_low H.to_high).1))

  step-plain : PlainStep (step_on w i j m)
  unfolding step_on self_of
  step-plain =
      let r = H.shape.range in
      agent-facts.plain (self_of w.rule w.problem j) (bans_of w.problem j) (w.agents j) i m
      (to-within max_named i H.from_low (omega (arith, H.from-high, r.high, agents-named)))
      (r.domained j H.to_low H.to_high).1 owned (P.agents j) (rw H.head at (P.messages i j)).0

  -- between the receiver and another agent there is a line
  line : (y : ℕ) → 1 ≤ y → y ≤ max_agents → j ≢ y → is_channel j y ≡ false → ⊥
  line y lo hi = is-a-line j y H.to_low (omega (arith, H.to_high, H.shape.range.high)) lo hi

  -- nothing is sent where there is none
  sent-none : (y : ℕ) → is_channel j y ≡ false → sent_to y (step_on w i j m).sent ≡ []
  unfolding self_of
  sent-none y none = none_of _ never (sent_to y (step_on w i j m).sent) ((step_fits w i j m others H).posts y)
    where
      top : j ≤ max_agents
      top = omega (arith, H.to_high, H.shape.range.high)

      never : (n : Message)
          → PostFits (owns w.problem) (self_of w.rule w.problem j) (step_on w i j m).agent.listens
          (λ y. ((w.agents j).informs y ≡ true) ⊎ Answered i m y) y n → ⊥
      never (Info v) h = line y (omega (arith, h.0)) h.1 (λ q. omega (arith, h.0)) none
      never (Back lhs v) h = line y h.0 (omega (arith, h.1, top)) (λ q. omega (arith, h.1)) none
      never AddLink h = line y h.0 (omega (arith, h.1, top)) (λ q. omega (arith, h.1)) none

  -- ---- the network after it

  abbrev d : Line
  d = record { from = i; to = j }

  abbrev after : Network
  after = handed w i j m others

  handing-over : Handing d m (step_on w i j m) w after
  handing-over = handing d w m others apart H.head

  agent-after : (x : ℕ) → PlainAgent (after.agents x)
  agent-after x = go (on-agent handing-over x)
    where
      go : OnAgent d (step_on w i j m) w after x → PlainAgent (after.agents x)
      go (mine _ h) = rw h step-plain.agent
      go (other _ h) = rw h (P.agents x)

  others-after : (x : ℕ) → within max_agents x ≡ false → after.agents x ≡ unused_agent
  others-after x out = go (on-agent handing-over x)
    where
      go : OnAgent d (step_on w i j m) w after x → after.agents x ≡ unused_agent
      go (mine e h) =
          absurd (false≢true (sym out ∙ rw e (to-within max_agents j H.to_low (omega (arith, H.to_high, H.shape.range.high)))))
      go (other _ h) = h ∙ P.others x out

  channels-after : (x y : ℕ) → is_channel x y ≡ false → after.channel x y ≡ []
  channels-after x y none = go (on-channel handing-over x y)
    where
      go : OnChannel d m (step_on w i j m) w after x y → after.channel x y ≡ []
      go (hit _ ex ey _) =
          let top = H.shape.range.high in
          absurd (is-a-line i j H.from_low (omega (arith, H.from-high)) H.to_low (omega (arith, H.to_high)) apart (rw (ex, ey) at none))
      go (put _ ex e) = e ∙ rw (P.channels x y none) (sent-none y (rw ex at none))
      go (rest _ _ e) = e ∙ P.channels x y none

  messages-after : (x y : ℕ) → All PlainMessage (after.channel x y)
  messages-after x y = go (on-channel handing-over x y)
    where
      go : OnChannel d m (step_on w i j m) w after x y → All PlainMessage (after.channel x y)
      go (hit _ _ _ e) = (rw e at (P.messages x y)).1
      go (put _ _ e) = rw e (All-append PlainMessage (w.channel x y) _ (P.messages x y) (step-plain.sent y))
      go (rest _ _ e) = rw e (P.messages x y)

  handed-plain : Plain (handed w i j m others)
  handed-plain = record { agents = agent-after; others = others-after; channels = channels-after; messages = messages-after }

-- ---- every delivery, and every list of them

deliver-plain : (w : Network) (i j : ℕ) → Plain w → Plain (deliver w i j).network
unfolding rejecting
deliver-plain w i j P = go (outcome w i j)
  where
    go : Outcome w i j (deliver w i j) → Plain (deliver w i j).network
    go (refused r _ e) = rw e P
    go (accepted m others T e) =
        let H = at_head w i j m others T.shape T.numbers T.running T.head in
        rw e (handed-plain w i j m others (numbers w i j T.numbers).4 H P)

replay-plain : (ls : List Line) (w : Network) → Plain w → Plain (replay ls w)
unfolding replay attempt_of
replay-plain [] w P = P
replay-plain (l ∷ ls) w P = replay-plain ls _ (deliver-plain w l.from l.to P)

pub calls-plain : StaysPlain
calls-plain w calls P = rw (calls-replay calls w) (replay-plain (tried_by_all calls w) w P)
