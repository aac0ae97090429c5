-- The receiver's step in a move: it chooses or it does not, and what it sends where it does not. And its view right after the message's own update.
use Rattle.std.proofs.Common.{◌≡◌, refl, ◌≢◌, ◌⊎◌, inl, inr, true, ℕ}
use mathlib.Core.Bool.{and-false}
use Rattle.model_base.proofs.Tests.{test}
use Rattle.model_base.proofs.Search.{at_same, at_other}
use Rattle.model_base.proofs.Lists.{All, All-map}
use Rattle.model_sheet.specs.Problem.{Problem, Obeys}
use Rattle.model_agent.specs.Message.{Message, Info, Back, AddLink, sent_to}
use Rattle.model_agent.specs.Agent.{Agent, Step}
use Rattle.model_agent.specs.Sorts.{Tells, after_one}
use Rattle.theorems_agent.specs.Facts.{quiet_view, busy_view, TellsSender, Quiet, Busy}
use Rattle.model_network.specs.Network.{Network, self_of, bans_of}
use Rattle.model_network.specs.Run.{Line}
use Rattle.theorems_network.proofs.Moves.{Move}

-- ---- the receiver's step

-- it does not choose, or it chooses
abbrev pub QuietOrBusy : (p : Problem) (d : Line) (w w' : Network) → Move p d w w' → Type 0
QuietOrBusy p d w w' M =
    Quiet (w.agents d.to) d.from M.message M.step
    ⊎ Busy (Obeys p) (self_of w.rule p d.to) (bans_of p d.to) (w.agents d.to) d.from M.message M.step

pub quiet-or-busy : (p : Problem) (d : Line) (w w' : Network) (M : Move p d w w') → QuietOrBusy p d w w' M
quiet-or-busy p d w w' M = test M.facts.chooses (λ c. inr (M.facts.busy c)) (λ c. inl (M.facts.quiet c))

-- an agent that does not choose sends its value, and nothing else
pub quiet-tells : (a : Agent) (from : ℕ) (m : Message) (t : Step) → Quiet a from m t → (y : ℕ) → All (Tells a.value) (sent_to y t.sent)
quiet-tells a from m t Q y = All-map _ _ tells (sent_to y t.sent) (Q.sent y)
  where
    tells : (q : Message) → TellsSender a from m y q → Tells a.value q
    tells (Info v) h = h.0
    tells (Back lhs v) h = absurd h
    tells AddLink h = absurd h

-- ---- the view right after the message's own update: of the sender, of another agent, and of one listened to before

pub view-sender : (a : Agent) (i : ℕ) (m : Message) → quiet_view a i m i ≡ after_one (a.view i) m
unfolding after_one
view-sender a i (Info v) = at_same a.view i v
view-sender a i (Back lhs v) = refl
view-sender a i AddLink = refl

pub view-other : (a : Agent) (i : ℕ) (m : Message) (x : ℕ) → x ≢ i → quiet_view a i m x ≡ a.view x
view-other a i (Info v) x h = at_other a.view i v x h
view-other a i (Back lhs v) x h = refl
view-other a i AddLink x h = refl

pub view-listened : (a : Agent) (i : ℕ) (m : Message) (x : ℕ) → a.listens x ≡ true → busy_view a i m x ≡ quiet_view a i m x
view-listened a i (Info v) x l = refl
view-listened a i (Back lhs v) x l = rw (l, and-false)
view-listened a i AddLink x l = refl
