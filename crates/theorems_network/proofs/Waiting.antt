-- What waits on a channel is what was sent on it less what was accepted from it. An accepted delivery takes the head of its channel, and its
-- receiver sends on its own channels only; a rejected one changes nothing and sends nothing.
use Rattle.std.proofs.Common.{◌≡◌, sym, ◌∙◌, ◌≢◌, List, [], ◌∷◌, ◌++◌, append-nil, append_assoc, ℕ, drop, drop-drop, eqb, eq-eqb, ne_eqb}
use Rattle.model_base.proofs.Tests.{test}
use Rattle.model_sheet.specs.Problem.{Problem}
use Rattle.model_agent.specs.Message.{Message, sent_to}
use Rattle.model_network.specs.Network.{Network, step_on, handed, start}
use Rattle.model_network.specs.Delivery.{is_accepted, rejecting, deliver}
use Rattle.model_network.specs.Run.{Line, one_if}
use Rattle.theorems_network.specs.Calls.{attempt_of, replay, accepted_now, accepted_on, sent_now, sent_on, waits_after}
use Rattle.theorems_shape.proofs.Outcome.{Outcome, refused, accepted, outcome, numbers}
use Rattle.theorems_shape.proofs.Handing.{handing, OnChannel, hit, put, rest, on-channel}

-- ---- one try

-- what a try does to the channel from i to j
data OnTry (l : Line) (w : Network) (i j : ℕ) : Type 0 where
  puts : accepted_now i j l w ≡ 0 → (attempt_of l w).network.channel i j ≡ w.channel i j ++ sent_now i j l w → OnTry l w i j
  takes : (m : Message) → accepted_now i j l w ≡ 1 → sent_now i j l w ≡ [] → w.channel i j ≡ m ∷ (attempt_of l w).network.channel i j
      → OnTry l w i j

on-try : (l : Line) (w : Network) (i j : ℕ) → OnTry l w i j
unfolding accepted_now sent_now attempt_of is_accepted one_if sent_to rejecting
on-try l w i j = go (outcome w l.from l.to)
  where
    go : Outcome w l.from l.to (deliver w l.from l.to) → OnTry l w i j
    go (refused r _ e) =
        puts (rw e) (test (eqb i l.to) (λ t. rw (t, sent_now, e, append-nil)) (λ t. rw (t, sent_now, e, append-nil)))
    go (accepted m others T e) =
        let n = (numbers w l.from l.to T.numbers).4 in on n (on-channel (handing l w m others n T.head) i j)
      where
        on : l.from ≢ l.to → OnChannel l m (step_on w l.from l.to m) w (handed w l.from l.to m others) i j → OnTry l w i j
        on n (hit h ei ej q) = takes m (rw (e, h)) (rw (ne_eqb i l.to (λ z. n (sym ei ∙ z)), sent_now)) (rw e q)
        on n (put h ei q) = puts (rw (e, h)) (rw (eq-eqb i l.to ei, sent_now, e) q)
        on n (rest h ni q) = puts (rw (e, h)) (rw (ne_eqb i l.to ni, sent_now, e, append-nil) q)

-- a channel, and whatever is sent on it later, behind one try
step : (l : Line) (w : Network) (i j : ℕ) (later : List Message)
    → drop (accepted_now i j l w) (w.channel i j ++ (sent_now i j l w ++ later)) ≡ (attempt_of l w).network.channel i j ++ later
step l w i j later = go (on-try l w i j)
  where
    go : OnTry l w i j
        → drop (accepted_now i j l w) (w.channel i j ++ (sent_now i j l w ++ later)) ≡ (attempt_of l w).network.channel i j ++ later
    go (puts a e) = rw (a, e) (sym (append_assoc (w.channel i j) (sent_now i j l w) later))
    go (takes m a s e) = rw (a, s, e)

-- ---- a list of tries

waits-from : (ls : List Line) (w : Network) (i j : ℕ)
    → drop (accepted_on i j ls w) (w.channel i j ++ sent_on i j ls w) ≡ (replay ls w).channel i j
unfolding accepted_on sent_on replay
waits-from [] w i j = append-nil (w.channel i j)
waits-from (l ∷ ls) w i j =
    rw (← drop-drop (accepted_on i j ls (attempt_of l w).network) (accepted_now i j l w), step l w i j)
    (waits-from ls (attempt_of l w).network i j)

pub waits-channel : (rule : ℕ) (p : Problem) (before : List Line) (i j : ℕ) → waits_after rule p before i j ≡ (replay before (start rule p)).channel i j
unfolding waits_after
waits-channel rule p before i j = waits-from before (start rule p) i j
