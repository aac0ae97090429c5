-- Counts, try by try: a try raises agent j's counts by what it hands to j and by what j sends in it. Raising twice is raising by the sum, so a list of
-- tries raises them by all that it hands over and all that is sent in it; and below the top a raised count is the sum.
use Rattle.std.proofs.Common.{◌≡◌, sym, ◌∙◌, true, List, [], ◌∷◌, ◌++◌, map, ℕ, ◌≤◌, ◌<◌, arith}
use mathlib.Core.List.{map-append}
use Rattle.model_base.specs.Finite.{within}
use Rattle.model_base.proofs.Tests.{test}
use Rattle.model_sheet.specs.Problem.{Problem, in_range}
use Rattle.model_sheet.proofs.Range.{ranged}
use Rattle.model_agent.specs.Message.{Message}
use Rattle.model_agent.specs.Traffic.{Sort, Traffic, no_counts, number, messages_in, top, raised}
use Rattle.model_agent.specs.Agent.{unused_agent}
use Rattle.model_agent.proofs.Traffic.{raised-top, raised-grows, raised_below, raised-twice, raised-none, number_append, messages-append}
use Rattle.theorems_shape.proofs.Wall.{agent-facts}
use Rattle.model_network.specs.Network.{Network, self_of, bans_of, step_on, start_agent, start}
use Rattle.model_network.specs.Run.{Line}
use Rattle.theorems_shape.proofs.ShapeClauses.{EachCount, shaped}
use Rattle.theorems_shape.proofs.Outcome.{numbers}
use Rattle.theorems_shape.proofs.Start.{starts}
use Rattle.theorems_network.specs.Calls.{Call, left_by_all, tried_by_all, attempt_of, replay}
use Rattle.theorems_network.specs.Deeds.{Handed, handed_now, handed_to, posts_now, posts_by, handed_in, posts_in}
use Rattle.theorems_network.specs.Figures.{start_posts, sent_from, message_of, received_by}
use Rattle.theorems_network.specs.Claims.{CountsExact, CountsCapped, CountsNeverFall, EveryProblem}
use Rattle.theorems_network.proofs.Deeds.{Turn, passed, acted, turn}
use Rattle.theorems_network.proofs.Replay.{calls-replay}

-- ---- the counts d are the counts c, raised by these messages

pub record RaisedBy (c : Traffic) (gave got : List Message) (d : Traffic) : Type 0 where
  pub sent : (x : Sort) → d.sent x ≡ raised (c.sent x) (number x gave)
  pub received : (x : Sort) → d.received x ≡ raised (c.received x) (number x got)

raised-by-none : (c : Traffic) → EachCount c (λ k. k ≤ top) → RaisedBy c [] [] c
unfolding number
raised-by-none c h =
    record { sent = λ x. sym (raised-none (c.sent x) (h x).0); received = λ x. sym (raised-none (c.received x) (h x).1) }

raised-by-both : {c d e : Traffic} {s t g h : List Message} → RaisedBy c s g d → RaisedBy d t h e → RaisedBy c (s ++ t) (g ++ h) e
raised-by-both {c} {d} {e} {s} {t} {g} {h} R Q =
    record {
      sent = λ x. rw (Q.sent x, R.sent x, number_append x s t) (raised-twice (c.sent x) (number x s) (number x t));
      received = λ x. rw (Q.received x, R.received x, number_append x g h) (raised-twice (c.received x) (number x g) (number x h));
    }

raised-by-top : {c d : Traffic} {s g : List Message} → RaisedBy c s g d → EachCount d (λ k. k ≤ top)
raised-by-top R x = rw (R.sent x, R.received x) (raised-top _ _, raised-top _ _)

-- ---- one try

messages_of : List Handed → List Message
messages_of hs = map message_of hs

-- agent j's counts after its step on m
step-raises : (j : ℕ) (w : Network) (i : ℕ) (m : Message)
    → RaisedBy (w.agents j).counts (messages_in (step_on w i j m).sent) (m ∷ []) (step_on w i j m).agent.counts
unfolding step_on
step-raises j w i m =
    let c = agent-facts.counts (self_of w.rule w.problem j) (bans_of w.problem j) (w.agents j) i m in
    record { sent = c.sent; received = c.received }

-- so its counts are raised by what it was handed and sent
try-raises : (j : ℕ) (l : Line) (w : Network) → EachCount (w.agents j).counts (λ k. k ≤ top)
    → RaisedBy (w.agents j).counts (messages_in (posts_now j l w)) (messages_of (handed_now j l w)) ((attempt_of l w).network.agents j).counts
unfolding messages_of message_of messages_in
try-raises j l w s = go (turn j l w)
  where
    go : Turn j l w
        → RaisedBy (w.agents j).counts (messages_in (posts_now j l w)) (messages_of (handed_now j l w)) ((attempt_of l w).network.agents j).counts
    go (passed h p a) = rw (h, p, a) (raised-by-none (w.agents j).counts s)
    go (acted m _ _ h p a) = rw (h, p, a) (step-raises j w l.from m)

-- .. and never fall
try-grows : (j : ℕ) (l : Line) (w : Network) (x : Sort)
    → ((w.agents j).counts.sent x ≤ ((attempt_of l w).network.agents j).counts.sent x)
    × ((w.agents j).counts.received x ≤ ((attempt_of l w).network.agents j).counts.received x)
try-grows j l w x = go (turn j l w)
  where
    go : Turn j l w
        → ((w.agents j).counts.sent x ≤ ((attempt_of l w).network.agents j).counts.sent x)
        × ((w.agents j).counts.received x ≤ ((attempt_of l w).network.agents j).counts.received x)
    go (passed _ _ a) = rw a (omega arith, omega arith)
    go (acted m s n _ _ a) =
        let (_, _, lo, hi, _) = numbers w l.from j n in
        let c = ((shaped w s).agents j lo hi).sized x in
        let R = step-raises j w l.from m in
        rw (a, R.sent x, R.received x)
        (raised-grows ((w.agents j).counts.sent x) _ c.0, raised-grows ((w.agents j).counts.received x) _ c.1)

-- ---- a list of tries

replay-raises : (j : ℕ) (ls : List Line) (w : Network) → EachCount (w.agents j).counts (λ k. k ≤ top)
    → RaisedBy (w.agents j).counts (messages_in (posts_by j ls w)) (messages_of (handed_to j ls w)) ((replay ls w).agents j).counts
unfolding posts_by handed_to replay messages_in messages_of
replay-raises j [] w s = raised-by-none (w.agents j).counts s
replay-raises j (l ∷ ls) w s =
    let R = try-raises j l w s in
    rw (messages-append (posts_now j l w) (posts_by j ls (attempt_of l w).network), map-append message_of (handed_now j l w) (handed_to j ls (attempt_of l w).network))
    (raised-by-both R (replay-raises j ls (attempt_of l w).network (raised-by-top R)))

replay-grows : (j : ℕ) (ls : List Line) (w : Network) (x : Sort)
    → ((w.agents j).counts.sent x ≤ ((replay ls w).agents j).counts.sent x)
    × ((w.agents j).counts.received x ≤ ((replay ls w).agents j).counts.received x)
unfolding replay
replay-grows j [] w x = (omega arith, omega arith)
replay-grows j (l ∷ ls) w x =
    let g = try-grows j l w x in
    let r = replay-grows j ls (attempt_of l w).network x in
    (omega (arith, g.0, r.0), omega (arith, g.1, r.1))

pub counts-never-fall : CountsNeverFall
counts-never-fall w calls i x = rw (calls-replay calls w) (replay-grows i (tried_by_all calls w) w x)

-- ---- from the start

unused-raises : RaisedBy no_counts (messages_in []) [] unused_agent.counts
unfolding messages_in unused_agent no_counts
unused-raises = raised-by-none no_counts (λ x. (omega arith, omega arith))

start-raises : (rule : ℕ) (p : Problem) → in_range p ≡ true → (i : ℕ)
    → RaisedBy no_counts (messages_in (start_posts rule p i)) [] ((start rule p).agents i).counts
unfolding start start_agent start_posts
start-raises rule p r i =
    test (within p.count i)
    (λ e. rw (e, start_agent, start_posts) (record { sent = (starts rule p (ranged p r) i).sent; received = (starts rule p (ranged p r) i).received }))
    (λ e. rw (e, start_agent, start_posts) unused-raises)

calls-raise : (rule : ℕ) (p : Problem) → in_range p ≡ true → (calls : List Call) (i : ℕ)
    → RaisedBy no_counts (sent_from rule p calls i) (received_by rule p calls i) ((left_by_all calls (start rule p)).agents i).counts
unfolding sent_from received_by posts_in handed_in messages_of
calls-raise rule p r calls i =
    let S = start-raises rule p r i in
    rw (calls-replay calls (start rule p), messages-append (start_posts rule p i) (posts_by i (tried_by_all calls (start rule p)) (start rule p)))
    (raised-by-both S (replay-raises i (tried_by_all calls (start rule p)) (start rule p) (raised-by-top S)))

pub counts-capped : EveryProblem CountsCapped
unfolding no_counts
counts-capped rule _ p r calls i x = let R = calls-raise rule p r calls i in (R.sent x, R.received x)

pub counts-exact : EveryProblem CountsExact
counts-exact rule is-rule p r calls below i lo hi x =
    let c = counts-capped rule is-rule p r calls i x in
    let b = below i lo hi x in
    (c.0 ∙ exactly (rw c.0 at b.0), c.1 ∙ exactly (rw c.1 at b.1))
  where
    exactly : {k : ℕ} → raised 0 k < top → raised 0 k ≡ k
    exactly {k} h = omega (arith, raised_below 0 k h)
