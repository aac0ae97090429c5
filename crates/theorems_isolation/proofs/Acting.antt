-- An agent's record and all that it sent are a function of what it was handed, of its record before, of its number and domain, of its bans and of
-- the rule: by induction along the tries. So two networks that are alike in it, handed the same, have the same of both.
use Rattle.std.proofs.Common.{◌≡◌, refl, sym, ap, ◌∙◌, List, [], ◌∷◌, ◌++◌, ℕ}
use mathlib.Core.Path.{fun_ext}
use Rattle.model_agent.specs.Message.{Post}
use Rattle.model_agent.specs.Agent.{Self, Bans, Agent}
use Rattle.model_agent.specs.Receiving.{receive}
use Rattle.model_network.specs.Network.{Network, self_of, bans_of, step_on}
use Rattle.model_network.specs.Run.{Line}
use Rattle.theorems_network.specs.Calls.{attempt_of, replay}
use Rattle.theorems_network.proofs.Deeds.{Turn, passed, acted, turn}
use Rattle.theorems_network.proofs.Tries.{given_stays}
use Rattle.theorems_network.specs.Deeds.{Handed, handed_now, handed_to, posts_now, posts_by}
use Rattle.theorems_isolation.specs.Tenants.{NamingAbove, Alike}

-- ---- an agent by itself: its record, and what it has sent, when it has been handed these

record_after : Self → Bans → Agent → List Handed → Agent
record_after s bans a [] = a
record_after s bans a (h ∷ hs) = record_after s bans (receive s bans a h.from h.message).agent hs

posts_for : Self → Bans → Agent → List Handed → List Post
posts_for s bans a [] = []
posts_for s bans a (h ∷ hs) =
    (receive s bans a h.from h.message).sent ++ posts_for s bans (receive s bans a h.from h.message).agent hs

-- ---- one try

-- agent j by itself, after a try and with what is handed to it afterwards
module _ (j : ℕ) (l : Line) (w : Network) (hs : List Handed) where
  turn-record : Turn j l w
      → record_after (self_of w.rule w.problem j) (bans_of w.problem j) ((attempt_of l w).network.agents j) hs
      ≡ record_after (self_of w.rule w.problem j) (bans_of w.problem j) (w.agents j) (handed_now j l w ++ hs)
  unfolding record_after step_on
  turn-record (passed n p a) = rw (n, a)
  turn-record (acted m _ _ n p a) = rw (n, a)

  turn-posts : Turn j l w
      → posts_now j l w ++ posts_for (self_of w.rule w.problem j) (bans_of w.problem j) ((attempt_of l w).network.agents j) hs
      ≡ posts_for (self_of w.rule w.problem j) (bans_of w.problem j) (w.agents j) (handed_now j l w ++ hs)
  unfolding posts_for step_on
  turn-posts (passed n p a) = rw (n, p, a)
  turn-posts (acted m _ _ n p a) = rw (n, p, a)

-- ---- a list of tries: agent j by itself, handed what the tries hand it

record-after : (j : ℕ) (ls : List Line) (w : Network)
    → (replay ls w).agents j ≡ record_after (self_of w.rule w.problem j) (bans_of w.problem j) (w.agents j) (handed_to j ls w)
unfolding replay record_after handed_to
record-after j [] w = refl
record-after j (l ∷ ls) w =
    (rw ((given_stays l w).0, (given_stays l w).1) at (record-after j ls (attempt_of l w).network)) ∙ turn-record j l w (handed_to j ls (attempt_of l w).network) (turn j l w)

posts-for : (j : ℕ) (ls : List Line) (w : Network)
    → posts_by j ls w ≡ posts_for (self_of w.rule w.problem j) (bans_of w.problem j) (w.agents j) (handed_to j ls w)
unfolding posts_by posts_for handed_to
posts-for j [] w = refl
posts-for j (l ∷ ls) w =
    ap (λ (rest : List Post). posts_now j l w ++ rest) (rw ((given_stays l w).0, (given_stays l w).1) at (posts-for j ls (attempt_of l w).network))
    ∙ turn-posts j l w (handed_to j ls (attempt_of l w).network) (turn j l w)

-- ---- two networks

pub same_self : {j : ℕ} {w v : Network} → Alike NamingAbove j w v → self_of w.rule w.problem j ≡ self_of v.rule v.problem j
unfolding self_of
same_self A = rw (A.rule, A.domain)

pub same-bans : {j : ℕ} {w v : Network} → Alike NamingAbove j w v → bans_of w.problem j ≡ bans_of v.problem j
unfolding bans_of
same-bans {j = j} A = fun_ext λ k. fun_ext λ x. fun_ext λ y. A.bans k j x y refl

pub same-record : {j : ℕ} {w v : Network} → Alike NamingAbove j w v → (ls ms : List Line) → handed_to j ls w ≡ handed_to j ms v
    → (replay ls w).agents j ≡ (replay ms v).agents j
same-record {j} {w} {v} A ls ms h =
    record-after j ls w ∙ rw (same_self A, same-bans A, A.agent, h) (sym (record-after j ms v))

pub same-posts : {j : ℕ} {w v : Network} → Alike NamingAbove j w v → (ls ms : List Line) → handed_to j ls w ≡ handed_to j ms v
    → posts_by j ls w ≡ posts_by j ms v
same-posts {j} {w} {v} A ls ms h =
    posts-for j ls w ∙ rw (same_self A, same-bans A, A.agent, h) (sym (posts-for j ms v))
