-- The start is in shape: nothing is known yet, linked agents listen and inform from the start, and each channel holds one Info or nothing.
use Rattle.std.proofs.Common.{◌≡◌, refl, sym, inl, inr, true, ℕ, ◌≤◌, arith}
use mathlib.Core.Bool.{false≢true}
use Rattle.model_base.proofs.Tests.{test, no-some}
use Rattle.model_sheet.specs.Problem.{Problem, owns, linked, in_range}
use Rattle.model_sheet.proofs.Range.{Ranged, ranged, linked-inside}
use Rattle.model_agent.specs.Message.{nobody}
use Rattle.model_agent.specs.Traffic.{no_counts}
use Rattle.model_agent.specs.Agent.{unused_agent, no_nogoods}
use Rattle.model_agent.proofs.Assignments.{unknown}
use Rattle.model_agent.proofs.Traffic.{raised-top}
use Rattle.model_network.specs.Network.{self_of, start_agent, start, is_rule}
use Rattle.model_network.specs.Shape.{capacity, in_shape}
use Rattle.theorems_shape.proofs.ShapeClauses.{AgentShaped, Unused, ChannelShaped, Shaped, to-shape}
use Rattle.theorems_shape.proofs.Start.{
  begins,
  starts,
  agent-in,
  agent-beyond,
  linked-listens,
  linked-informs,
  listens-linked,
  informs-linked,
  linked-channel,
  unlinked-channel,
}

unused-agent : Unused unused_agent
unfolding unused_agent nobody no_nogoods no_counts
unused-agent =
    record {
      valueless = refl;
      never = refl;
      deaf = λ k lo hi e. false≢true e;
      mute = λ k lo hi e. false≢true e;
      blind = λ k lo hi e. unknown e;
      blank = λ v lo hi. refl;
      uncounted = λ x. (refl, refl);
    }

module _ (rule : ℕ) (is-rule : is_rule rule ≡ true) (p : Problem) (r : Ranged p) where
  owned : (i : ℕ) → 1 ≤ i → i ≤ p.count → owns p i (start_agent rule p i).value ≡ true
  unfolding self_of owns
  owned i lo hi = rw (agent-in rule p r i lo hi) (begins rule p r i lo hi).owned

  kept : (i : ℕ) → 1 ≤ i → i ≤ p.count → (start_agent rule p i).last ≡ (start_agent rule p i).value
  kept i lo hi = rw (agent-in rule p r i lo hi) (begins rule p r i lo hi).kept

  start-agent : (i : ℕ) → 1 ≤ i → i ≤ p.count → AgentShaped (start rule p) i
  unfolding start
  start-agent i lo hi =
      let b = begins rule p r i lo hi in
      let is = agent-in rule p r i lo hi in
      record {
        valued = inl (owned i lo hi);
        lasting = (rw (kept i lo hi) (owned i lo hi), inr (sym (kept i lo hi)));
        upward = λ k l h e. (linked-inside p r k i (listens-linked rule p r k i e)).1;
        downward = λ k l h e. let q = linked-inside p r i k (informs-linked rule p r i k e) in (q.1, q.2);
        linking = λ k l h e. (linked-listens rule p r k i e, linked-informs rule p r k i e);
        informed = λ k l h e. linked-listens rule p r i k (informs-linked rule p r i k e);
        viewed = λ k l h e. unknown (rw (is, b.view k) at e);
        agreed = λ v lhs l h e. no-some (rw (is, b.nogoods v) at e);
        sized = λ x. let c = starts rule p r i in rw (is, c.sent x, c.received x) (raised-top _ _, raised-top _ _);
      }

  start-channel : (i j : ℕ) → ChannelShaped (start rule p) i j
  unfolding start capacity
  start-channel i j =
      test (linked p i j)
      (λ e.
      let (l, h, n) = linked-inside p r i j e in
      let c = linked-channel rule p r i j e in
      record { room = rw c (omega arith); once = rw c tt; messages = rw c ((h, owned i l (omega arith), linked-listens rule p r i j e), tt) })
      (λ e. let c = unlinked-channel rule p r i j e in record { room = rw c (omega arith); once = rw c tt; messages = rw c tt })

  start-shaped : Shaped (start rule p)
  unfolding start
  start-shaped =
      record {
        range = r;
        ruled = is-rule;
        agents = start-agent;
        beyond = λ i lo hi. rw (agent-beyond rule p r i lo) unused-agent;
        channels = λ i j _ _ _ _. start-channel i j;
      }

pub start-in-shape : (rule : ℕ) → is_rule rule ≡ true → (p : Problem) → in_range p ≡ true → in_shape (start rule p) ≡ true
start-in-shape rule is-rule p e = to-shape (start rule p) (start-shaped rule is-rule p (ranged p e))
