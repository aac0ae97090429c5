-- The start is plain: only linked agents listen and inform, nothing is known, and the line of a linked pair holds one Info, any other nothing.
use Rattle.std.proofs.Common.{◌≡◌, sym, ◌∙◌, [], true, false, ℕ, ◌≤◌, arith}
use mathlib.Core.Bool.{false≢true}
use Rattle.model_base.specs.Finite.{within}
use Rattle.model_base.specs.Lists.{All}
use Rattle.model_base.proofs.Tests.{test, within-true, to-within, not_within, above_within}
use Rattle.model_sheet.specs.Problem.{Problem, max_agents, linked, in_range}
use Rattle.model_sheet.proofs.Range.{Ranged, ranged, linked-inside}
use Rattle.model_agent.specs.Agent.{unused_agent}
use Rattle.model_agent.specs.Shape.{max_named}
use Rattle.model_agent.specs.Plain.{PlainAgent, PlainMessage}
use Rattle.model_agent.proofs.Assignments.{agents-named}
use Rattle.model_network.specs.Lines.{is_channel}
use Rattle.model_network.specs.Network.{begun, start_agent, start_channel, start}
use Rattle.theorems_shape.proofs.Start.{begins, linked-channel, unlinked-channel}
use Rattle.model_image.specs.Plain.{Plain}
use Rattle.model_image.proofs.Plainness.{unused-plain}
use Rattle.theorems_image.proofs.Lines.{is-a-line}

module _ (rule : ℕ) (p : Problem) (r : Ranged p) where
  -- an agent that a record cannot name is none of the problem's
  beyond : (k : ℕ) → within max_named k ≡ false → 1 ≤ k → k ≤ p.count → ⊥
  beyond k out lo hi = false≢true (sym out ∙ to-within max_named k lo (omega (arith, agents-named, r.high)))

  begun-plain : (i : ℕ) → 1 ≤ i → i ≤ p.count → PlainAgent (begun rule p i).agent
  begun-plain i lo hi =
      let b = begins rule p r i lo hi in
      record {
        listens = λ k out. rw b.listened
            (test (linked p k i) (λ e. let (l, h, n) = linked-inside p r k i e in absurd (beyond k out l (omega arith))) (λ e. e));
        informs = λ k out. rw b.informed
            (test (linked p i k) (λ e. let (l, h, n) = linked-inside p r i k e in absurd (beyond k out (omega arith) n)) (λ e. e));
        view = λ k _. b.view k;
        nogoods = λ v _. b.nogoods v;
        reasons = λ v. rw (b.nogoods v) tt;
      }

  agent-plain : (i : ℕ) → PlainAgent (start_agent rule p i)
  unfolding start_agent
  agent-plain i =
      test (within p.count i)
      (λ e. let (l, h) = within-true p.count i e in rw (e, start_agent) (begun-plain i l h))
      (λ e. rw (e, start_agent) unused-plain)

  others-unused : (i : ℕ) → within max_agents i ≡ false → start_agent rule p i ≡ unused_agent
  unfolding start_agent
  others-unused i out =
      rw (not_within p.count i (λ l h. absurd (omega (arith, above_within max_agents i out l, r.high))), start_agent)

  no-line-empty : (i j : ℕ) → is_channel i j ≡ false → start_channel rule p i j ≡ []
  no-line-empty i j none =
      test (linked p i j)
      (λ e.
      let (l, h, n) = linked-inside p r i j e in
      let most = r.high in
      absurd (is-a-line i j l (omega arith) (omega arith) (omega arith) (λ q. omega arith) none))
      (λ e. unlinked-channel rule p r i j e)

  messages-plain : (i j : ℕ) → All PlainMessage (start_channel rule p i j)
  messages-plain i j =
      test (linked p i j) (λ e. rw (linked-channel rule p r i j e) (tt, tt)) (λ e. rw (unlinked-channel rule p r i j e) tt)

pub start_plain : (rule : ℕ) (p : Problem) → in_range p ≡ true → Plain (start rule p)
unfolding start
start_plain rule p e =
    let r = ranged p e in
    record {
      agents = agent-plain rule p r;
      others = others-unused rule p r;
      channels = no-line-empty rule p r;
      messages = messages-plain rule p r;
    }
