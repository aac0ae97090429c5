-- A Back that holds leaves a view and nogoods that agree.
-- A named agent that is listened to has its value in the view by the test; another gets it now.
use Rattle.std.proofs.Common.{Some, ℕ, pred, ◌≤◌, ◌≡◌, sym, ◌∙◌, true, arith, eqb, eqb-true}
use mathlib.Core.Bool.{and-eq-true_iff, and-false}
use borrow.Author.Tests.{eqb-false}
use Rattle.model_base.specs.Finite.{at, all_to}
use Rattle.model_base.proofs.Tests.{test, within-true}
use Rattle.model_base.proofs.Search.{at_same, at_other, all_to-at}
use Rattle.model_sheet.specs.Problem.{max_domain}
use Rattle.model_agent.specs.Message.{Assignment, known, Back as Back'}
use Rattle.model_agent.specs.Agent.{Agent as Agent', above}
use Rattle.model_agent.specs.Receiving.{matches, holds, unheard, accepting}
use Rattle.model_agent.specs.Shape.{max_named, RecordFits, MessageFits, any_value}
use Rattle.abt_choosing.specs.Conflicts.{self_of, ViewFits}
use Rattle.abt_choosing.specs.Choosing.{Agreed, Coherent}
use Rattle.abt_choosing.specs.declared.AgentConfig.{AgentConfig}

module _ (own : AgentConfig) (a : Agent') (from : ℕ) (lhs : Assignment) (v : ℕ) (fits : RecordFits any_value (self_of own) a)
    (message : MessageFits any_value (self_of own) a from (Back' lhs v)) (held : holds (self_of own) a lhs v ≡ true) where
  -- a named agent that is listened to has its value in the view
  matched : (k : ℕ) → 1 ≤ k → k ≤ max_named → known (lhs k) ≡ true → a.listens k ≡ true → lhs k ≡ a.view k
  unfolding holds matches above self_of
  matched k lo hi e l =
      let b = (and-eq-true_iff (eqb v a.value) (all_to (above (self_of own)) (matches a lhs))).0 held in
      let n = (message.3 k lo hi e).0 in
      let near : k ≤ pred own.number = omega arith in
      eqb-true (lhs k) (a.view k) (rw (e, l) at (all_to-at (above (self_of own)) (matches a lhs) b.1 k lo near))

  -- whom it listens to it sees as before
  as_before : (k : ℕ) → a.listens k ≡ true → (accepting a lhs v).view k ≡ a.view k
  unfolding accepting unheard
  as_before k l = rw (l, and-false)

  viewed : ViewFits own (accepting a lhs v).view
  unfolding accepting any_value self_of
  viewed k lo hi e =
      test (unheard a lhs k)
      (λ t. let m = message.3 k lo hi (rw t at e) in rw t (m.0, (within-true max_domain (lhs k) m.1).1))
      (λ t.
      let f = fits.viewed k lo hi (rw t at e) in
      rw t (fits.upward k lo hi f.0, (within-true max_domain (a.view k) f.1).1))

  -- the stored reason, and those that were there
  new-agreed : Agreed (accepting a lhs v).view lhs
  unfolding accepting unheard
  new-agreed k lo hi e =
      test (a.listens k)
      (λ t. matched k lo hi e t ∙ sym (as_before k t))
      (λ t. rw (e, t))

  old-agreed : (l : Assignment) → Agreed a.view l → Agreed (accepting a lhs v).view l
  old-agreed l g k lo hi e =
      let q = g k lo hi e in
      q ∙ sym (as_before k (fits.viewed k lo hi (rw q at e)).0)

  agreed : (w : ℕ) (l : Assignment) → 1 ≤ w → w ≤ max_domain → at a.nogoods v (Some lhs) w ≡ Some l
      → Agreed (accepting a lhs v).view l
  agreed w l lo hi e =
      test (eqb w v)
      (λ t.
      let z : Some lhs ≡ Some l = sym (at_same a.nogoods v (Some lhs)) ∙ (rw (eqb-true w v t) at e) in
      let d : lhs ≡ l = cc in
      rw (← d) new-agreed)
      (λ t. old-agreed l (fits.agreed w l lo hi (sym (at_other a.nogoods v (Some lhs) w (eqb-false w v t)) ∙ e)).1)

  pub coherent-accepting : Coherent own (accepting a lhs v).view (accepting a lhs v).nogoods
  unfolding accepting
  coherent-accepting = record { viewed = viewed; agreed = agreed }
