-- Who is told a value taken, of both rules at once: an informed agent, or the refuser.
-- An informed agent is left out only where the value is the last one taken and the agent is not the refuser.
use Rattle.std.proofs.Common.{◌≡◌, sym, ◌∙◌, ◌≢◌, ◌⊎◌, inl, inr, ⊎_elim, true, false, not, ◌&&◌, ℕ, ◌<◌, arith, eqb, eqb-true}
use mathlib.Core.Bool.{false≢true}
use borrow.Author.Tests.{eqb-false, not-false}
use Rattle.model_base.proofs.Tests.{test, or_cases, or-false-both, both}
use Rattle.model_agent.specs.Agent.{Self, Agent}
use Rattle.model_agent.specs.Choosing.{quiet_rule, no_refuser, tells}

-- an agent that may be told: it is informed, or its refusal is being worked
abbrev pub MayHear : Agent → ℕ → ℕ → Type 0
MayHear a refuser y = (a.informs y ≡ true) ⊎ ((y ≡ refuser) × (y ≢ no_refuser))

module _ (s : Self) (a : Agent) (refuser v y : ℕ) where
  pub told-may : s.number < y → tells s a refuser v y ≡ true → MayHear a refuser y
  unfolding tells no_refuser
  told-may l =
      test (eqb s.rule quiet_rule)
      (λ q. rw q (λ t. ⊎_elim
      (λ h. inl (both (a.informs y) (not (eqb v a.last)) h).0)
      (λ h. inr (eqb-true y refuser h, λ z. omega arith))
      (or_cases (a.informs y && not (eqb v a.last)) (eqb y refuser) t)))
      (λ q. rw q (λ t. inl t))

  pub left_out : a.informs y ≡ true → tells s a refuser v y ≡ false → (v ≡ a.last) × (y ≢ refuser)
  unfolding tells
  left_out i =
      test (eqb s.rule quiet_rule)
      (λ q. rw (q, i) (λ t.
      let (old, other) = or-false-both (not (eqb v a.last)) (eqb y refuser) t in
      (eqb-true v a.last (not-false (eqb v a.last) old), eqb-false y refuser other)))
      (λ q. rw q (λ t. absurd (false≢true (sym t ∙ i))))
