-- By the slot count of the agent; there is none beyond the twelve. Assumes nothing.
use Rattle.std.proofs.Common.{ℕ, ◌-◌, ◌≤◌, ◌<◌, ◌≡◌, sym, ap, ◌∙◌, Bool, true, List, arith, length, get_or}
use mathlib.Core.Bool.{false≢true}
use Rattle.model_base.specs.Finite.{within}
use Rattle.model_base.proofs.Tests.{within-true}
use Rattle.sheet_reader.specs.Abstract.{problem_of}
use Rattle.sheet_text_drafts.specs.Drafting.{problem_in}
use Rattle.sheet_text_drafts.proofs.Testing.{not-owned, owned}
use Rattle.sheet_text_drafts.proofs.draft.Draft.owns.Goals as goal

-- an agent has a place
placed : {good : Bool} {n a : ℕ} → good ≡ within n a → good ≡ true → (1 ≤ a) × (a - 1 < n)
placed {n = n} {a} e t = let w = within-true n a (sym e ∙ t) in (w.0, omega (arith, w))

pub overflow_sub-a : goal.overflow_sub-a
overflow_sub-a c = (placed c.within.ensures c.if-within.true).0

pub bounds-domains-a : goal.bounds-domains-a
bounds-domains-a c = (placed c.within.ensures c.if-within.true).1

pub returns-then-within : goal.returns-then-within
unfolding problem_in problem_of
returns-then-within c = (
  c.up_to.ensures.0
      ∙ owned (problem_in c.args.self.now) c.args.a c.args.v (placed c.within.ensures c.if-within.true).0 _ (ap (λ (l : List ℕ). get_or l (c.args.a - 1) 0) c.as_slice-domains.ensures),
  c.up_to.ensures.1,
)

pub returns-else-within : goal.returns-else-within
unfolding problem_in problem_of
returns-else-within c = (
  c.if-within.false
      ∙ sym (not-owned (problem_in c.args.self.now) c.args.a c.args.v _ (ap length c.as_slice-domains.ensures) (sym c.within.ensures ∙ c.if-within.false)),
  λ t. absurd (false≢true (sym c.if-within.false ∙ t)),
)
