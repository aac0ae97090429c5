-- What a run that may use no round says of a network in shape without a verdict: `plan` exactly if nothing waits.
use Rattle.std.proofs.Common.{ℕ, ◌≤◌, ◌≡◌, ap, ap₂, ◌∙◌, Bool, true, false, arith}
use Rattle.model_base.proofs.Tests.{test}
use Rattle.model_sheet.specs.Problem.{max_agents}
use Rattle.model_network.specs.Network.{Network}
use Rattle.model_network.specs.Shape.{in_shape}
use Rattle.model_network.specs.Delivery.{rejection_number}
use Rattle.model_network.specs.Run.{idle, Ending, Unsolvable, Plan, Jammed, Open, Broken, ending_at, finish, run_from, max_rounds, allowed, run}
use Rattle.theorems_shape.proofs.ShapeClauses.{shaped}
use Rattle.abt_dispatch.specs.Abstract.{tested_by, nothing_by}

-- the first of 5 and 7, read off its number
pub record Running (w : Network) : Type 0 where
  pub shape : in_shape w ≡ true
  pub going : w.unsolvable ≡ false

pub running : (w : Network) → tested_by w ≡ 0 → Running w
unfolding tested_by rejection_number
running w e =
    test (in_shape w)
    (λ s. test w.unsolvable
    (λ v. let q : 7 ≡ 0 = rw (s, tested_by, v) at e in absurd (omega arith))
    (λ v. record { shape = s; going = v }))
    (λ s. let q : 5 ≡ 0 = rw (s, tested_by) at e in absurd (omega arith))

pub sized : (w : Network) → tested_by w ≡ 0 → (1 ≤ w.problem.count) × (w.problem.count ≤ 12)
unfolding max_agents
sized w e = let r = (shaped w (running w e).shape).range in (r.low, r.high)

-- the number for the word
unfoldable pub number_for : Ending → ℕ
number_for Unsolvable = 10
number_for Plan = 8
number_for Jammed = 10
number_for Open = 10
number_for Broken = 10

-- the word, by the verdict and by what waits
unfoldable word : Bool → Bool → Ending
word unsolvable idle = elim unsolvable [ true ↦ Unsolvable | false ↦ elim idle [ true ↦ Plan | false ↦ Open ] ]

says : (w : Network) → in_shape w ≡ true → (run 0 w).ending ≡ word w.unsolvable (idle w)
unfolding run allowed max_rounds run_from finish ending_at word
says w s = rw (s, run)

pub nothing_for : (w : Network) → tested_by w ≡ 0 → number_for (run 0 w).ending ≡ nothing_by w
unfolding number_for nothing_by rejection_number word
nothing_for w e =
    let h = running w e in
    test (idle w)
    (λ i. ap number_for (says w h.shape ∙ ap₂ word h.going i) ∙ rw (i, nothing_by))
    (λ i. ap number_for (says w h.shape ∙ ap₂ word h.going i) ∙ rw (i, nothing_by))
