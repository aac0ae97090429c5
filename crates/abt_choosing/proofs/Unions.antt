-- The join of left sides that agree with the view agrees with it too, value by value as the walk joins them.
-- Two left sides that agree with one view are compatible, so `|` joins them.
use Rattle.std.proofs.Common.{None, Option, Some, ℕ, zero, suc, ◌+◌, ◌<◌, ◌≤◌, ◌≡◌, refl, sym, ◌∙◌, add-one, arith}
use mathlib.Core.Bool.{false≢true}
use Rattle.model_base.proofs.Tests.{test}
use Rattle.model_sheet.specs.Problem.{max_domain}
use Rattle.model_agent.specs.Message.{Assignment, known, nobody}
use Rattle.model_agent.specs.Agent.{Nogoods}
use Rattle.model_agent.specs.Choosing.{join, lhs_of, union}
use Rattle.abt_packed.specs.Packed.{Compatible}
use Rattle.abt_choosing.specs.Choosing.{Agreed, Coherent}
use Rattle.abt_choosing.specs.declared.AgentConfig.{AgentConfig}

-- ---- a join that agrees

join-agreed : (view l r : Assignment) → Agreed view l → Agreed view r → Agreed view (join l r)
unfolding join
join-agreed view l r f g k lo hi e =
    test (known (l k))
    (λ t. rw t (f k lo hi t))
    (λ t. rw t (g k lo hi (rw t at e)))

lhs-agreed : (view : Assignment) (o : Option Assignment) → ((lhs : Assignment) → o ≡ Some lhs → Agreed view lhs) → Agreed view (lhs_of o)
unfolding lhs_of nobody known
lhs-agreed view None f k lo hi e = absurd (false≢true e)
lhs-agreed view (Some lhs) f k lo hi e = f lhs refl k lo hi e

pub union-agreed : (own : AgentConfig) (view : Assignment) (nogoods : Nogoods) → Coherent own view nogoods → (m : ℕ) → m ≤ 8
    → Agreed view (union m nogoods)
unfolding union nobody known max_domain
union-agreed own view nogoods c zero h = λ k lo hi e. absurd (false≢true e)
union-agreed own view nogoods c (suc m) h =
    join-agreed view (union m nogoods) (lhs_of (nogoods (suc m))) (union-agreed own view nogoods c m (omega arith))
    (lhs-agreed view (nogoods (suc m)) (λ lhs e. c.agreed (suc m) lhs (omega arith) h e))

-- ---- one value more

pub union-same : (m : ℕ) (f g : Nogoods) → ((v : ℕ) → v ≤ m → f v ≡ g v) → union m f ≡ union m g
unfolding union
union-same zero f g h = refl
union-same (suc m) f g h = rw (union-same m f g (λ v l. h v (omega arith)), h (suc m) (omega arith))

-- the join of the left sides of the first i values, and the next left side
module _ (own : AgentConfig) (view : Assignment) (new : Nogoods) (c : Coherent own view new) (i : ℕ) (room : i < 8) (resolvent lhs : Assignment)
    (sofar : resolvent ≡ union i new) (next : new (suc i) ≡ Some lhs) where
  pub compatible : Compatible resolvent lhs
  unfolding max_domain
  compatible k lo hi p q =
      let one : resolvent k ≡ view k = rw sofar (union-agreed own view new c i (omega arith) k lo hi (rw sofar at p)) in
      one ∙ sym (c.agreed (suc i) lhs (omega arith) room next k lo hi q)

  pub joined : join resolvent lhs ≡ union (i + 1) new
  unfolding union lhs_of
  joined = rw (add-one i, next, sofar)
