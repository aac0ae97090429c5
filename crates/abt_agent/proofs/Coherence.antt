-- A changed view stays coherent with what it leaves of the nogoods: what would disagree with it is dropped.
use Rattle.std.proofs.Common.{None, Option, Some, ℕ, ◌<◌, ◌≤◌, ◌≡◌, true, not, ◌||◌, eqb, eqb-true}
use borrow.Author.Tests.{eqb-false}
use Rattle.model_base.specs.Finite.{at}
use Rattle.model_base.proofs.Tests.{test, no-some}
use Rattle.model_base.proofs.Search.{at_same, at_other}
use Rattle.model_sheet.specs.Problem.{max_domain}
use Rattle.model_agent.specs.Message.{Assignment, known}
use Rattle.model_agent.specs.Agent.{Nogoods}
use Rattle.model_agent.specs.Receiving.{keep_if}
use Rattle.model_agent.specs.Shape.{max_named}
use Rattle.abt_choosing.specs.Choosing.{Agreed, Coherent}
use Rattle.abt_choosing.specs.declared.AgentConfig.{AgentConfig}
use Rattle.abt_agent.specs.Parts.{keeping}

keeping-some : (k v : ℕ) (o : Option Assignment) (lhs : Assignment) → keeping k v o ≡ Some lhs
    → (o ≡ Some lhs) × (known (lhs k) ≡ true → lhs k ≡ v)
unfolding keeping keep_if
keeping-some k v None lhs e = no-some e
keeping-some k v (Some l) lhs e =
    test (not (known (l k)) || eqb (l k) v)
    (λ t.
    let q : Some l ≡ Some lhs = rw (t, keep_if) at e in
    let d : l ≡ lhs = cc in
    (q, λ n. eqb-true (lhs k) v (rw (d, n) at t)))
    (λ t. no-some (rw (t, keep_if) at e))

pub coherent-keeping : (own : AgentConfig) (view : Assignment) (nogoods : Nogoods) (k v : ℕ)
    → (known v ≡ true → (k < own.number) × (v ≤ max_domain)) → Coherent own view nogoods
    → Coherent own (at view k v) (λ w. keeping k v (nogoods w))
coherent-keeping own view nogoods k v h c =
    record { viewed = λ j lo hi e. viewed j lo hi e; agreed = λ w lhs lo hi e. agreed w lhs lo hi e }
  where
    viewed : (j : ℕ) → 1 ≤ j → j ≤ max_named → known (at view k v j) ≡ true → (j < own.number) × (at view k v j ≤ max_domain)
    viewed j lo hi e =
        test (eqb j k)
        (λ t. let p = eqb-true j k t in rw (p, at_same view k v) (h (rw (p, at_same view k v) at e)))
        (λ t. let p = at_other view k v j (eqb-false j k t) in rw p (c.viewed j lo hi (rw p at e)))

    agreed : (w : ℕ) (lhs : Assignment) → 1 ≤ w → w ≤ max_domain → keeping k v (nogoods w) ≡ Some lhs → Agreed (at view k v) lhs
    agreed w lhs lo hi e j l u n =
        let s = keeping-some k v (nogoods w) lhs e in
        test (eqb j k)
        (λ t. let p = eqb-true j k t in rw (p, at_same view k v) (s.1 (rw p at n)))
        (λ t. rw (at_other view k v j (eqb-false j k t)) (c.agreed w lhs lo hi s.0 j l u n))
