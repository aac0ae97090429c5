-- A draft that comes next has passed every test, and where every test is passed it comes next.
-- Test by test, in their order.
use Rattle.std.proofs.Common.{◌≡◌, refl, true, List, [], ◌∷◌, arith, ℕ}
use Rattle.model_base.specs.Lists.{All}
use Rattle.model_base.proofs.Tests.{test}
use Rattle.model_text.specs.Drafts.{LineRejection, Draft, Test, Need, Next, Wrong, tested}

abbrev pub Holds : Test → Type 0
Holds (Need good fault) = good ≡ true

pub wrong : {X : Type 0} {fault : LineRejection} {d : Draft} → Wrong fault ≡ Next d → X
wrong e = let z : ◌≡◌ {A = ℕ} 0 1 = cc in absurd (omega arith)

pub passed : (tests : List Test) (d e : Draft) → tested tests d ≡ Next e → All Holds tests × (d ≡ e)
unfolding tested
passed [] d e h = (tt, cc)
passed (Need good fault ∷ tests) d e h =
    test good
    (λ g. let r = passed tests d e (rw (g, tested) at h) in ((g, r.0), r.1))
    (λ g. wrong (rw (g, tested) at h))

pub passes : (tests : List Test) (d : Draft) → All Holds tests → tested tests d ≡ Next d
unfolding tested
passes [] d h = refl
passes (Need good fault ∷ tests) d h = rw (h.0, tested) (passes tests d h.1)
