-- Tests in a row: a fault is that of the first one that does not hold.
-- One test more in front, and tests behind others.
use Rattle.std.proofs.Common.{◌≡◌, refl, sym, ap, ◌∙◌, Bool, true, false, List, [], ◌∷◌, ◌++◌, Option, None, Result, Ok, Err, IfOk}
use Rattle.std.specs.Option.{ok_or}
use Rattle.model_base.proofs.Tests.{test}
use Rattle.model_text.specs.Drafts.{LineRejection as LineRejection', Draft as Draft', Test, Need, Next, Wrong, tested}
use Rattle.sheet_text_drafts.specs.declared.fault.LineRejection.{LineRejection}
use Rattle.sheet_text_drafts.specs.Faults.{fault_of, needed}
use Rattle.sheet_text_drafts.specs.Drafting.{judged, Judges}

-- ---- one test

need-wrong : (good : Bool) (f e : LineRejection) → needed good f ≡ Err e → (good ≡ false) × (f ≡ e)
unfolding needed
need-wrong true f e h = let z : ⊥ = cc in absurd z
need-wrong false f e h = (refl, cc)

pub need-right : (good : Bool) (f : LineRejection) {u : Unit {0}} → needed good f ≡ Ok u → good ≡ true
unfolding needed
need-right true f h = refl
need-right false f h = let z : ⊥ = cc in absurd z

-- `good` is what the code tests
pub passes : {good holds : Bool} {g : LineRejection'} {tests : List Test} {r : Result (Unit {0}) LineRejection} {u : Unit {0}} (f : LineRejection)
    → good ≡ holds → needed good f ≡ Ok u → Judges tests r → Judges (Need holds g ∷ tests) r
unfolding tested
passes {good} f t h K = record { same = λ d. rw (sym t ∙ need-right good f h, tested) (K.same d) }

pub stops-at : {good holds : Bool} {e : LineRejection} {g : LineRejection'} {tests : List Test} (f : LineRejection)
    → good ≡ holds → fault_of f ≡ g → needed good f ≡ Err e → Judges (Need holds g ∷ tests) (Err e)
unfolding tested judged
stops-at {good} {e = e} f t q h =
    let n = need-wrong good f e h in
    record { same = λ d. rw (sym t ∙ n.0, tested) (ap Wrong (sym q ∙ ap fault_of n.1)) }

pub passed : {u : Unit {0}} → Judges [] (Ok u)
unfolding tested judged
passed = record { same = λ d. refl }

-- a last test
pub last : {good holds : Bool} {g : LineRejection'} (f : LineRejection) → good ≡ holds → fault_of f ≡ g → (r : Result (Unit {0}) LineRejection) → r ≡ needed good f
    → Judges (Need holds g ∷ []) r
last f t q (Ok u) e = passes f t (sym e) passed
last f t q (Err x) e = stops-at f t q (sym e)

-- an error in place of what is not there
pub absent : {A : Type 0} (o : Option A) (e f : LineRejection) → o ≡ None → Err e ≡ ok_or o f → e ≡ f
absent o e f n h = let q = rw n at h in cc

-- what holds in any case
pub always : {P : Type 0} → P → (r : Result (Unit {0}) LineRejection) → IfOk r (λ _. P)
always p (Ok u) = p
always p (Err f) = tt

-- ---- tests behind others

not-next : {X : Type 0} {g : LineRejection'} {d : Draft'} → Wrong g ≡ Next d → X
not-next e = let z : ⊥ = cc in absurd z

tested-then : (xs ys : List Test) (d : Draft') → tested xs d ≡ Next d → tested (xs ++ ys) d ≡ tested ys d
unfolding tested
tested-then [] ys d h = refl
tested-then (Need good g ∷ xs) ys d h =
    test good
    (λ e. rw (e, tested) (tested-then xs ys d (rw (e, tested) at h)))
    (λ e. not-next (rw (e, tested) at h))

tested-stop : (xs ys : List Test) (d : Draft') (g : LineRejection') → tested xs d ≡ Wrong g → tested (xs ++ ys) d ≡ Wrong g
unfolding tested
tested-stop [] ys d g h = not-next (sym h)
tested-stop (Need good k ∷ xs) ys d g h =
    test good
    (λ e. rw (e, tested) (tested-stop xs ys d g (rw (e, tested) at h)))
    (λ e. rw (e, tested) (rw (e, tested) at h))

pub goes_on : {xs ys : List Test} {r : Result (Unit {0}) LineRejection} {u : Unit {0}} → Judges xs (Ok u) → Judges ys r → Judges (xs ++ ys) r
unfolding judged
goes_on {xs} {ys} K L = record { same = λ d. tested-then xs ys d (K.same d) ∙ L.same d }

pub stops : {xs : List Test} {f : LineRejection} (ys : List Test) → Judges xs (Err f) → Judges (xs ++ ys) (Err f)
unfolding judged
stops {xs} {f} ys K = record { same = λ d. tested-stop xs ys d (fault_of f) (K.same d) }
