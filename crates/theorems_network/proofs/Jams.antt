-- The word of a run. A run ends `jammed` exactly where its last round was whole and delivered nothing while something waits: it goes on after a round
-- only if that delivered something, and nothing but a verdict stops a round. It ends `open` only with its rounds used.
use Rattle.std.proofs.Common.{◌≡◌, sym, ◌∙◌, ◌≢◌, ⊎_elim, Bool, true, false, ◌||◌, List, [], ◌∷◌, ◌++◌, ℕ, arith, length-append, eqb-true, eq-eqb}
use mathlib.Core.Bool.{false≢true}
use mathlib.Core.List.{concat-ne-nil, append-ne-nil_of_right_ne-nil, cons-ne-nil}
use Rattle.model_base.proofs.Tests.{test, or_cases}
use Rattle.model_base.proofs.Lists.{All, All-append, All-right, All-before, snoc-eq}
use Rattle.model_network.specs.Network.{Network}
use Rattle.model_network.specs.Shape.{in_shape}
use Rattle.model_network.specs.Run.{idle, stopped, round, Ending, Unsolvable, Plan, Jammed, Open, Broken, Round, ending_at, finish, is_stuck, allowed, run}
use Rattle.theorems_shape.proofs.Shape.{round_keeps}
use Rattle.theorems_shape.proofs.Runs.{round_of, GoesOnKeeping, Ends, rests, used, stops, run_ends}
use Rattle.theorems_network.specs.Calls.{DeliveredNothing}
use Rattle.theorems_network.specs.Claims.{StoodStill, JammedExactly, NoneAfterNothing, UsesRounds, RoundsUsed}
use Rattle.theorems_network.proofs.Replay.{FollowsRounds, rounds-none, rounds-more}
use Rattle.theorems_network.proofs.Standing.{not_stopped, nothing-moves, nothing-delivered, delivered-nothing}

-- ---- words

-- the word where a run ends with no verdict while something waits
abbrev word_of : Bool → Ending
word_of stuck = elim stuck [ true ↦ Jammed | false ↦ Open ]

says : (w : Network) (stuck : Bool) → w.unsolvable ≡ false → idle w ≡ false → ending_at w stuck ≡ word_of stuck
unfolding ending_at
says w stuck v i = rw (v, ending_at, i)

-- .. and a word that is neither `none` nor `plan` is this one
said : (w : Network) (stuck : Bool) (e : Ending) → ending_at w stuck ≡ e → Unsolvable ≢ e → Plan ≢ e
    → (w.unsolvable ≡ false) × (idle w ≡ false) × (word_of stuck ≡ e)
unfolding ending_at
said w stuck e h a b =
    test w.unsolvable
    (λ v. absurd (a (rw (v, ending_at) at h)))
    (λ v. test (idle w) (λ i. absurd (b (rw (v, ending_at, i) at h))) (λ i. (v, i, rw (v, ending_at, i) at h)))

jams : (w : Network) (stuck : Bool) → ending_at w stuck ≡ Jammed → (w.unsolvable ≡ false) × (idle w ≡ false) × (word_of stuck ≡ Jammed)
jams w stuck e = said w stuck Jammed e (λ q. false≢true cc) (λ q. false≢true cc)

opens : (w : Network) (stuck : Bool) → ending_at w stuck ≡ Open → (w.unsolvable ≡ false) × (idle w ≡ false) × (word_of stuck ≡ Open)
opens w stuck e = said w stuck Open e (λ q. false≢true cc) (λ q. false≢true cc)

not-jammed : Open ≡ Jammed → ⊥
not-jammed q = false≢true cc

-- not `open` at rest
rest-open : (w : Network) → w.unsolvable || idle w ≡ true → ending_at w false ≡ Open → ⊥
rest-open w h o =
    let q = opens w false o in
    ⊎_elim (λ v. false≢true (sym q.0 ∙ v)) (λ i. false≢true (sym q.1 ∙ i)) (or_cases w.unsolvable (idle w) h)

-- ---- along a run

record Going (w₀ : Network) (made : ℕ) (rounds : List Round) (w : Network) : Type 0 where
  shape : in_shape w ≡ true
  follows : FollowsRounds w₀ rounds w
  moved : All (λ r. DeliveredNothing r → ⊥) rounds

going-none : (w : Network) → in_shape w ≡ true → Going w 0 [] w
going-none w s = record { shape = s; follows = rounds-none w; moved = tt }

going_more : (w₀ : Network) → GoesOnKeeping (Going w₀)
unfolding is_stuck
going_more w₀ made rounds w v i f G =
    record {
      shape = round_keeps w G.shape;
      follows = rounds-more w₀ w rounds G.follows;
      moved = All-append _ rounds (round_of w ∷ []) G.moved
          (λ n. false≢true (sym f ∙ eq-eqb _ _ (nothing-delivered w n)), tt);
    }

module _ (k : ℕ) (w : Network) where
  abbrev How : Type 0
  How = Ends (Going w) (allowed k) (run k w)

  how : in_shape w ≡ true → How
  how s = run_ends (Going w) (going_more w) k w s (going-none w s)

  -- ---- `jammed`

  stood-still : How → (run k w).ending ≡ Jammed → StoodStill k w
  unfolding finish stopped is_stuck
  stood-still (rests made rounds w' G _ _ e) j = absurd (not-jammed (jams w' false (rw e at j)).2)
  stood-still (used made rounds w' G _ e) j = absurd (not-jammed (jams w' false (rw e at j)).2)
  stood-still (stops made rounds w' G _ _ f _ e) j =
      let h = jams (round w').network true (rw e at j) in
      record {
        before = rounds;
        last = round_of w';
        rounds = rw e;
        whole = rw G.follows.leaves (not_stopped w' G.shape h.0);
        nothing = delivered-nothing w' (eqb-true _ _ f);
        waits = rw e h.1;
      }

  says-jammed : How → StoodStill k w → (run k w).ending ≡ Jammed
  unfolding finish
  says-jammed (rests made rounds w' G _ _ e) S =
      absurd ((All-right _ S.before (S.last ∷ []) (rw (rw e at S.rounds) at G.moved)).0 S.nothing)
  says-jammed (used made rounds w' G _ e) S =
      absurd ((All-right _ S.before (S.last ∷ []) (rw (rw e at S.rounds) at G.moved)).0 S.nothing)
  says-jammed (stops made rounds w' G v i f _ e) S =
      let q = snoc-eq rounds S.before (round_of w') S.last (rw e at S.rounds) in
      let same = nothing-moves w' (rw q.1 S.nothing) in
      rw e (says (round w').network true (rw same v) (rw same i))

  -- ---- no round after one that delivered nothing

  none_after : How → (before : List Round) (r next : Round) (others : List Round) → (run k w).rounds ≡ before ++ (r ∷ next ∷ others)
      → DeliveredNothing r → ⊥
  unfolding finish
  none_after (rests made rounds w' G _ _ e) before r next others q n =
      (All-right _ before (r ∷ next ∷ others) (rw (rw e at q) at G.moved)).0 n
  none_after (used made rounds w' G _ e) before r next others q n =
      (All-right _ before (r ∷ next ∷ others) (rw (rw e at q) at G.moved)).0 n
  none_after (stops made rounds w' G _ _ _ _ e) before r next others q n =
      All-before _ rounds before (round_of w') r next others G.moved (rw e at q) n

  -- ---- `open`

  uses-rounds : How → UsesRounds k w
  unfolding finish
  uses-rounds (rests made rounds w' G h l e) = record { most = rw e l; all = λ o. absurd (rest-open w' h (rw e at o)) }
  uses-rounds (used made rounds w' G l e) = record { most = rw e (omega arith); all = λ _. rw e l }
  uses-rounds (stops made rounds w' G _ _ f l e) =
      record {
        most = rw e (omega (arith, length-append rounds (round_of w' ∷ [])));
        all = λ o. absurd (not-jammed (sym (opens (round w').network true (rw e at o)).2));
      }

-- ---- of every network: one that is not in shape is rejected, with no round made

pub jammed-exactly : JammedExactly
unfolding run
jammed-exactly k w =
    test (in_shape w)
    (λ s. (stood-still k w (how k w s), says-jammed k w (how k w s)))
    (λ s. (
      λ j. let q : Broken ≡ Jammed = rw (s, run) at j in absurd (false≢true cc),
      λ S. absurd (concat-ne-nil S.last S.before (sym (rw (s, run) at S.rounds))),
    ))

pub none-after-nothing : NoneAfterNothing
unfolding run
none-after-nothing k w before r next others q n =
    test (in_shape w)
    (λ s. none_after k w (how k w s) before r next others q n)
    (λ s. append-ne-nil_of_right_ne-nil before (cons-ne-nil r (next ∷ others)) (sym (rw (s, run) at q)))

pub rounds-used : RoundsUsed
unfolding run
rounds-used k w =
    test (in_shape w)
    (λ s. uses-rounds k w (how k w s))
    (λ s. record {
      most = rw (s, run) (omega arith);
      all = λ o. let q : Broken ≡ Open = rw (s, run) at o in absurd (false≢true cc);
    })
