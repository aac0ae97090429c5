-- What an answer tells: a run ends `plan` only at rest with no verdict, and `none` only under one, so its word tells what its network does.
-- The network of one call more is that of a longer list of calls, of which the claims about lists of calls speak.
use Rattle.std.proofs.Common.{◌≡◌, refl, sym, ◌∙◌, Bool, true, false, ◌||◌, List, [], ◌∷◌, ◌++◌, ℕ, zero, suc, ◌+◌, arith}
use mathlib.Core.Bool.{false≢true}
use Rattle.model_base.proofs.Tests.{test}
use Rattle.model_sheet.specs.Problem.{Problem}
use Rattle.model_network.specs.Network.{Network, start}
use Rattle.model_network.specs.Shape.{in_shape}
use Rattle.model_network.specs.Run.{idle, round, is_stuck, Ending, Unsolvable, Plan, Jammed, Open, Broken, ending_at, Round, Ran, finish, allowed, run_from, run}
use Rattle.theorems_network.specs.Calls.{Call, Deliver, Run, left_by, made_by, left_by_all, made_by_all}
use Rattle.theorems_network.specs.Claims.{SoundAtRest, CompleteVerdict, RunBound, slots_of, RunTells, StandsFor, DeliveryTells}

-- ---- the word of a run

record Word (x : Ran) : Type 0 where
  plan : x.ending ≡ Plan → (x.network.unsolvable ≡ false) × (idle x.network ≡ true)
  none : x.ending ≡ Unsolvable → x.network.unsolvable ≡ true

-- neither word
no_word : (x : Ran) (e : Ending) → x.ending ≡ e → (e ≡ Plan → ⊥) → (e ≡ Unsolvable → ⊥) → Word x
no_word x e h p n = record { plan = λ q. absurd (p (sym h ∙ q)); none = λ q. absurd (n (sym h ∙ q)) }

finished : (w : Network) (made : ℕ) (rounds : List Round) (stuck : Bool) → Word (finish w made rounds stuck)
unfolding finish ending_at
finished w made rounds stuck =
    test w.unsolvable
    (λ v. record { plan = λ q. let z : Unsolvable ≡ Plan = rw (v, ending_at) at q in absurd (false≢true cc); none = λ _. v })
    (λ v. test (idle w)
    (λ i. record { plan = λ _. (v, i); none = λ q. let z : Plan ≡ Unsolvable = rw (v, ending_at, i) at q in absurd (false≢true cc) })
    (λ i. test stuck
    (λ s. no_word _ Jammed (rw (v, ending_at, i, s)) (λ q. false≢true cc) (λ q. false≢true cc))
    (λ s. no_word _ Open (rw (v, ending_at, i, s)) (λ q. false≢true cc) (λ q. false≢true cc))))

word-from : (left made : ℕ) (rounds : List Round) (w : Network) → Word (run_from left made rounds w)
unfolding run_from
word-from zero made rounds w = finished w made rounds false
word-from (suc left) made rounds w =
    test (w.unsolvable || idle w)
    (λ t. rw (t, run_from) (finished w made rounds false))
    (λ t. test (is_stuck (round w))
    (λ f. rw (t, run_from, f) (finished (round w).network _ _ true))
    (λ f. rw (t, run_from, f) (word-from left _ _ (round w).network)))

word : (k : ℕ) (w : Network) → Word (run k w)
unfolding run
word k w =
    test (in_shape w)
    (λ s. rw (s, run) (word-from (allowed k) 0 [] w))
    (λ s. no_word _ Broken (rw (s, run)) (λ q. false≢true cc) (λ q. false≢true cc))

-- ---- one call more

behind : List Call → Call → List Call
behind calls c = calls ++ (c ∷ [])

left-more : (calls : List Call) (c : Call) (w : Network) → left_by_all (behind calls c) w ≡ left_by c (left_by_all calls w)
unfolding left_by_all behind
left-more [] c w = refl
left-more (d ∷ calls) c w = left-more calls c (left_by d w)

made-more : (calls : List Call) (c : Call) (w : Network)
    → made_by_all (behind calls c) w ≡ made_by_all calls w + made_by c (left_by_all calls w)
unfolding made_by_all left_by_all behind
made-more [] c w = omega arith
made-more (d ∷ calls) c w = omega (arith, made-more calls c (left_by d w))

module _ (rule : ℕ) (p : Problem) (sound : SoundAtRest rule p) (complete : CompleteVerdict rule p) where
  -- what the claims tell of a network that calls lead to
  stands_for : (calls : List Call) (w : Network) → left_by_all calls (start rule p) ≡ w → StandsFor p w
  unfolding slots_of
  stands_for calls w e =
      record { rest = λ v i. rw e at (sound calls (rw (← e) at v) (rw (← e) at i)); unsolvable = λ v. complete calls (rw (← e) at v) }

  pub delivery_tells : DeliveryTells rule p
  unfolding left_by
  delivery_tells calls i j = stands_for (behind calls (Deliver i j)) _ (left-more calls (Deliver i j) (start rule p))

  pub run_tells : RunBound rule p → RunTells rule p
  unfolding left_by made_by
  run_tells bound calls k =
      let w = left_by_all calls (start rule p) in
      let S : StandsFor p (run k w).network = stands_for (behind calls (Run k)) _ (left-more calls (Run k) (start rule p)) in
      record {
        plan = λ e. let q = (word k w).plan e in S.rest q.0 q.1;
        none = λ e. S.unsolvable ((word k w).none e);
        few = rw (made-more calls (Run k) (start rule p)) at (bound (behind calls (Run k)));
      }
