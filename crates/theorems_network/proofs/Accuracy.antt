-- Accuracy. At rest each view of an agent listened to is its value, since nothing waits that could correct it, and no value is banned against the
-- view. A verdict falls only where the nogoods of all values of an agent, each implied by the bans, name nobody.
use Rattle.std.proofs.Common.{◌≡◌, inl, inr, ⊎_elim, List, [], Bool, true, false, ℕ, arith, lt-ltb}
use Rattle.model_base.proofs.Tests.{test, to-within}
use Rattle.model_sheet.specs.Problem.{Problem, domain, owns, banned, in_range, Obeys}
use Rattle.model_sheet.proofs.Range.{ranged, banned-linked, banned-inside}
use Rattle.model_agent.specs.Message.{Assignment, known}
use Rattle.model_agent.specs.Sorts.{seen}
use Rattle.model_network.specs.Network.{Network, self_of, bans_of, start}
use Rattle.model_network.specs.Run.{Line}
use Rattle.theorems_network.specs.Calls.{replay}
use Rattle.theorems_network.proofs.Moves.{Linked, Invariant}
use Rattle.theorems_network.proofs.Reached.{reach-all, reached}

-- nothing waits either way: the view is the value
true-view : (informs : Bool) (v u : ℕ) → Linked informs v u [] [] → v ≡ u
unfolding seen
true-view informs v u (inl a) = absurd a
true-view informs v u (inr r) = ⊎_elim (λ e. e) (λ e. absurd e.1) r.1

at_rest : (p : Problem) → in_range p ≡ true → (w : Network) → Invariant p w → ((i j : ℕ) → w.channel i j ≡ [])
    → Obeys p (λ i. (w.agents i).value)
unfolding self_of bans_of owns known
at_rest p r w I e =
    record {
      owned = λ i l h. let G = I.good i l h in to-within (domain p i) (w.agents i).value G.low G.high;
      allowed = λ i j. test (banned p i j (w.agents i).value (w.agents j).value) (λ b. absurd (broken i j b)) (λ b. b);
    }
  where
    broken : (i j : ℕ) → banned p i j (w.agents i).value (w.agents j).value ≡ true → ⊥
    broken i j b =
        let (l, h, n) = banned-inside p (ranged p r) i j _ _ b in
        let G = I.good j (omega arith) n in
        let P = rw (e i j, e j i) at (I.links.pair i j (I.links.linked i j (banned-linked p i j _ _ b))) in
        let s = true-view _ ((w.agents j).view i) (w.agents i).value P in
        G.free i (rw s (lt-ltb 0 (w.agents i).value (I.good i l (omega arith)).low), rw s b)

pub rested : (rule : ℕ) (p : Problem) → in_range p ≡ true → (ds : List Line) → (replay ds (start rule p)).unsolvable ≡ false
    → ((i j : ℕ) → (replay ds (start rule p)).channel i j ≡ []) → Obeys p (λ i. ((replay ds (start rule p)).agents i).value)
rested rule p r ds v e = at_rest p r (replay ds (start rule p)) (reached rule p r ds v) e

pub ended : (rule : ℕ) (p : Problem) → in_range p ≡ true → (ds : List Line) → (replay ds (start rule p)).unsolvable ≡ true
    → (σ : Assignment) → Obeys p σ → ⊥
ended rule p r ds v = (reach-all rule p r ds).ended v
