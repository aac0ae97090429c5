-- The work left of a run, between two rounds (`onward`) and within one (`further`): each step of the code goes from one such description to the next,
-- and all stay equal to the run.
use Rattle.std.proofs.Common.{ℕ, zero, suc, ◌+◌, Bool, true, false, ◌||◌, ◌≡◌, refl, sym, ap, ◌∙◌, List, [], ◌∷◌, ◌++◌, arith, eqb, length, replicate, ne_eqb}
use Rattle.model_base.proofs.Tests.{or_left, or_right, or-false-both}
use Rattle.model_network.specs.Network.{Network}
use Rattle.model_network.specs.Shape.{in_shape}
use Rattle.model_network.specs.Delivery.{deliver}
use Rattle.model_network.specs.Run.{
  Line,
  idle,
  visits,
  Sweep,
  begin_round,
  stopped,
  passed_over,
  tally,
  skipped,
  attempt,
  sweep,
  round,
  is_full,
  Round,
  Ran,
  finish,
  one_if,
  is_stuck,
  run_from,
}
use Rattle.theorems_shape.proofs.RunFaults.{Supplied, attempt-supplied}

-- after a round, stuck or not
unfoldable pub onward : Bool → ℕ → ℕ → List Round → Network → Ran
onward stuck left made rounds w = elim stuck [ true ↦ finish w made rounds true | false ↦ run_from left made rounds w ]

-- a round as the run records it
abbrev pub recorded : ℕ → Sweep → Round
recorded waited s = record { tried = s.tried; full = eqb s.delivered waited }

-- after a round at whose start so many waited, with the rounds that are then recorded
abbrev pub further : ℕ → ℕ → ℕ → (Sweep → List Round) → Sweep → Ran
further left made waited after t =
    onward (is_stuck t) left (made + one_if (eqb t.delivered waited)) (after t) t.network

-- a verdict stands, the round was stuck, nothing waits, or no round is left
pub stops : (stuck : Bool) (left made : ℕ) (rounds : List Round) (w : Network) → w.unsolvable || stuck || idle w || eqb left 0 ≡ true
    → onward stuck left made rounds w ≡ finish w made rounds stuck
unfolding onward run_from
stops true left made rounds w h = refl
stops false zero made rounds w h = refl
stops false (suc left) made rounds w h = rw (still, run_from)
  where
    plain : (v b : Bool) → v || false || b || eqb (suc left) 0 ≡ v || b
    plain true b = refl
    plain false true = refl
    plain false false = ne_eqb (suc left) 0 (λ e. absurd (omega arith))

    still : w.unsolvable || idle w ≡ true
    still = sym (plain w.unsolvable (idle w)) ∙ h

-- a round begins
pub goes_on : (stuck : Bool) (left k made : ℕ) (rounds : List Round) (w : Network) → left ≡ suc k → w.unsolvable || stuck || idle w || eqb left 0 ≡ false
    → onward stuck left made rounds w
    ≡ further k made (length (visits w)) (λ t. rounds ++ (recorded (length (visits w)) t ∷ [])) (sweep (begin_round w) (visits w))
unfolding onward run_from round is_full idle
goes_on stuck left k made rounds w e h =
    let a = (or-false-both (w.unsolvable || stuck || idle w) _ h).0 in
    let b = or-false-both (w.unsolvable || stuck) _ a in
    let c = or-false-both w.unsolvable stuck b.0 in
    let q : w.unsolvable || idle w ≡ false = rw (c.0, b.1) in
    rw (c.1, e, q, run_from)

-- ---- one visit

passes : (s : Sweep) (l : Line) → stopped s ≡ true → attempt s l ≡ s
unfolding attempt skipped
passes s l e = let k : skipped s l ≡ true = or_left (stopped s) (passed_over s l) e in rw (k, attempt)

-- after a verdict all are passed over
pub sweep-stopped : (s : Sweep) → stopped s ≡ true → (ls : List Line) → sweep s ls ≡ s
unfolding sweep
sweep-stopped s e [] = refl
sweep-stopped s e (l ∷ ls) = ap (λ (t : Sweep). sweep t ls) (passes s l e) ∙ sweep-stopped s e ls

pub tries : (s : Sweep) (l : Line) → stopped s ≡ false → passed_over s l ≡ false → attempt s l ≡ tally s l (deliver s.network l.from l.to)
unfolding attempt skipped
tries s l e o = let k : skipped s l ≡ false = rw (e, o) in rw (k, attempt)

-- ---- the rest of a line that is passed over

module _ (s : Sweep) (l : Line) (e : passed_over s l ≡ true) where
  over : attempt s l ≡ s
  unfolding attempt skipped
  over = let k : skipped s l ≡ true = or_right (stopped s) (passed_over s l) e in rw (k, attempt)

  pub sweep-over : (k : ℕ) (ls : List Line) → sweep s (replicate k l ++ ls) ≡ sweep s ls
  unfolding sweep
  sweep-over zero ls = refl
  sweep-over (suc k) ls = ap (λ (t : Sweep). sweep t (replicate k l ++ ls)) over ∙ sweep-over k ls

  pub supplied-over : (k : ℕ) (ls : List Line) → in_shape s.network ≡ true → Supplied (replicate k l ++ ls) s.network → Supplied ls s.network
  supplied-over zero ls h f = f
  supplied-over (suc k) ls h f =
      supplied-over k ls h (rw (ap (λ (t : Sweep). t.network) over) at (attempt-supplied s l (replicate k l ++ ls) h f))
