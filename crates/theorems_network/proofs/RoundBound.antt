-- The round bound over lists of tries: however full rounds are marked off in one from a problem's start, they are at most 16 × n × (d + 2)^n.
-- Up to a verdict the list is a window of 0; the try that brings the verdict costs one more round, and after it no try is accepted.
use Rattle.std.proofs.Common.{◌≡◌, refl, ◌⊎◌, inl, inr, List, [], ◌∷◌, true, ℕ, zero, suc, ◌+◌, ◌*◌, ◌^◌, ◌≤◌, mul-le-mul_left, mul-le-mul_right, pow-suc, arith}
use native.Mathlib.Nat.{one-le-pow, pow-zero}
use Rattle.model_base.proofs.Search.{le-greatest}
use Rattle.model_sheet.specs.Problem.{Problem, domain, in_range, largest_domain}
use Rattle.model_sheet.proofs.Range.{ranged}
use Rattle.model_network.specs.Network.{Network, start}
use Rattle.model_network.specs.Run.{Line, one_if}
use Rattle.theorems_network.specs.Calls.{attempt_of, replay, accepted_now, accepted_on}
use Rattle.theorems_network.specs.Claims.{most_rounds}
use Rattle.theorems_network.proofs.Moves.{Invariant, Next, stays, moves, stops}
use Rattle.theorems_network.proofs.Rounds.{Rounds, done, skip, full}
use Rattle.theorems_network.proofs.Windows.{stay, act, Window}
use Rattle.theorems_network.proofs.Bounds.{Bound, Event, Until, onward, rounds-until}
use Rattle.theorems_network.proofs.Counting.{most, windows}
use Rattle.theorems_network.proofs.Shut.{shut, refuses}
use Rattle.theorems_network.proofs.Next.{next}
use Rattle.theorems_network.proofs.Start.{start-invariant}

-- ---- after a verdict

none-accepted : (i j : ℕ) (ds : List Line) (w : Network) → w.unsolvable ≡ true → accepted_on i j ds w ≡ 0
unfolding accepted_on accepted_now one_if
none-accepted i j [] w v = refl
none-accepted i j (d ∷ ds) w v = rw (refuses d w v, shut d w v, one_if) (omega (arith, none-accepted i j ds w v))

no-rounds : (t : ℕ) (ds : List Line) (w : Network) → w.unsolvable ≡ true → Rounds t ds w → t ≡ 0
no-rounds t ds w v done = refl
no-rounds t ds w v (skip {r = r} {d = d} {ds = ds'} {w = w'} R) = no-rounds r ds' _ (rw (shut d w' v) v) R
no-rounds t ds w v (full {w = w'} a b e F R) =
    let (i, j, l) = F.waits in absurd (omega (arith, F.delivers i j, none-accepted i j a w' v))

-- ---- up to the verdict

abbrev Stops : Event
Stops d ds w = (attempt_of d w).network.unsolvable ≡ true

module _ (p : Problem) (q : in_range p ≡ true) where
  abbrev I : Network → Type 0
  I = Invariant p

  running : (ds : List Line) (w : Network) → I w → Window p 0 I ds w ⊎ Until p 0 I Stops ds w
  unfolding replay
  running [] w i = inl i
  running (d ∷ ds) w i = go (next p q d w i) (λ j. running ds _ j)
    where
      w' : Network
      w' = (attempt_of d w).network

      go : Next p d w (attempt_of d w) → (I w' → Window p 0 I ds w' ⊎ Until p 0 I Stops ds w')
          → Window p 0 I (d ∷ ds) w ⊎ Until p 0 I Stops (d ∷ ds) w
      go (stays e f) r = onward p 0 I Stops d ds w i (stay e f) (r (rw e i))
      go (moves _ M j) r = onward p 0 I Stops d ds w i (act M (λ l. absurd (omega (arith, M.to_in.0)))) (r j)
      go (stops _ v _) r = inr record { a = []; d = d; b = ds; cuts = refl; before = i; event = v }

  from_start : (rule T : ℕ) → Bound p 0 I T → (ds : List Line) (r : ℕ) → Rounds r ds (start rule p) → r ≤ T + 1
  from_start rule T B ds r R = go (running ds (start rule p) (start-invariant rule p q))
    where
      go : Window p 0 I ds (start rule p) ⊎ Until p 0 I Stops ds (start rule p) → r ≤ T + 1
      go (inl P) = omega (arith, B ds (start rule p) r P R)
      go (inr U) =
          let (t, Rb, le) = rounds-until p 0 I Stops T B ds (start rule p) r R U in
          omega (arith, le, no-rounds t U.b _ U.event Rb)

-- ---- the numbers

most-power : (n d j : ℕ) → most n d j + 1 ≤ (3 * n + 4) * (d + 2) ^ j
unfolding most
most-power n d zero = rw pow-zero (omega arith)
most-power n d (suc j) =
    let i = mul-le-mul_left (suc d) (most-power n d j) in
    let o = mul-le-mul_left (3 * n + 4) (one-le-pow j (d + 2) (omega arith)) in
    rw pow-suc (omega (arith, i, o))

pub round-bound-lines : (rule : ℕ) (p : Problem) → in_range p ≡ true → (ds : List Line) (r : ℕ) → Rounds r ds (start rule p) → r ≤ most_rounds p
unfolding most_rounds largest_domain
round-bound-lines rule p q ds r R =
    let n = p.count in
    let d = largest_domain p in
    let h = from_start p q rule (most n d n) (windows p d (le-greatest n (domain p)) n 0 (omega arith)) ds r R in
    let s : 3 * n + 4 ≤ 7 * n = omega (arith, (ranged p q).low) in
    omega (arith, h, most-power n d n, mul-le-mul_right ((d + 2) ^ n) s)
