-- What waits in a reached network waits between agents 1 to n, so that a round visits each channel as often as messages wait on it, and nothing
-- waits at all where nothing waits between 1 to n.
use Rattle.std.proofs.Common.{◌≡◌, refl, sym, true, false, List, [], ◌∷◌, ℕ, ◌≤◌, arith, length, leb, leb-true, leb-false}
use mathlib.Core.Bool.{false≢true}
use Rattle.model_base.proofs.Tests.{test}
use Rattle.model_base.proofs.Lists.{All}
use Rattle.model_base.proofs.Search.{all_to-at, all_to-false}
use Rattle.model_base.proofs.Counting.{count_if}
use Rattle.model_sheet.specs.Problem.{Problem}
use Rattle.model_agent.specs.Message.{Message, Info, Back, AddLink}
use Rattle.model_network.specs.Network.{Network}
use Rattle.model_network.specs.Run.{is_empty, idle, visits, is_line}
use Rattle.theorems_shape.proofs.Visits.{visits-least}
use Rattle.theorems_network.proofs.Moves.{Waits, Invariant}

-- ---- where messages wait

inside : (p : Problem) (w : Network) → Invariant p w → (i j : ℕ) → 1 ≤ length (w.channel i j)
    → ((1 ≤ i) × (i ≤ w.problem.count)) × ((1 ≤ j) × (j ≤ w.problem.count))
inside p w I i j h = rw I.problem (go (w.channel i j) (I.links.waiting i j) h)
  where
    go : (c : List Message) → All (Waits p w.agents i j) c → 1 ≤ length c
        → ((1 ≤ i) × (i ≤ p.count)) × ((1 ≤ j) × (j ≤ p.count))
    go [] a h = absurd (omega arith)
    go (Info v ∷ c) a h = omega (arith, I.links.lower j i a.0)
    go (Back lhs v ∷ c) a h = omega (arith, I.links.lower i j a.0.0)
    go (AddLink ∷ c) a h = omega (arith, I.links.lower i j a.0)

-- ---- how often a channel is visited

pub visits-all : (p : Problem) (w : Network) → Invariant p w → (i j : ℕ) → length (w.channel i j) ≤ count_if (is_line i j) (visits w)
visits-all p w I i j =
    test (leb 1 (length (w.channel i j)))
    (λ h. let (a, b) = inside p w I i j (leb-true 1 (length (w.channel i j)) h) in visits-least w i j a.0 a.1 b.0 b.1)
    (λ h. omega (arith, leb-false 1 (length (w.channel i j)) h))

-- ---- nothing waits, or something

empty-true : (c : List Message) → is_empty c ≡ true → c ≡ []
unfolding is_empty
empty-true [] e = refl
empty-true (m ∷ c) e = cc

pub idle-empty : (p : Problem) (w : Network) → Invariant p w → idle w ≡ true → (i j : ℕ) → w.channel i j ≡ []
unfolding idle
idle-empty p w I e i j = go (w.channel i j) refl
  where
    go : (c : List Message) → w.channel i j ≡ c → w.channel i j ≡ []
    go [] q = q
    go (m ∷ c) q =
        let (a, b) = inside p w I i j (rw q (omega arith)) in
        empty-true (w.channel i j) (all_to-at w.problem.count _ (all_to-at w.problem.count _ e i a.0 a.1) j b.0 b.1)

pub busy-waits : (w : Network) → idle w ≡ false → (i : ℕ) × (j : ℕ) × (1 ≤ length (w.channel i j))
unfolding idle is_empty
busy-waits w e =
    let (i, f) = all_to-false w.problem.count _ e in
    let (j, g) = all_to-false w.problem.count _ f in
    (i, j, go (w.channel i j) g)
  where
    go : (c : List Message) → is_empty c ≡ false → 1 ≤ length c
    go [] e = absurd (false≢true (sym e))
    go (m ∷ c) e = omega arith
