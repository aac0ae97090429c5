-- How often a round visits a channel: where it visits it at all, as often as messages wait on it.
use Rattle.std.proofs.Common.{◌≡◌, refl, sym, false, List, ℕ, ◌≤◌, arith, length, replicate}
use Rattle.model_base.specs.Finite.{gather}
use Rattle.model_base.proofs.Counting.{count_if, count-hits, count-misses, gather-least, gather-most}
use Rattle.model_network.specs.Network.{Network}
use Rattle.model_network.specs.Run.{Line, visits, is_line}
use Rattle.theorems_shape.proofs.Lines.{is-line, other_from, other-to}

-- the visits of one channel, and of one sender's
visit : Network → ℕ → ℕ → List Line
visit w i j = replicate (length (w.channel i j)) (record { from = i; to = j })

sender : Network → ℕ → List Line
sender w i = gather w.problem.count 1 (visit w i)

own : (w : Network) (i j : ℕ) → count_if (is_line i j) (visit w i j) ≡ length (w.channel i j)
unfolding visit
own w i j =
    let l : Line = record { from = i; to = j } in
    count-hits (is_line i j) l (length (w.channel i j)) (is-line i j l refl refl)

other : (w : Network) (i j x y : ℕ) → is_line i j (record { from = x; to = y }) ≡ false → count_if (is_line i j) (visit w x y) ≡ 0
unfolding visit
other w i j x y h = count-misses (is_line i j) (record { from = x; to = y }) (length (w.channel x y)) h

-- no more often than messages wait on it
pub visits-most : (w : Network) (i j : ℕ) → count_if (is_line i j) (visits w) ≤ length (w.channel i j)
unfolding visits visit sender
visits-most w i j =
    omega (
      arith,
      own w i j,
      gather-most (is_line i j) n 1 j (visit w i) (λ y d. other w i j i y (other-to i j _ (λ e. d (sym e)))),
      gather-most (is_line i j) n 1 i (sender w) (λ x d. nothing x (λ y. other w i j x y (other_from i j _ (λ e. d (sym e))))),
    )
  where
    n : ℕ
    n = w.problem.count

    nothing : (x : ℕ) → ((y : ℕ) → count_if (is_line i j) (visit w x y) ≡ 0) → count_if (is_line i j) (sender w x) ≡ 0
    nothing x z = omega (arith, gather-most (is_line i j) n 1 0 (visit w x) (λ y e. z y), z 0)

-- and as often, between agents of the problem
pub visits-least : (w : Network) (i j : ℕ) → 1 ≤ i → i ≤ w.problem.count → 1 ≤ j → j ≤ w.problem.count
    → length (w.channel i j) ≤ count_if (is_line i j) (visits w)
unfolding visits visit sender
visits-least w i j li hi lj hj =
    omega (
      arith,
      own w i j,
      gather-least (is_line i j) w.problem.count 1 j (visit w i) lj (omega arith),
      gather-least (is_line i j) w.problem.count 1 i (sender w) li (omega arith),
    )
