-- The lines of n agents: no line stands there twice, each between two agents stands there, and there are at most n (n - 1). Counted by sender, then
-- by receiver.
use Rattle.std.proofs.Common.{◌≡◌, refl, sym, ◌≢◌, true, false, cond, List, [], ◌∷◌, ℕ, ◌*◌, ◌-◌, ◌≤◌, arith, eqb, length, eq-eqb, ne_eqb}
use mathlib.Core.Bool.{and-false}
use Rattle.model_base.specs.Finite.{within}
use Rattle.model_base.proofs.Tests.{test, within-true}
use Rattle.model_base.proofs.Lists.{gather-length, gather-but-one}
use Rattle.model_base.proofs.Counting.{count_if, gather-least, gather-most}
use Rattle.model_network.specs.Run.{Line, is_line}
use Rattle.model_dispatch.specs.Dispatch.{lines_from, lines}
use Rattle.model_dispatch.proofs.Turns.{Once}

-- the line from i to j, where it is one
cell : ℕ → ℕ → List Line
cell i j = cond (eqb i j) [] (record { from = i; to = j } ∷ [])

-- ---- how often a line stands there

cell-most : (a b i j : ℕ) → count_if (is_line a b) (cell i j) ≤ 1
unfolding cell count_if
cell-most a b i j =
    test (eqb i j)
    (λ e. rw e (omega arith))
    (λ e. rw e (test (is_line a b (record { from = i; to = j })) (λ q. rw q (omega arith)) (λ q. rw q (omega arith))))

cell-none : (a b i j : ℕ) → is_line a b (record { from = i; to = j }) ≡ false → count_if (is_line a b) (cell i j) ≡ 0
unfolding cell count_if
cell-none a b i j h = test (eqb i j) (λ e. rw e) (λ e. rw (e, h))

cell-one : (i j : ℕ) → eqb i j ≡ false → count_if (is_line i j) (cell i j) ≡ 1
unfolding cell count_if is_line
cell-one i j h = rw (h, eq-eqb i i refl, eq-eqb j j refl)

other-receiver : (a b i j : ℕ) → j ≢ b → count_if (is_line a b) (cell i j) ≡ 0
unfolding is_line
other-receiver a b i j h = cell-none a b i j (rw (ne_eqb b j (λ e. h (sym e)), and-false))

other-sender : (n a b i : ℕ) → i ≢ a → count_if (is_line a b) (lines_from n i) ≡ 0
unfolding lines_from cell is_line
other-sender n a b i h =
    let none : (j : ℕ) → count_if (is_line a b) (cell i j) ≡ 0 = λ j. cell-none a b i j (rw (ne_eqb a i (λ e. h (sym e)))) in
    omega (arith, gather-most (is_line a b) n 1 0 (cell i) (λ j e. none j), none 0)

pub lines-once : (n : ℕ) → Once (lines n)
unfolding lines lines_from cell
lines-once n l =
    omega (
      arith,
      gather-most (is_line l.from l.to) n 1 l.from (lines_from n) (other-sender n l.from l.to),
      gather-most (is_line l.from l.to) n 1 l.to (cell l.from) (other-receiver l.from l.to l.from),
      cell-most l.from l.to l.from l.to,
    )

pub lines-has : (n : ℕ) (l : Line) → within n l.from ≡ true → within n l.to ≡ true → eqb l.from l.to ≡ false
    → 1 ≤ count_if (is_line l.from l.to) (lines n)
unfolding lines lines_from cell
lines-has n l a b h =
    let i = within-true n l.from a in
    let j = within-true n l.to b in
    omega (
      arith,
      gather-least (is_line l.from l.to) n 1 l.from (lines_from n) i.0 (omega arith),
      gather-least (is_line l.from l.to) n 1 l.to (cell l.from) j.0 (omega arith),
      cell-one l.from l.to h,
    )

-- ---- how many there are

cell-length : (i j : ℕ) → length (cell i j) ≤ 1
unfolding cell
cell-length i j = test (eqb i j) (λ e. rw e (omega arith)) (λ e. rw e (omega arith))

cell-itself : (i : ℕ) → cell i i ≡ []
unfolding cell
cell-itself i = rw (eq-eqb i i refl)

pub lines-length : (n : ℕ) → length (lines n) ≤ n * (n - 1)
unfolding lines lines_from cell
lines-length n =
    gather-length (n - 1) n 1 (lines_from n)
    (λ i l u. omega (arith, gather-but-one n 1 i (cell i) (cell-length i) l u (cell-itself i)))
