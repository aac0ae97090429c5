-- A line is known by its ends.
use Rattle.std.proofs.Common.{◌≡◌, ◌≢◌, true, false, ℕ, eqb, eqb-true, eq-eqb, ne_eqb}
use mathlib.Core.Bool.{and-false}
use Rattle.model_base.proofs.Tests.{both}
use Rattle.model_network.specs.Run.{Line, is_line}

pub line-ends : (x y : ℕ) (d : Line) → is_line x y d ≡ true → (x ≡ d.from) × (y ≡ d.to)
unfolding is_line
line-ends x y d h =
    let e = both (eqb x d.from) (eqb y d.to) h in (eqb-true x d.from e.0, eqb-true y d.to e.1)

pub is-line : (x y : ℕ) (d : Line) → x ≡ d.from → y ≡ d.to → is_line x y d ≡ true
unfolding is_line
is-line x y d ex ey = rw (eq-eqb x d.from ex, eq-eqb y d.to ey)

pub other_from : (x y : ℕ) (d : Line) → x ≢ d.from → is_line x y d ≡ false
unfolding is_line
other_from x y d ne = rw (ne_eqb x d.from ne)

pub other-to : (x y : ℕ) (d : Line) → y ≢ d.to → is_line x y d ≡ false
unfolding is_line
other-to x y d ne = rw (ne_eqb y d.to ne, and-false)
