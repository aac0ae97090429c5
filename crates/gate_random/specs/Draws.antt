-- What is made of a random number.
use Rattle.std.specs.Prelude.{ℕ, ◌%◌, cond, eqb}

-- a number below `below`, and 0 where there is none
unfoldable pub picked : ℕ → ℕ → ℕ
picked state below = cond (eqb below 0) 0 (state % below)
