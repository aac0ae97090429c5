-- The code's table has its letters lent; the definition's has the letters themselves.
use Rattle.std.proofs.Common.{ℕ, ◌≡◌, refl, List, [], ◌∷◌, map, eqb}
use Rattle.std.specs.Borrow.{Bor}
use Rattle.std.specs.List.{starts_with}
use Rattle.model_base.proofs.Tests.{test}
use Rattle.gate_script.specs.declared.kinds.Kind.{Kind}
use Rattle.gate_script.specs.Kinds.{first_of, first_in}

abbrev pub row_of : Bor (List ℕ) × Kind → List ℕ × Kind
row_of row = (row.0.now, row.1)

pub same-first : (line : List ℕ) (rows : List (Bor (List ℕ) × Kind)) → first_in rows line ≡ first_of (map row_of rows) line
unfolding first_in first_of
same-first line [] = refl
same-first line (row ∷ rows) =
    test (starts_with eqb line row.0.now) (λ e. rw e) (λ e. rw e (same-first line rows))
