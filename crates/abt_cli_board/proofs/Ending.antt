-- How the program ends, by what it has said.
use Rattle.std.proofs.Common.{◌≡◌, ◌⊎◌, ℕ, List, ◌++◌, Bool, true, false, refl, sym, ◌∙◌, subst, inl, inr, Option, Result, Ok, Err}
use Rattle.std.specs.Result.{result_unwrap_or}
use Rattle.support_cli.specs.Streams.{OutputState, Puts}
use Rattle.support_cli.specs.Answers.{Answer, status_code, status_by, failure_line, prints, Answered}
use Rattle.support_cli.specs.Files.{Held}
use Rattle.support_cli.specs.declared.status.Status.{Status}
use Rattle.support_cli.specs.declared.status.Status.TheVariants.{NotUnderstood}
use Rattle.abt_cli_board.specs.Saying.{Said, SaidOf, cut_short, Gives}

-- the status counts only where no write has failed
by-failing : (f : Bool) (s t : ℕ) → (f ≡ false → s ≡ t) → status_by f s ≡ status_by f t
by-failing true s t h = refl
by-failing false s t h = h refl

module _ (x y err err' : OutputState) (code : ℕ) (failure : Puts (failure_line y.failed) err err') where
  answered : {E : Type 0} (a : Answer) (r : Result Status E) → Said a r x y → code ≡ status_by y.failed (status_code (result_unwrap_or r NotUnderstood))
      → Answered a x y err err' code ⊎ ((n : ℕ) × Answered (cut_short n a) x y err err' code)
  unfolding cut_short prints
  answered a (Ok s) (p, status, quiet) e =
      inl (record {
        output = p;
        errors = subst (λ (t : List ℕ). Puts (t ++ failure_line y.failed) err err') (sym quiet) failure;
        status = e ∙ by-failing y.failed (status_code s) a.status status;
      })
  answered a (Err f) (n, p) e = inr (n, record { output = p; errors = failure; status = e })

  pub gives : {E : Type 0} (answer : Option (List ℕ) → Answer) (held : Held) (r : Result Status E) → SaidOf answer held r x y
      → code ≡ status_by y.failed (status_code (result_unwrap_or r NotUnderstood)) → Gives answer held x y err err' code
  gives answer held r s e = record { file = s.file; read = s.read; answered = answered (answer s.file) r s.kept e }
