-- What is answered for a sheet says what it is decoded to: a problem, or a fault that has the refusal's number.
-- Neither a fault nor a refusal has the number 0.
use Rattle.std.proofs.Common.{Ok, Err, ◌≡◌, refl, sym, ap, ◌∙◌}
use Rattle.model_sheet.specs.Sheet.{SheetFault, Decoded, Valid, Invalid, fault_number}
use Rattle.model_sheet.proofs.Checks.{fault-some}
use Rattle.support_rejection.specs.declared.Rejection.{Rejection}
use Rattle.support_rejection.specs.Rejections.{rejection_number}
use Rattle.support_rejection.proofs.Numbers.{refusal-some}
use Rattle.sheet_reader.specs.declared.Problem.{Problem}
use Rattle.sheet_reader.specs.Abstract.{problem_of, Outcome, outcome, outcome_of}

pub valid : (d : Decoded) (o : Outcome) → o ≡ outcome d → o.number ≡ 0 → d ≡ Valid o.problem
unfolding outcome
valid (Valid p) o e z = rw e
valid (Invalid f) o e z = absurd (fault-some f (ap (λ (o : Outcome). o.number) (sym e) ∙ z))

pub accepted : (d : Decoded) (p : Problem) → outcome_of (Ok p) ≡ outcome d → d ≡ Valid (problem_of p)
unfolding outcome_of
accepted d p e = valid d _ e refl

pub refused : (d : Decoded) (r : Rejection) → outcome_of (Err r) ≡ outcome d → (f : SheetFault) × ((d ≡ Invalid f) × (fault_number f ≡ rejection_number r))
unfolding outcome outcome_of
refused (Valid p) r e = absurd (refusal-some r (ap (λ (o : Outcome). o.number) e))
refused (Invalid f) r e = (f, (refl, ap (λ (o : Outcome). o.number) (sym e)))
