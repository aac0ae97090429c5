-- The number that a call answers.
use Rattle.std.specs.Prelude.{ℕ, Result, Ok, Err}
use Rattle.support_rejection.specs.Rejections.{rejection_number}
use Rattle.support_rejection.specs.declared.Rejection.{Rejection}

-- 0, or the number of the rejection
abbrev pub answered_number : {A : Type 0} → Result A Rejection → ℕ
answered_number (Ok x) = 0
answered_number (Err e) = rejection_number e
