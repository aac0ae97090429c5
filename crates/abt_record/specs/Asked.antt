-- What a call that asks a value answers: number 0 and the value, or a refusal's number and value 0.
use Rattle.std.specs.Prelude.{ℕ, Result, Ok, Err}
use Rattle.support_rejection.specs.Rejections.{rejection_number}
use Rattle.support_rejection.specs.declared.Rejection.{Rejection}

abbrev pub asked_number : Result ℕ Rejection → ℕ
asked_number (Ok v) = 0
asked_number (Err e) = rejection_number e

abbrev pub asked_value : Result ℕ Rejection → ℕ
asked_value (Ok v) = v
asked_value (Err e) = 0
