-- What a call that asks a value answers, where the caller reads a refusal as value 0.
use Rattle.std.proofs.Common.{ℕ, ◌≡◌, refl, Result, Ok, Err}
use Rattle.std.specs.Result.{result_unwrap_or}
use Rattle.support_rejection.specs.declared.Rejection.{Rejection}
use Rattle.abt_record.specs.Asked.{asked_value}

-- the value asked, 0 where it is refused
pub value-or : (r : Result ℕ Rejection) → result_unwrap_or r 0 ≡ asked_value r
value-or (Ok v) = refl
value-or (Err e) = refl
