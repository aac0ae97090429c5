-- The number that the definitions give for what a call may be refused with: the refusal's, or 0 where it is not refused.
use Rattle.std.specs.Prelude.{ℕ, Option, Some, None}
use Rattle.support_rejection.specs.Rejections.{rejection_number}
use Rattle.support_rejection.specs.declared.Rejection.{Rejection}

abbrev pub rejected_number : Option Rejection → ℕ
rejected_number None = 0
rejected_number (Some e) = rejection_number e
