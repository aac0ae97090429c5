-- A refusal has a number of its own, which is not 0.
use Rattle.std.proofs.Common.{◌≡◌, arith}
use Rattle.support_rejection.specs.declared.Rejection.{Rejection}
use Rattle.support_rejection.specs.declared.Rejection.TheVariants.{BadLength, BadHeader, BadRecord, Cycle, BadShape, BadNumbers, VerdictStands, EmptyChannel, NoRoom, BadRule, ShortBuffer, BadImage, BadOrdinal, NotSayable}
use Rattle.support_rejection.specs.Rejections.{rejection_number}

pub refusal-some : (r : Rejection) → rejection_number r ≡ 0 → ⊥
refusal-some BadLength e = omega arith
refusal-some BadHeader e = omega arith
refusal-some BadRecord e = omega arith
refusal-some Cycle e = omega arith
refusal-some BadShape e = omega arith
refusal-some BadNumbers e = omega arith
refusal-some VerdictStands e = omega arith
refusal-some EmptyChannel e = omega arith
refusal-some NoRoom e = omega arith
refusal-some BadRule e = omega arith
refusal-some ShortBuffer e = omega arith
refusal-some BadImage e = omega arith
refusal-some BadOrdinal e = omega arith
refusal-some NotSayable e = omega arith
