-- The number of each rejection. docs/RULES.md, 'Why a call comes back'.
use Rattle.std.specs.Prelude.{ℕ}
use Rattle.support_rejection.specs.declared.Rejection.{Rejection}
use Rattle.support_rejection.specs.declared.Rejection.TheVariants.{BadLength, BadHeader, BadRecord, Cycle, BadShape, BadNumbers, VerdictStands, EmptyChannel, NoRoom, BadRule, ShortBuffer, BadImage, BadOrdinal, NotSayable}

-- "No rejection has number 9."
abbrev pub rejection_number : Rejection → ℕ
rejection_number BadLength = 1
rejection_number BadHeader = 2
rejection_number BadRecord = 3
rejection_number Cycle = 4
rejection_number BadShape = 5
rejection_number BadNumbers = 6
rejection_number VerdictStands = 7
rejection_number EmptyChannel = 8
rejection_number NoRoom = 10
rejection_number BadRule = 11
rejection_number ShortBuffer = 12
rejection_number BadImage = 13
rejection_number BadOrdinal = 14
rejection_number NotSayable = 15
