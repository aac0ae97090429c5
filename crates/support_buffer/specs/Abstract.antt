-- What a writer's answer means, with the buffer that it leaves, and what a buffer becomes. A primed name is the definitions'.
use Rattle.std.specs.Prelude.{ℕ, ◌+◌, ◌≤◌, ◌≡◌, List, ◌++◌, length, take, drop, Result, Ok, Err, IfOk}
use Rattle.model_base.specs.Lent.{Written as Written', untouched}
use Rattle.support_rejection.specs.declared.Rejection.{Rejection}
use Rattle.support_rejection.specs.Rejections.{rejection_number}

-- number 0 and the length written, or a refusal's number and 0
unfoldable pub written_of : Result ℕ Rejection → List ℕ → Written'
written_of (Ok n) buffer = record { number = 0; length = n; buffer = buffer }
written_of (Err r) buffer = untouched (rejection_number r) buffer

-- the length written counts bytes of the buffer
abbrev pub InBuffer : Result ℕ Rejection → List ℕ → Type 0
InBuffer w buffer = IfOk w (λ n. (n ≤ length buffer) × (n ≡ length (take n buffer)))

-- these bytes in the buffer from `at` on; the others stay
abbrev pub over : ℕ → List ℕ → List ℕ → List ℕ
over at bytes old = take at old ++ bytes ++ drop (at + length bytes) old
