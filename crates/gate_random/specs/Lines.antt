-- The 132 lines by their numbers, from 0: by sender, then receiver. What waits on them is read off the rows of counts, one for each sender.
use Rattle.std.specs.Prelude.{ℕ, zero, suc, ◌+◌, ◌-◌, ◌/◌, ◌%◌, ◌<◌, ◌≡◌, Bool, true, cond, ◌&&◌, List, Option, Some, None, eqb, ltb, get_or}
use Rattle.abt_packed.specs.Packed.{assignment}

-- the sender of a line: each has eleven
unfoldable pub sender_of : ℕ → ℕ
sender_of line = line / 11 + 1

-- its receiver: the sender itself is passed over
unfoldable pub receiver_of : ℕ → ℕ
receiver_of line = cond (ltb (line % 11 + 1) (sender_of line)) (line % 11 + 1) (line % 11 + 1 + 1)

-- how many messages wait on a line
unfoldable pub held_on : List ℕ → ℕ → ℕ
held_on counts line = assignment (get_or counts (sender_of line - 1) 0) (receiver_of line)

-- nothing waits on the first n lines
unfoldable pub rests_below : ℕ → List ℕ → Bool
rests_below zero counts = true
rests_below (suc n) counts = eqb (held_on counts n) 0 && rests_below n counts

-- nothing waits on any line
unfoldable pub rests_on : List ℕ → Bool
rests_on counts = rests_below 132 counts

-- a search for a line that holds something: one that does, or none where all are at rest
abbrev pub Waiting : List ℕ → Option ℕ → Type 0
Waiting counts (Some line) = (line < 132) × (held_on counts line ≡ 0 → ⊥)
Waiting counts None = (k : ℕ) → k < 132 → held_on counts k ≡ 0
