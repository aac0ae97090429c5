-- Packed words as maps on agents 1, 2, ..
use Rattle.std.specs.Prelude.{ℕ, zero, suc, ◌+◌, ◌*◌, ◌-◌, ◌/◌, ◌%◌, ◌^◌, ◌≤◌, ◌≡◌, Bool, true, false, cond, Option, Some, None}
use Rattle.model_base.specs.Finite.{at, from_one, lowest, sum}
use Rattle.model_base.specs.Sets.{members}
use Rattle.model_agent.specs.Message.{Assignment, known}
use Rattle.model_agent.specs.Shape.{max_named}

-- field k of x, from 0, of s bits
unfoldable pub field : ℕ → ℕ → ℕ → ℕ
field s x k = x / 2 ^ (s * k) % 2 ^ s

-- x with v put in for its s bits from bit p on
unfoldable pub exchanged : ℕ → ℕ → ℕ → ℕ → ℕ
exchanged s p x v = x - x / 2 ^ p % 2 ^ s * 2 ^ p + v * 2 ^ p

-- digit k of x in base 16
unfoldable pub digit : ℕ → ℕ → ℕ
digit x k = x / 16 ^ k % 16

-- the partial assignment of a packed word
unfoldable pub assignment : ℕ → ℕ → ℕ
assignment x = from_one 0 (digit x)

-- an agent's number, 0 for none
unfoldable pub number_of : Option ℕ → ℕ
number_of None = 0
number_of (Some k) = k

-- agent r is the lowest that passes
abbrev pub Lowest : (ℕ → Bool) → ℕ → Type 0
Lowest p r = (lowest max_named 1 p ≡ Some r) × (p r ≡ true) × (1 ≤ r) × (r ≤ 16)

-- how many agents a word names
unfoldable pub naming : ℕ → ℕ
naming x = sum max_named (λ k. cond (known (assignment x k)) 1 0)

-- a step of a walk over word x: the lowest agent that it names, with its digit, and the word without it; none where it names nobody
abbrev pub EntryTaken : ℕ → Option (ℕ × ℕ) → ℕ → Type 0
EntryTaken x None y = x ≡ 0
EntryTaken x (Some e) y = Lowest (λ k. known (assignment x k)) e.0 × (e.1 ≡ assignment x e.0) × (assignment y ≡ at (assignment x) e.0 0)

-- .. and of one over set x
abbrev pub MemberTaken : ℕ → Option ℕ → ℕ → Type 0
MemberTaken x None y = x ≡ 0
MemberTaken x (Some k) y = Lowest (members x) k × (members y ≡ at (members x) k false)

-- two partial assignments have no agent at two values
abbrev pub Compatible : Assignment → Assignment → Type 0
Compatible l r = (k : ℕ) → 1 ≤ k → k ≤ max_named → known (l k) ≡ true → known (r k) ≡ true → l k ≡ r k
