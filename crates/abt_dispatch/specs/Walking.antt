-- The walk of a search over the lines of n agents, by sender, then receiver: where it stands, and the lines still ahead. A primed name is the definitions'.
use Rattle.std.specs.Prelude.{ℕ, suc, ◌+◌, ◌*◌, ◌-◌, ◌≤◌, ◌<◌, ◌≡◌, cond, List, [], ◌∷◌, ◌++◌, eqb, Option, Some, None, IfSome, MatchOption}
use Rattle.model_base.specs.Finite.{gather}
use Rattle.model_network.specs.Delivery.{deliver}
use Rattle.model_network.specs.Run.{Line as Line'}
use Rattle.model_dispatch.specs.Dispatch.{lines_from}
use Rattle.abt_record.specs.declared.Network.{Network}
use Rattle.abt_record.specs.Abstract.{network_of}
use Rattle.abt_dispatch.specs.declared.Line.{Line}
use Rattle.abt_dispatch.specs.Abstract.{line, line_of}

-- the line from i to j, where it is one
unfoldable pub line_if : ℕ → ℕ → List Line'
line_if i j = cond (eqb i j) [] (line i j ∷ [])

-- the lines of sender i to receiver j and those above it, then the lines of the senders above i
unfoldable pub ahead : ℕ → ℕ → ℕ → List Line'
ahead n i j = gather (suc n - j) j (line_if i) ++ gather (n - i) (suc i) (lines_from n)

-- none where the walk is over
unfoldable pub ahead_of : ℕ → Option Line → List Line'
ahead_of n None = []
ahead_of n (Some l) = ahead n l.from l.to

-- the last line of a walk; no line for one that goes on to the end
unfoldable pub last_line : Option Line → Line'
last_line None = line 0 0
last_line (Some l) = line_of l

-- the walk stands at a sender and a receiver, which may be one
pub record Stands (n : ℕ) (l : Line) : Type 0 where
  pub low : 1 ≤ l.from
  pub high : l.from ≤ n
  pub first : 1 ≤ l.to
  pub last : l.to ≤ n

abbrev pub order : Line → ℕ
order l = 13 * l.from + l.to

-- behind l it goes on to a later one, or is over
pub record NextOf (n : ℕ) (l : Line) (o : Option Line) : Type 0 where
  pub same : ahead n l.from (suc l.to) ≡ ahead_of n o
  pub stands : IfSome o (Stands n)
  pub further : IfSome o (λ m. order l < order m)

-- what a search found: the line served, and the network after its delivery
pub record Found : Type 0 where
  pub line : Line
  pub network : Network

abbrev pub found_in : Option Line → Network → Option Found
found_in None left = None
found_in (Some l) left = Some (record { line = l; network = left })

-- a search on r that finds this line, or none: the line is served
abbrev pub SearchedAs : Network → Option Line' → Option Found → Type 0
SearchedAs r None o = o ≡ None
SearchedAs r (Some l) o = MatchOption o ⊥ (λ f. (line_of f.line ≡ l) × (network_of f.network ≡ (deliver (network_of r) l.from l.to).network))
