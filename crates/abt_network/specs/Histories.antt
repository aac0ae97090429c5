-- What led to a network, and what is promised of it then. docs/RULES.md, 'Rounds and the run': "A list of calls ..".
use Rattle.std.specs.Prelude.{ℕ, ◌≡◌, true, List, [], ◌∷◌, ◌++◌}
use Rattle.model_sheet.specs.Problem.{Problem}
use Rattle.model_sheet.specs.Sheet.{Valid, decode}
use Rattle.model_network.specs.Network.{Network, start, is_rule}
use Rattle.model_network.specs.Run.{Ending}
use Rattle.theorems_network.specs.Calls.{Call, left_by_all, made_by_all}
use Rattle.theorems_network.specs.Claims.{slots_of, Tells, StandsFor}

-- The network w was reached: the start accepts the rule and the sheet, which says the problem p, and the calls made since leave w.
pub record Reached (rule : ℕ) (sheet : List ℕ) (p : Problem) (calls : List Call) (w : Network) : Type 0 where
  pub rule_good : is_rule rule ≡ true
  pub said : decode sheet ≡ Valid p
  pub left : w ≡ left_by_all calls (start rule p)

-- by this rule and this sheet, with no call made
abbrev pub Begun : ℕ → List ℕ → Network → Type 0
Begun rule sheet w = (p : Problem) × Reached rule sheet p [] w

-- so it is behind every rule, sheet and list of calls by which w was reached
abbrev pub Behind : Network → (ℕ → List ℕ → Problem → List Call → Type 0) → Type 0
Behind w C = (rule : ℕ) (sheet : List ℕ) (p : Problem) (calls : List Call) → Reached rule sheet p calls w → C rule sheet p calls

-- The next network is reached by the same rule and sheet, with this call made behind the others.
abbrev pub GoesOn : Call → Network → Network → Type 0
GoesOn c w next = Behind w (λ rule sheet p calls. Reached rule sheet p (calls ++ (c ∷ [])) next)

-- A run on w tells of the problem by its word, its full rounds and the slots that it leaves. The runs before it returned so many full rounds, which count
-- with its own.
abbrev pub RunTells : Network → Ending → ℕ → Network → Type 0
RunTells w word made next = Behind w (λ rule sheet p calls. Tells p (made_by_all calls (start rule p)) word made (slots_of next))

-- The next network tells of the problem by itself: at rest with no verdict its slots obey all bans, and under a verdict no choice of slots does.
abbrev pub Stands : Network → Network → Type 0
Stands w next = Behind w (λ rule sheet p calls. StandsFor p next)
