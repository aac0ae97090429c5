-- What an agent may count on from a problem in range: its number is one of the problem's, its bans name agents above it, and an assignment that
-- obeys all bans obeys its own.
use Rattle.std.proofs.Common.{◌≡◌, true, ℕ, ◌≤◌, arith}
use Rattle.model_sheet.specs.Problem.{Problem, owns, in_range, Obeys}
use Rattle.model_sheet.proofs.Range.{ranged, banned-inside}
use Rattle.theorems_agent.specs.Facts.{Setting}
use Rattle.model_network.specs.Network.{self_of, bans_of}

pub setting : (rule : ℕ) (p : Problem) → in_range p ≡ true → (i : ℕ) → 1 ≤ i → i ≤ p.count
    → Setting (Obeys p) (self_of rule p i) (bans_of p i)
unfolding self_of bans_of owns
setting rule p r i l h =
    let most = (ranged p r).high in
    record {
      low = l;
      high = omega arith;
      upward = λ k v w b. let q = banned-inside p (ranged p r) k i v w b in (q.0, q.1);
      respects = λ σ S. record { owned = S.owned i l h; obeys = λ k. S.allowed k i };
    }
