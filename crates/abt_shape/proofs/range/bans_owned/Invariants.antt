-- From the first agent up. The invariant: those before the k-th pass.
use Rattle.std.proofs.Common.{ℕ, pred, ◌≡◌, Bool, true, get_or}
use Rattle.model_base.specs.Finite.{all_to}
use Rattle.model_sheet.specs.Problem.{Problem, domain, word_at, word_owned}
use Rattle.abt_shape.proofs.range.bans_owned.Given as goal

abbrev pub words : Problem → ℕ → Bool
words p j = all_to (pred j) (λ i. word_owned (domain p i) (domain p j) (get_or p.bans (word_at i j) 0))

abbrev pub invariant-loop-k : goal.invariant-loop-k
invariant-loop-k l = (p : Problem) → p.domains ≡ l.domains → p.bans ≡ l.bans → all_to l.k (words p) ≡ true
