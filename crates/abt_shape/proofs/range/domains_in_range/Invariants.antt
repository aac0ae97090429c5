-- From the first agent up. The invariant: those before the k-th pass.
use Rattle.std.proofs.Common.{◌≡◌, true}
use Rattle.model_base.specs.Finite.{all_to}
use Rattle.model_sheet.specs.Problem.{Problem, domain_in_range}
use Rattle.abt_shape.proofs.range.domains_in_range.Given as goal

abbrev pub invariant-loop-k : goal.invariant-loop-k
invariant-loop-k l = (p : Problem) → p.count ≡ l.count → p.domains ≡ l.domains → all_to l.k (domain_in_range p) ≡ true
