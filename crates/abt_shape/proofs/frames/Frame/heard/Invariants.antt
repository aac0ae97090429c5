-- `heard` is the clause on an agent's links with those above it.
-- From agent j - 1 down. The invariant: what is asked of all is asked of those left.
use Rattle.std.proofs.Common.{ℕ, ◌-◌, ◌≡◌}
use Rattle.model_base.specs.Finite.{all_to}
use Rattle.model_network.specs.Network.{Network as Network'}
use Rattle.model_base.specs.Sets.{members}
use Rattle.abt_shape.specs.Parts.{heard, set_of}
use Rattle.abt_shape.proofs.Clauses.{heard_from}
use Rattle.abt_shape.proofs.frames.Frame.heard.Given as goal

abbrev pub invariant-loop-i : goal.invariant-loop-i
invariant-loop-i l =
    (w : Network') → w.problem.bans ≡ l.bans → ((k x : ℕ) → (w.agents k).informs x ≡ set_of l.self.informs k x) → (w.agents l.j).listens ≡ members l.listens
    → heard w l.j ≡ all_to (l.i - 1) (heard_from w l.j)
