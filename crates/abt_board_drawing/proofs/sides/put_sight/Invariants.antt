-- What is said, with what is to be said of the scanners that are left, is what is said of the whole set.
use Rattle.model_base.specs.Sets.{members}
use Rattle.abt_agent.specs.Abstract.{assigned}
use Rattle.abt_board_drawing.specs.Text.{of_each, seen}
use Rattle.abt_board_drawing.proofs.Saying.{Says}
use Rattle.abt_board_drawing.proofs.sides.put_sight.Given as goal

abbrev pub invariant-loop-k : goal.invariant-loop-k
invariant-loop-k l =
    Says l.initial.out.items (of_each (members l.set) (λ k. seen k (assigned l.view k)))
    l.out.items (of_each (members l.k-iterator.0) (λ k. seen k (assigned l.view k)))
