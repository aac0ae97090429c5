-- What is said, with what is to be said of the scanners that are left, is what is said of the whole word.
use Rattle.model_agent.specs.Message.{known}
use Rattle.abt_packed.specs.Packed.{assignment}
use Rattle.abt_board_drawing.specs.Text.{of_each, pair}
use Rattle.abt_board_drawing.proofs.Saying.{Says}
use Rattle.abt_board_drawing.proofs.sides.put_left_side.Given as goal

abbrev pub invariant-loop-k : goal.invariant-loop-k
invariant-loop-k l =
    Says l.initial.out.items (of_each (λ k. known (assignment l.fn.l.digits k)) (λ k. pair k (assignment l.fn.l.digits k)))
    l.out.items (of_each (λ k. known (assignment l.k-iterator.0 k)) (λ k. pair k (assignment l.k-iterator.0 k)))
