-- What is said, with what is to be said of the scanners that are left, is what is said of the whole set.
use Rattle.model_base.specs.Sets.{members}
use Rattle.abt_board_drawing.specs.Text.{of_each, scanner_of}
use Rattle.abt_board_drawing.proofs.Saying.{Says}
use Rattle.abt_board_drawing.proofs.sides.put_scanners.Given as goal

abbrev pub invariant-loop-k : goal.invariant-loop-k
invariant-loop-k l = Says l.initial.out.items (of_each (members l.set) scanner_of) l.out.items (of_each (members l.k-iterator.0) scanner_of)
