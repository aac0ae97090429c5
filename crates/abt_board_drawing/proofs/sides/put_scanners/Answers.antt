-- The lowest scanner that is left is said behind the others.
use Rattle.abt_board_drawing.specs.Text.{scanner_of}
use Rattle.abt_board_drawing.proofs.Saying.{none-said, one-said, all-said}
use Rattle.abt_board_drawing.proofs.Sets.{members-first, members-over}
use Rattle.abt_board_drawing.proofs.sides.put_scanners.Goals as goal

pub loop-k-init : goal.loop-k-init
loop-k-init c = rw c.into_iter-k-iterator.ensures.into_iter_gives none-said

pub loop-k-preserved : goal.loop-k-preserved
loop-k-preserved c = one-said _ c.loop-k.invariant (members-first scanner_of _ _ _ c.in-Some.ensures.steps) c.in_ok-put_scanner.ensures

pub returns : goal.returns
returns c = all-said c.loop-k.invariant (members-over scanner_of _ c.in-None.ensures.steps)
