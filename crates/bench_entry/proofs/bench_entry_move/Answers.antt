-- What the mover answers, in one number.
use Rattle.bench_entry.proofs.Images.{moves}
use Rattle.bench_entry.proofs.bench_entry_move.Goals as goal

pub returns : goal.returns
returns c = rw c.length_of.ensures (moves _ _ _ c.move_image.ensures.out_after)
