-- `write` copies the bytes where there is room.
use Rattle.std.proofs.Common.{sym, arith}
use Rattle.support_buffer.specs.Abstract.{written_of}
use Rattle.abt_image_mover.proofs.Answers.{put-short, put-copied}
use Rattle.abt_image_mover.proofs.write.Goals as goal

pub returns-then-out-s : goal.returns-then-out-s
unfolding written_of
returns-then-out-s c = sym (put-short c.args.s.now c.args.out.now (omega arith))

pub returns : goal.returns
unfolding written_of
returns c = sym (put-copied c.args.s.now c.args.out.now _ (omega arith) c.put.ensures)
