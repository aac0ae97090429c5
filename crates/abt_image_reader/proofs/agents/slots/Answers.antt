-- `slots` packs twelve slots, from the last down: what was packed so far.
use Rattle.std.proofs.Common.{arith}
use Rattle.abt_image_reader.proofs.Digits.{room, one-packed, all-packed}
use Rattle.abt_image_reader.proofs.agents.slots.Goals as goal

pub overflow_mul-word : goal.overflow_mul-word
overflow_mul-word c = omega (arith, room _ c.loop-i.i c.loop-i.word c.loop-i-test.true c.loop-i.invariant)

pub overflow_add-word : goal.overflow_add-word
overflow_add-word c = omega (arith, room _ c.loop-i.i c.loop-i.word c.loop-i-test.true c.loop-i.invariant)

pub loop-i-preserved : goal.loop-i-preserved
loop-i-preserved c = rw c.from.ensures (one-packed _ c.loop-i.i c.loop-i.word _ c.loop-i-test.true c.loop-i.invariant c.byte.ensures)

pub returns : goal.returns
returns c = all-packed _ c.loop-i.i c.loop-i.word c.loop-i.invariant (omega arith)
