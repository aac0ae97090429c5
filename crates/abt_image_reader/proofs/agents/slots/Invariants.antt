-- `slots` packs twelve slots, from the last down: what was packed so far.
use Rattle.abt_image_reader.proofs.Digits.{Packing}
use Rattle.abt_image_reader.proofs.agents.slots.Given as goal

abbrev pub invariant-loop-i : goal.invariant-loop-i
invariant-loop-i l = Packing l.s l.i l.word
