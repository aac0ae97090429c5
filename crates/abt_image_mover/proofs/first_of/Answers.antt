-- `first_of` makes the first form where the bytes are whole.
use Rattle.std.proofs.Common.{sym, arith}
use Rattle.abt_image_mover.proofs.Parts.{puts_first}
use Rattle.abt_image_mover.proofs.Lengths.{large-long}
use Rattle.abt_image_mover.proofs.first_of.Goals as goal

pub put_large-requires-clause-room : goal.put_large-requires-clause-room
put_large-requires-clause-room c =
    let w = c.is_whole.ensures.0 c.if-not-is_whole.false in
    omega (arith, large-long c.args.s.now w, w.few, w.most)

pub returns-clause-whole : goal.returns-clause-whole
returns-clause-whole c =
    let w = c.is_whole.ensures.0 c.if-not-is_whole.false in
    let put = c.put_large.ensures in
    (omega (arith, put.long, large-long c.args.s.now w, w.few, w.most), puts_first _ _ _ _ put.put (sym put.long))
