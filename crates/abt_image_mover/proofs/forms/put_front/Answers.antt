-- `put_front` puts the form's byte and copies the others behind it.
use Rattle.std.proofs.Common.{refl, arith}
use Rattle.model_image.specs.Bytes.{stretch}
use Rattle.support_buffer.proofs.Puts.{puts_then, puts-as}
use Rattle.abt_image_mover.proofs.Lengths.{stretch-length}
use Rattle.abt_image_mover.proofs.forms.put_front.Goals as goal

pub returns : goal.returns
unfolding stretch
returns c = puts_then c.put.ensures (puts-as (stretch-length 1 543 c.args.s.now (omega arith)) refl c.put_all.ensures)
