-- `rows` are the rows of all senders: those of the senders below i are there.
use Rattle.std.proofs.Common.{◌≡◌, refl, ◌∙◌, ◌+◌, ◌-◌, arith, length-set}
use Rattle.abt_shape.proofs.Numbering.{ends}
use Rattle.abt_image_reader.proofs.Rows.{none-sent, one-sent}
use Rattle.abt_image_reader.proofs.lines.rows.Goals as goal

pub loop-i-init : goal.loop-i-init
loop-i-init c = record { long = refl; rowed = none-sent c.args.lines.now _ }

pub loop-i-preserved : goal.loop-i-preserved
loop-i-preserved c =
    let l = c.loop-i in
    let here : l.i - 1 + 1 ≡ l.i = omega arith in
    let more : l.i + 1 - 1 ≡ l.i = omega arith in
    record {
      long = length-set l.rows _ _ ∙ l.invariant.long;
      rowed = rw (more, ← here) (one-sent c.args.lines.now l.rows (l.i - 1) _ (omega arith) l.invariant.rowed (rw here c.row.ensures));
    }

pub returns : goal.returns
returns c = λ i j e. c.loop-i.invariant.rowed i j e (omega (arith, (ends i j e).from-high))
