-- The three parts one behind the other. Assumes nothing.
use Rattle.std.proofs.Common.{arith, length-append}
use Rattle.support_buffer.proofs.Puts.{adds_then}
use Rattle.model_base.specs.Decimal.{line_of, newline}
use Rattle.support_buffer.proofs.append_line.Goals as goal

pub returns : goal.returns
unfolding line_of newline
returns c = record {
  text = adds_then c.put_all.ensures (adds_then c.append_number.ensures.text c.put_all-2.ensures);
  short = simp length-append (omega (arith, c.append_number.ensures.short));
}
