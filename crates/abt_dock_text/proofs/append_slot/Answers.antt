-- The number, then the slot. Assumes nothing.
use Rattle.std.proofs.Common.{sym, arith, length-append}
use Rattle.support_buffer.proofs.Puts.{adds_then}
use Rattle.model_base.specs.Decimal.{decimal, line_of}
use Rattle.abt_dock_text.specs.Text.{slot_line, scanner, slot}
use Rattle.abt_dock_text.proofs.append_slot.Goals as goal

pub returns : goal.returns
unfolding slot_line scanner slot
returns c =
    rw (sym c.from.ensures, sym c.from-2.ensures)
    (record {
      text = adds_then c.put_all.ensures (adds_then c.append_number.ensures.text c.append_line.ensures.text);
      short = omega (arith, length-append (decimal c.from.result) (line_of slot c.from-2.result), c.append_number.ensures.short, c.append_line.ensures.short);
    })
