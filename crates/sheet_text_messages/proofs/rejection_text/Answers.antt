-- The parts of the line one behind the other. Assumes nothing.
use Rattle.std.proofs.Common.{refl, arith}
use Rattle.support_buffer.proofs.Puts.{adds_then}
use Rattle.model_base.specs.Decimal.{newline}
use Rattle.support_buffer.proofs.Appending.{from-start, behind-start}
use Rattle.model_text.specs.Faults.{line_word, colon_word, rejection_text}
use Rattle.sheet_text_messages.proofs.rejection_text.Goals as goal

pub returns-clause-appends : goal.returns-clause-appends
unfolding rejection_text line_word colon_word newline
returns-clause-appends c =
    let words = adds_then c.append_fault.ensures.text c.put_all-3.ensures in
    from-start refl (adds_then c.put_all.ensures (adds_then c.append_number.ensures.text (adds_then c.put_all-2.ensures words)))

pub returns-clause-behind : goal.returns-clause-behind
returns-clause-behind c =
    let words = adds_then c.append_fault.ensures.text c.put_all-3.ensures in
    behind-start refl (adds_then c.put_all.ensures (adds_then c.append_number.ensures.text (adds_then c.put_all-2.ensures words)))

pub returns-clause-short : goal.returns-clause-short
returns-clause-short c =
    let line = c.append_number.ensures in
    let words = c.append_fault.ensures in
    omega (arith, c.put_all.ensures.behind, line.text.behind, line.short, c.put_all-2.ensures.behind, words.text.behind, words.short, c.put_all-3.ensures.behind)
