-- Line by line, what is read with what is left comes to the same. Assumes nothing.
use Rattle.std.proofs.Common.{sym, ◌∙◌}
use Rattle.sheet_text_reader.proofs.Walked.{walks-none, walks-one, walks-wrong, ends-cut, ends-early, ends-made}
use Rattle.sheet_text_reader.proofs.lines.read_lines.Goals as goal

pub loop-this-init : goal.loop-this-init
loop-this-init c = walks-none _ _ _

pub returns-in-Err : goal.returns-in-Err
returns-in-Err c = walks-wrong _ _ _ _ _ _ c.loop-this.invariant _ _ c.in-Some.ensures.0 _ _ c.in-Err.ensures

pub loop-this-preserved : goal.loop-this-preserved
loop-this-preserved c = walks-one _ _ _ _ _ _ c.loop-this.invariant _ _ c.in-Some.ensures.0 _ c.in-Some.ensures.1 c.in_default-with_line.ensures

pub returns-then-cut : goal.returns-then-cut
returns-then-cut c = ends-cut _ _ _ _ _ _ c.loop-this.invariant c.in_default.ensures c.if-cut.true

pub returns-then-has_slots : goal.returns-then-has_slots
returns-then-has_slots c =
    ends-made _ _ _ _ _ _ c.loop-this.invariant c.in_default.ensures c.if-cut.false (sym c.has_slots.ensures ∙ c.if-has_slots.true)

pub returns-else-has_slots : goal.returns-else-has_slots
returns-else-has_slots c =
    ends-early _ _ _ _ _ _ c.loop-this.invariant c.in_default.ensures c.if-cut.false (sym c.has_slots.ensures ∙ c.if-has_slots.false)
