-- Before line i the lines of the scanners below i stand in the buffer.
use Rattle.std.proofs.Common.{◌≡◌, refl, ◌∙◌, [], ◌+◌, ◌-◌, arith}
use Rattle.model_base.specs.Finite.{gather}
use Rattle.abt_record.proofs.Asked.{value-or}
use Rattle.support_buffer.proofs.Puts.{none_left, all_left}
use Rattle.abt_dock_text.proofs.Lines.{slots-more, slots-all}
use Rattle.abt_dock_text.proofs.append_slots.Goals as goal

pub loop-i-init : goal.loop-i-init
unfolding gather
loop-i-init c = record { lines = none_left (all_left _ [] refl (omega arith)) refl; few = omega arith; near = omega arith }

pub append_slot-requires : goal.append_slot-requires
append_slot-requires c = omega (arith, c.loop-i.invariant.lines.kept, c.loop-i.invariant.few, c.requires.room)

pub loop-i-preserved : goal.loop-i-preserved
loop-i-preserved c =
    let h = c.loop-i in
    let done : (h.i + 1) - 1 ≡ h.i = omega arith in
    record {
      lines = rw done (slots-more _ h.i _ h.auto.i h.invariant.lines (c.unwrap_or.ensures ∙ value-or c.value.result ∙ c.value.ensures.1) c.append_slot.ensures.text);
      few = omega (arith, h.invariant.few, c.append_slot.ensures.short, c.append_slot.ensures.text.behind);
      near = omega arith;
    }

pub returns : goal.returns
returns c = let h = c.loop-i in slots-all _ (h.i - 1) h.invariant.lines (omega arith)

pub returns-2 : goal.returns-2
returns-2 c =
    let h = c.loop-i in
    slots-all _ h.i (slots-more _ h.i _ h.auto.i h.invariant.lines (c.unwrap_or.ensures ∙ value-or c.value.result ∙ c.value.ensures.1) c.append_slot.ensures.text) (omega arith)
