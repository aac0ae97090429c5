-- Before line i the lines of the scanners below i stand in the buffer.
use Rattle.std.proofs.Common.{◌+◌, ◌*◌, ◌-◌, ◌≤◌}
use Rattle.model_base.specs.Finite.{gather}
use Rattle.abt_record.specs.Abstract.{network_of}
use Rattle.support_buffer.specs.Puts.{Adds}
use Rattle.abt_dock_text.proofs.Lines.{slot_of}
use Rattle.abt_dock_text.proofs.append_slots.Given as goal

abbrev pub invariant-loop-i : goal.invariant-loop-i
invariant-loop-i l =
    record {
      lines : Adds l.initial.out (gather (l.i - 1) 1 (slot_of (network_of l.r))) l.out;
      few : l.out.at ≤ l.initial.out.at + 55 * (l.i - 1);
      near : l.i ≤ l.r.count + 1;
    }
