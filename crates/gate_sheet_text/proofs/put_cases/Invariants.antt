-- Line by line, up to the last; a text begins where the line that names the one before it ends.
use Rattle.std.proofs.Common.{◌-◌, ◌≤◌, length}
use Rattle.gate_sheet_text.proofs.put_cases.Given as goal

abbrev pub invariant-loop-at : goal.invariant-loop-at
invariant-loop-at l = (l.begin ≤ l.at) × (l.at ≤ length l.all)

abbrev pub decreases-loop-at : goal.decreases-loop-at
decreases-loop-at l = length l.all - l.at
