-- The slot counts are put one by one. Invariant: those put so far, with those left, come to the same.
use Rattle.std.proofs.Common.{◌+◌, ◌-◌, ◌≤◌, ◌≡◌}
use lib.Seq.{sets}
use Rattle.gate_script.specs.Sheets.{slots_sheet}
use Rattle.gate_script.proofs.Building.{counts_from}
use Rattle.gate_script.proofs.sheets.with_slots.Given as goal

abbrev pub invariant-loop-i : goal.invariant-loop-i
invariant-loop-i l =
    (l.i ≤ 12) × (l.o.length ≡ 24) × ((slots_sheet l.n).bytes ≡ sets l.o.bytes (8 + l.i) (counts_from l.n l.i))

abbrev pub decreases-loop-i : goal.decreases-loop-i
decreases-loop-i l = 12 - l.i
