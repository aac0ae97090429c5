-- The records are added slot by slot. Invariant: those added so far, with those left, come to the same.
use Rattle.std.proofs.Common.{suc, ◌-◌, ◌≡◌}
use Rattle.gate_script.specs.Sheets.{with_bans}
use Rattle.gate_script.proofs.sheets.with_bans.Given as goal

abbrev pub invariant-loop-v : goal.invariant-loop-v
invariant-loop-v l =
    with_bans (suc l.last - l.first) l.i l.first l.j l.w l.initial.o ≡ with_bans (suc l.last - l.v) l.i l.v l.j l.w l.o

abbrev pub decreases-loop-v : goal.decreases-loop-v
decreases-loop-v l = l.last - l.v
