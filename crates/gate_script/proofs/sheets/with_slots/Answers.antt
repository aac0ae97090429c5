-- The slot counts are put one by one. Invariant: those put so far, with those left, come to the same.
use Rattle.std.proofs.Common.{◌+◌, ◌%◌, sym, ap, ◌∙◌, arith, set, rules}
use lib.Seq.{sets}
use Rattle.gate_script.specs.declared.sheets.Sheet.{Sheet}
use Rattle.gate_script.specs.Sheets.{slots_sheet}
use Rattle.gate_script.proofs.Building.{same-sheet, counts_from, counts-done}
use Rattle.gate_script.proofs.sheets.with_slots.Goals as goal

pub loop-i-init : goal.loop-i-init
unfolding slots_sheet
loop-i-init c =
    let n = c.args.n in (
      search rules,
      search rules,
      ap (λ (s : Sheet). sets (set (set s.bytes 0 (n.count % 256)) 1 1) 8 (counts_from n 0)) (sym c.blank-o.ensures),
    )

pub returns : goal.returns
unfolding slots_sheet
returns c =
    let l = c.loop-i in
    let n = c.args.n in
    let done = l.invariant.2 ∙ ap (sets l.o.bytes (8 + l.i)) (counts-done n (search rules) l.i (omega arith)) in
    same-sheet l.o _ _ (sym done) l.invariant.1
