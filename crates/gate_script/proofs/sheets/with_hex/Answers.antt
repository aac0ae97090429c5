-- The bytes that a line gives. Invariant: what is there so far, with what the letters left give, comes to the same.
use Rattle.std.proofs.Common.{sym, ◌∙◌, arith}
use Rattle.gate_script.specs.Sheets.{with_hex}
use Rattle.gate_script.proofs.Reading.{none_left}
use Rattle.gate_script.proofs.Building.{hex-goes, hex-ends}
use Rattle.gate_script.proofs.sheets.with_hex.Goals as goal

pub loop-b-preserved : goal.loop-b-preserved
loop-b-preserved c =
    let l = c.loop-b in rw c.with_pair-o.ensures (l.invariant ∙ hex-goes _ _ l.before l.o c.loop-b-test.true)

pub returns : goal.returns
unfolding with_hex
returns c =
    let l = c.loop-b in
    sym (l.invariant ∙ hex-ends l.before _ l.o (none_left _ _ (omega arith) c.loop-b-test.false))
