-- The records are added slot by slot. Invariant: those added so far, with those left, come to the same.
use Rattle.std.proofs.Common.{sym, ◌∙◌, arith}
use Rattle.gate_script.proofs.Building.{no-bans, ban-more, last-ban}
use Rattle.gate_script.proofs.sheets.with_bans.Goals as goal

pub loop-v-preserved : goal.loop-v-preserved
loop-v-preserved c =
    let l = c.loop-v in
    rw c.with_ban-o.ensures (l.invariant ∙ ban-more _ _ _ _ l.o l.v c.loop-v-test.true)

pub returns : goal.returns
returns c = let l = c.loop-v in sym (l.invariant ∙ no-bans _ _ _ _ l.o l.v c.loop-v-test.false)

pub returns-2 : goal.returns-2
returns-2 c =
    let l = c.loop-v in
    rw c.with_ban-o.ensures (sym (l.invariant ∙ last-ban _ _ _ _ l.o l.v c.loop-v-test.true (omega arith)))
