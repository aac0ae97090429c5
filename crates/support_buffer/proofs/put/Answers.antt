-- Each turn pastes one byte more.
use Rattle.std.proofs.Common.{ℕ, List, ◌+◌, sym, ap, ◌∙◌, arith, get_or, set, length-set}
use native.Mathlib.Numerals.{add-one}
use lib.Seq.{paste, paste-suc}
use Rattle.support_buffer.proofs.put.Goals as goal

pub loop-i-preserved : goal.loop-i-preserved
loop-i-preserved c =
    let l = c.loop-i in
    let a = c.args in (
      ap (λ (d : List ℕ). set d (a.at + l.i) (get_or a.s.now l.i 0)) l.invariant.0
          ∙ paste-suc a.out.now a.at a.s.now l.i 0 (omega (arith, c.loop-i-test.true, c.requires)) (omega (arith, c.loop-i-test.true))
          ∙ ap (paste a.out.now a.at a.s.now) (sym (add-one l.i)),
      length-set l.out _ _ ∙ l.invariant.1,
    )
