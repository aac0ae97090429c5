-- The numbers in a line. Invariant: those kept so far, with those in the bytes left, come to the same.
use Rattle.std.proofs.Common.{refl, sym, ap, ◌∙◌, arith}
use Rattle.gate_script.specs.Lines.{no_numbers, numbers_in, value_from}
use Rattle.std.proofs.lemmas.List.{take_rest}
use Rattle.gate_script.proofs.Reading.{none_left, number_more, no_number, all-numbers}
use Rattle.gate_script.proofs.lines.numbers_in.Goals as goal
use Rattle.gate_script.proofs.lines.numbers_in.Goals.{else-begins, then-begins}

pub loop-i-init : goal.loop-i-init
unfolding no_numbers
loop-i-init c = refl

pub loop-i-preserved : goal.loop-i-preserved
loop-i-preserved c =
    let l = c.loop-i in
    let t = c.loop-i-test.true in
    elim c.if-begins.branch [
      | then-begins w ↦
          rw (w.before-is, w.n-is, w.with_number-n.ensures, w.number_at.ensures ∙ ap (value_from 0) (take_rest c.args.line.now l.i))
          (l.invariant ∙ number_more _ _ t l.before l.n (sym c.begins.ensures ∙ w.if-begins.true))
      | else-begins w ↦ rw (w.before-is, w.n-is) (l.invariant ∙ no_number _ _ t l.before l.n (sym c.begins.ensures ∙ w.if-begins.false))
    ]

pub returns : goal.returns
unfolding numbers_in
returns c =
    let l = c.loop-i in
    sym (l.invariant ∙ all-numbers _ _ _ (none_left _ _ (omega arith) c.loop-i-test.false))
