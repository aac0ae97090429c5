-- `Accepted::is_sayable_with` tests the pairs of agent j.
-- One that fails decides it.
use Rattle.std.proofs.Common.{sym, ◌∙◌, arith}
use Rattle.sheet_reader.specs.Abstract.{problem_of}
use Rattle.sheet_records.proofs.Tests.{one_passed, all_passed, one_fails}
use Rattle.sheet_editions.proofs.Words.{unmixed, pair-sayable}
use Rattle.sheet_editions.proofs.accepted.Accepted.is_sayable_with.Goals as goal

pub loop-i-preserved : goal.loop-i-preserved
unfolding problem_of
loop-i-preserved c =
    let l = c.loop-i in
    let a = c.args in
    let said = pair-sayable a.self.now l.i a.j (omega arith) (omega arith) c.requires.1 c.pair.result c.pair.ensures in
    one_passed _ l.i l.invariant (sym said ∙ sym c.is_sayable.ensures ∙ c.if-not-is_sayable.false)

pub returns-then-not-is_sayable : goal.returns-then-not-is_sayable
unfolding problem_of
returns-then-not-is_sayable c =
    let l = c.loop-i in
    let a = c.args in
    let said = pair-sayable a.self.now l.i a.j (omega arith) (omega arith) c.requires.1 c.pair.result c.pair.ensures in
    sym (one_fails _ (unmixed (problem_of a.self.now.problem) a.j) l.i (omega arith) (omega arith) (sym said ∙ sym c.is_sayable.ensures ∙ c.if-not-is_sayable.true))

pub returns : goal.returns
unfolding problem_of
returns c =
    let l = c.loop-i in
    sym (all_passed _ (unmixed (problem_of c.args.self.now.problem) c.args.j) (λ k h. l.invariant k (omega arith)))
