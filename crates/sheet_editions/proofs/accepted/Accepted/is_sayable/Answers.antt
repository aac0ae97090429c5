-- `Accepted::is_sayable` tests all pairs.
-- One agent that fails decides it.
use Rattle.std.proofs.Common.{sym, ◌∙◌, arith}
use Rattle.sheet_reader.specs.Abstract.{problem_of}
use Rattle.model_editions.specs.Gaps.{sayable}
use Rattle.sheet_records.proofs.Tests.{one_passed, all_passed, one_fails}
use Rattle.sheet_editions.proofs.Words.{unmixed_above}
use Rattle.sheet_editions.proofs.accepted.Accepted.is_sayable.Goals as goal

pub returns-then-not-is_sayable_with : goal.returns-then-not-is_sayable_with
unfolding sayable problem_of
returns-then-not-is_sayable_with c =
    let l = c.loop-j in
    sym (one_fails _ (unmixed_above (problem_of c.args.self.now.problem)) l.j (omega arith) (omega arith) (sym c.is_sayable_with.ensures ∙ c.if-not-is_sayable_with.true))

pub returns : goal.returns
unfolding sayable problem_of
returns c =
    let l = c.loop-j in
    sym (all_passed _ (unmixed_above (problem_of c.args.self.now.problem)) (λ k h. l.invariant k (omega arith)))

pub returns-else-not-is_sayable_with : goal.returns-else-not-is_sayable_with
unfolding sayable problem_of
returns-else-not-is_sayable_with c =
    let l = c.loop-j in
    let on = one_passed (unmixed_above (problem_of c.args.self.now.problem)) l.j l.invariant (sym c.is_sayable_with.ensures ∙ c.if-not-is_sayable_with.false) in
    sym (all_passed _ _ (λ k h. on k (omega arith)))
