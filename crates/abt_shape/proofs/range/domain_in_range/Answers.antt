-- Up to n the domain is one of 1 to 8, beyond it 0.
use Rattle.std.proofs.Common.{arith, lt-ltb, le-ltb}
use Rattle.model_base.specs.Finite.{within}
use Rattle.model_sheet.specs.Problem.{max_domain}
use Rattle.abt_shape.proofs.Ranges.{in-range-within, in-range-zero}
use Rattle.abt_shape.proofs.range.domain_in_range.Goals as goal

pub returns-then-d-gt0 : goal.returns-then-d-gt0
unfolding within max_domain
returns-then-d-gt0 c =
    let args = c.args in
    λ p e f. rw (in-range-within p args.i (omega arith), f, lt-ltb 0 args.d c.if-d-gt0.true)

pub returns-else-d-gt0 : goal.returns-else-d-gt0
unfolding within max_domain
returns-else-d-gt0 c =
    let args = c.args in
    λ p e f. rw (in-range-within p args.i (omega arith), f, le-ltb 0 args.d c.if-d-gt0.false)

pub returns-else-i-count : goal.returns-else-i-count
returns-else-i-count c = λ p e f. rw (in-range-zero p c.args.i (omega arith), f)
