-- `domain_digits` has the domains as digits.
-- From agent 12 down, a digit each.
use Rattle.std.proofs.Common.{ℕ, ◌-◌, ◌%◌, ◌^◌, ◌<◌, ◌≡◌, sym, ap, arith, length}
use Rattle.abt_shape.proofs.Ranges.{room, one_more, all_digits, from-end}
use Rattle.abt_shape.proofs.range.domain_digits.Goals as goal
use Rattle.abt_shape.proofs.range.domain_digits.Goals.{In-Some}

-- a digit more has room
fits : (c : In-Some) → c.loop-d.word < 16 ^ 11
fits c =
    let s = from-end _ _ _ _ c.loop-d.invariant.1 c.in-Some.ensures.steps in
    room _ _ c.loop-d.word (omega (arith, s.2)) c.loop-d.invariant.0

pub overflow_mul-word : goal.overflow_mul-word
overflow_mul-word c = record { fits = omega (arith, fits (goal.at.overflow_mul-word c).In-Some) }

pub overflow_add-word : goal.overflow_add-word
overflow_add-word c = record { fits = omega (arith, fits (goal.at.overflow_add-word c).In-Some) }

pub loop-d-preserved : goal.loop-d-preserved
loop-d-preserved c =
    let left = c.loop-d.d-iterator.iter.rest.now in
    let others = c.next.new.self.iter.rest.now in
    let s = from-end c.args.domains.now left others c.in-Some.d.now c.loop-d.invariant.1 c.in-Some.ensures.steps in
    let down : length left - 1 ≡ length others = omega (arith, s.2) in
    let some-left : 0 < length left = omega (arith, s.2) in
    let more = one_more c.args.domains.now (length left) c.loop-d.word (c.in-Some.d.now % 16) some-left c.loop-d.invariant.0 (ap (λ (d : ℕ). d % 16) (sym s.1)) in
    (rw down at more, s.0)

pub returns : goal.returns
returns c = λ p e l k. all_digits p _ _ c.loop-d.word c.loop-d.invariant.0 c.in-None.ensures.steps.0 e l k
