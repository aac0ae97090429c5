-- `walk` is the definition's walk along the chain, from the first record on.
-- The loop keeps `Walking`, and each way out is the definition's step at the record where it stops.
use Rattle.std.proofs.Common.{◌≡◌, sym, ◌∙◌, ◌+◌, ◌-◌, ◌≤◌, ◌<◌, arith}
use Rattle.model_sheet.specs.Problem.{with_table}
use Rattle.model_sheet.specs.Sheet.{fault_number, byte_at, agents_in, without_bans}
use Rattle.model_sheet.proofs.Walk.{free-none, free-ends}
use Rattle.sheet_reader.specs.Abstract.{problem_of, outcome, outcome_of}
use Rattle.sheet_reader.proofs.Walking.{starts, fails, goes}
use Rattle.sheet_reader.proofs.walk.walk.Goals as goal

pub loop-init : goal.loop-init
loop-init c =
    let left : c.two_bytes-records.result + 1 - 0 ≡ c.two_bytes-records.result + 1 = omega arith in
    rw (left, c.two_bytes-r.ensures.0, c.two_bytes-records.ensures.0) (starts _ c.requires)

pub returns-then-r-eq0 : goal.returns-then-r-eq0
unfolding with_table byte_at agents_in without_bans problem_of outcome outcome_of
returns-then-r-eq0 c =
    let more : 0 < c.two_bytes-records.result + 1 - c.loop.counter = omega arith in
    rw (c.domains.ensures.0, c.loop.invariant.rest, free-ends _ _ _ _ more c.if-r-eq0.true)

pub returns-then-not-record_good : goal.returns-then-not-record_good
unfolding fault_number outcome outcome_of
returns-then-not-record_good c =
    let bad = sym c.record_good.ensures ∙ c.if-not-record_good.true in
    rw (fails _ _ _ _ c.loop.invariant (omega arith) c.if-r-eq0.false bad)

pub loop-preserved : goal.loop-preserved
loop-preserved c =
    let l = c.loop in
    let left : c.two_bytes-records.result + 1 - l.counter - 1 ≡ c.two_bytes-records.result + 1 - (l.counter + 1) = omega arith in
    rw (← left, c.add_record.ensures, c.two_bytes-r-in-loop.ensures.0)
    (goes _ _ _ _ l.invariant (omega arith) c.if-r-eq0.false (sym c.record_good.ensures ∙ c.if-not-record_good.false))

pub returns-else-not-record_good : goal.returns-else-not-record_good
unfolding fault_number outcome outcome_of
returns-else-not-record_good c =
    let l = c.loop in
    let on = goes _ _ _ _ l.invariant (omega arith) c.if-r-eq0.false (sym c.record_good.ensures ∙ c.if-not-record_good.false) in
    let none : c.two_bytes-records.result + 1 - l.counter - 1 ≤ 0 = omega arith in
    rw (on.rest, free-none _ _ _ _ none)
