-- The chain is followed for as many records as there are: what is left is the fault of the rest.
use Rattle.std.proofs.Common.{◌+◌, ◌-◌, ◌≡◌, sym, ◌∙◌, arith}
use Rattle.gate_second_reading.proofs.Walks.{fault-none, fault-back, fault-record, fault-goes}
use Rattle.gate_second_reading.proofs.reading.Sheet.chain_fault.Goals as goal

pub returns-then-r-eq0 : goal.returns-then-r-eq0
returns-then-r-eq0 c = sym (c.loop.invariant ∙ fault-none _ _ _ c.if-r-eq0.true)

pub returns-then-not-record_right : goal.returns-then-not-record_right
returns-then-not-record_right c =
    let bad = sym c.record_right.ensures ∙ c.if-not-record_right.true in
    sym (c.loop.invariant ∙ fault-record _ _ _ (omega arith) c.if-r-eq0.false bad)

pub loop-preserved : goal.loop-preserved
loop-preserved c =
    let good = sym c.record_right.ensures ∙ c.if-not-record_right.false in
    let less : c.word-end.result - c.loop.counter - 1 ≡ c.word-end.result - (c.loop.counter + 1) = omega arith in
    rw (c.next_of-r.ensures, ← less) (c.loop.invariant ∙ fault-goes _ _ _ (omega arith) c.if-r-eq0.false good)

pub returns-in-0 : goal.returns-in-0
returns-in-0 c = sym (c.loop.invariant ∙ fault-none _ _ _ c.in-0.is)

pub returns-in_default : goal.returns-in_default
returns-in_default c = sym (c.loop.invariant ∙ fault-back _ _ _ (omega arith) (λ e. omega (arith, e)))
