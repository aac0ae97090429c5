-- The scanners are gone through one by one: what is left are those from scanner k + 1 on.
use Rattle.std.proofs.Common.{◌+◌, ◌-◌, ◌≡◌, refl, sym, ◌∙◌, arith, length-set, rules}
use Rattle.gate_second_reading.specs.Choices.{next_choice}
use Rattle.gate_second_reading.proofs.Turns.{next_none, next-here, next-later}
use Rattle.gate_second_reading.proofs.reading.Sheet.next_choice.Goals as goal

pub loop-k-init : goal.loop-k-init
unfolding next_choice
loop-k-init c = (search rules, refl)

pub returns-then-slot-slots : goal.returns-then-slot-slots
returns-then-slot-slots c =
    let l = c.loop-k in
    let one : l.k + 1 - 1 ≡ l.k = omega arith in
    let here =
    next-here (12 - l.k) c.args.self.now.bytes.now (l.k + 1) l.of c.unwrap_or-slot.result (omega arith) (omega arith) (rw one c.unwrap_or-slot.ensures) (rw (← c.slots.ensures) c.if-slot-slots.true) in
    sym (l.invariant.1 ∙ here ∙ rw one)

pub loop-k-preserved : goal.loop-k-preserved
loop-k-preserved c =
    let l = c.loop-k in
    let one : l.k + 1 - 1 ≡ l.k = omega arith in
    let less : 12 - l.k - 1 ≡ 12 - (l.k + 1) = omega arith in
    let later =
    next-later (12 - l.k) c.args.self.now.bytes.now (l.k + 1) l.of c.unwrap_or-slot.result (omega arith) (omega arith) (rw one c.unwrap_or-slot.ensures) (rw (← c.slots.ensures) c.if-slot-slots.false) in
    (simp length-set l.invariant.0, l.invariant.1 ∙ later ∙ rw (one, less))

pub returns : goal.returns
returns c = sym (c.loop-k.invariant.1 ∙ next_none _ _ _ _ (omega arith))
