-- Each way out is one case of the definition: there is no scanner 0 and none past the twelfth.
use Rattle.std.proofs.Common.{◌≡◌, sym, arith, length, rules}
use Rattle.gate_second_reading.proofs.Turns.{slot-none, slot_at}
use Rattle.gate_second_reading.proofs.choices.Choice.slot.Goals as goal

pub returns-then-i-le12 : goal.returns-then-i-le12
returns-then-i-le12 c = sym (slot_at c.args.self.of c.args.i c.if-i-gt0.true)

pub returns-else-i-gt0 : goal.returns-else-i-gt0
returns-else-i-gt0 c =
    let twelve : length c.args.self.of ≡ 12 = search rules in sym (slot-none c.args.self.of c.args.i (λ a b. omega arith))
