-- No record of the chain bans the slots.
use Rattle.std.proofs.Common.{tests, rules, ap, not}
use Rattle.gate_second_reading.specs.Bans.{bans_choice, obeys_all}
use Rattle.gate_second_reading.proofs.reading.Sheet.obeys.Goals as goal

pub returns : goal.returns
unfolding obeys_all
returns c = ap not (c.some_record.ensures (bans_choice c.args.self.now.bytes.now c.args.c.of) (λ r b l h. search (rules, tests)))
