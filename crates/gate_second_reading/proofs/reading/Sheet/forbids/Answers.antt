-- Some record of the chain, of these two scanners, bans the slots.
use Rattle.std.proofs.Common.{tests, rules}
use Rattle.gate_second_reading.specs.Bans.{forbids_on}
use Rattle.gate_second_reading.proofs.reading.Sheet.forbids.Goals as goal

pub returns : goal.returns
unfolding forbids_on
returns c = c.some_record.ensures _ (λ r b l h. search (rules, tests))
