-- `walk` is the definition's walk along the chain, from the first record on.
-- The loop keeps `Walking`, and each way out is the definition's step at the record where it stops.
use Rattle.std.proofs.Common.{◌+◌, ◌-◌}
use Rattle.sheet_reader.proofs.Walking.{Walking}
use Rattle.sheet_reader.proofs.walk.walk.Given as goal

abbrev pub invariant-loop : goal.invariant-loop
invariant-loop l = Walking l.sheet.bytes.now l.bans l.r (l.records + 1 - l.counter)
