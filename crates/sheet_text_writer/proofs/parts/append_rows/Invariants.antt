-- `append_rows` puts a line for each record on the chain.
-- The loop keeps `Ahead`; at index 0 all is told, and a good sheet's chain gets there.
use Rattle.std.proofs.Common.{◌+◌, ◌-◌}
use Rattle.sheet_text_writer.proofs.Chains.{Ahead}
use Rattle.sheet_text_writer.proofs.parts.append_rows.Given as goal

abbrev pub invariant-loop : goal.invariant-loop
invariant-loop l = Ahead l.s l.initial.out l.out l.r (l.end + 1 - l.counter)
