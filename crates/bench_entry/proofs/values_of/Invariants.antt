-- Agent by agent, the number so far is the definition's.
use Rattle.std.proofs.Common.{◌≡◌}
use Rattle.abt_record.specs.Abstract.{network_of}
use Rattle.bench_entry.specs.Giving.{values_to}
use Rattle.bench_entry.proofs.values_of.Given as goal

abbrev pub invariant-loop-agent : goal.invariant-loop-agent
invariant-loop-agent l = l.values ≡ values_to l.agent-index (network_of l.fn.r)
