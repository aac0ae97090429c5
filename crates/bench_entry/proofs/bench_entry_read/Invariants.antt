-- Agent by agent, the number so far is the definition's.
use Rattle.std.proofs.Common.{◌≡◌}
use Rattle.abt_record.specs.declared.Network.{Network}
use Rattle.abt_record.specs.Abstract.{network_of}
use Rattle.bench_entry.specs.Giving.{read_to}
use Rattle.bench_entry.proofs.bench_entry_read.Given as goal

abbrev pub invariant-loop-agent : goal.invariant-loop-agent
invariant-loop-agent l =
    (r : Network) → r.agents ≡ l.agent-items → l.initial.sum ≡ read_to 0 (network_of r) → l.sum ≡ read_to l.agent-index (network_of r)
