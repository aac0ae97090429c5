-- All calls, and then value by value.
use Rattle.std.proofs.Common.{◌≡◌}
use Rattle.abt_record.specs.Abstract.{network_of}
use Rattle.bench_entry.specs.Giving.{asked_to}
use Rattle.bench_entry.proofs.bench_entry_deliver.Given as goal

abbrev pub invariant-loop-i : goal.invariant-loop-i
invariant-loop-i l = l.sum ≡ asked_to l.i (network_of l.network) l.initial.sum
