-- Write by write, the answer and the buffer are the definition's.
use Rattle.std.proofs.Common.{◌≡◌}
use Rattle.abt_record.specs.Abstract.{network_of}
use Rattle.support_buffer.specs.Abstract.{written_of}
use Rattle.bench_entry.specs.Giving.{form_for, written_to}
use Rattle.bench_entry.proofs.bench_entry_write.Given as goal

abbrev pub invariant-loop : goal.invariant-loop
invariant-loop l = written_of l.last l.out ≡ written_to (form_for l.small) l.counter (network_of l.network) l.initial.out
