-- Call by call, network and sum are the definition's.
use Rattle.std.proofs.Common.{◌≡◌}
use Rattle.model_network.specs.Network.{Started}
use Rattle.abt_record.specs.Abstract.{network_of}
use Rattle.abt_engine.specs.Refused.{rejected_number}
use Rattle.bench_entry.specs.Giving.{Playing}
use Rattle.bench_entry.proofs.play.Given as goal

abbrev pub invariant-loop-k : goal.invariant-loop-k
invariant-loop-k l =
    (s : Started) → network_of l.fn.network ≡ s.network → rejected_number l.fn.rejection ≡ s.number → Playing s l.calls l.k l.answer.network l.sum
