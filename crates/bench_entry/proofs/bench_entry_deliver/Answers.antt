-- All calls, and then value by value.
use Rattle.std.proofs.Common.{refl, ◌∙◌, arith, add-one}
use Rattle.model_network.specs.Network.{start_sheet}
use Rattle.abt_record.proofs.Asked.{value-or}
use Rattle.bench_entry.specs.Giving.{mixed, asked_to}
use Rattle.bench_entry.proofs.Playing.{number-given, one-asked, all_asked}
use Rattle.bench_entry.proofs.bench_entry_deliver.Goals as goal

pub loop-i-init : goal.loop-i-init
unfolding asked_to
loop-i-init c = refl

pub loop-i-preserved : goal.loop-i-preserved
unfolding mixed
loop-i-preserved c =
    rw (add-one, c.mixed-sum.ensures, c.from.ensures, c.unwrap_or.ensures) (one-asked _ _ _ _ _ c.loop-i.invariant (value-or c.value.result ∙ c.value.ensures.1))

pub returns : goal.returns
returns c =
    all_asked _ _ _ _ _ _ _
    (c.play-sum.ensures (start_sheet _ _) (c.rail_of.ensures.rail ∙ c.start-begun.ensures.network) (number-given _ _ c.err.ensures.value ∙ c.start-begun.ensures.number))
    (omega arith) c.loop-i.invariant
