-- Write by write, the answer and the buffer are the definition's.
use Rattle.std.proofs.Common.{◌≡◌, ◌∙◌, arith, add-one}
use Rattle.bench_entry.proofs.Images.{loaded-network, none_written, one_written, writes}
use Rattle.bench_entry.proofs.bench_entry_write.Goals as goal

pub loop-init : goal.loop-init
loop-init c = none_written _ _ _

pub loop-preserved : goal.loop-preserved
loop-preserved c = rw add-one (one_written _ _ _ _ _ _ c.loop.last _ c.loop.invariant (rw c.form_for-form.ensures at c.store_as-last.ensures.out_after))

pub returns : goal.returns
returns c =
    let e : c.loop.counter ≡ c.args.times = omega arith in
    rw c.length_of.ensures
    (writes _ _ _ _ _ _ c.loop.last (rw e at c.loop.invariant) (c.rail_of-network.ensures.rail ∙ loaded-network _ _ c.load.ensures))
