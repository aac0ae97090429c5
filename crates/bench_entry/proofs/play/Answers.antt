-- Call by call, network and sum are the definition's.
use Rattle.std.proofs.Common.{◌∙◌, add-one}
use Rattle.bench_entry.specs.Giving.{mixed}
use Rattle.bench_entry.proofs.Playing.{none-played, one-played}
use Rattle.bench_entry.proofs.play.Goals as goal

pub loop-k-init : goal.loop-k-init
loop-k-init c = λ s e f. none-played s _ _ _ e (c.from-sum.ensures ∙ c.number_of.ensures ∙ f)

pub loop-k-preserved : goal.loop-k-preserved
unfolding mixed
loop-k-preserved c =
    λ s e f. rw (add-one, c.mixed-sum.ensures, c.number_of-in-loop-k.ensures) (one-played s _ _ _ _ _ _ (c.loop-k.invariant s e f) c.deliver-answer.ensures.delivers_as)
