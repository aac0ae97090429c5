-- `choice_at` has the choice of an ordinal.
-- What is left of the ordinal, in the slot counts from place k on, has the same choice.
use Rattle.std.proofs.Common.{◌≡◌, refl, ◌∙◌, [], arith, get_or}
use Rattle.model_little.specs.Little.{sizes, sets_of}
use Rattle.sheet_little.proofs.Counts.{at_small, at-sets, reached-first, reached_here, reached_later, reached_end}
use Rattle.sheet_little.proofs.choice.choice_at.Goals as goal

pub loop-k-init : goal.loop-k-init
loop-k-init c = reached-first _

pub sets_of-sets-requires : goal.sets_of-sets-requires
sets_of-sets-requires c =
    let small = at_small c.loop-k.k (omega arith) c.counts_at-counts.result c.counts_at-counts.ensures in
    (small.first, small.second, small.third)

pub returns-then-left-sets : goal.returns-then-left-sets
returns-then-left-sets c =
    let l = c.loop-k in
    let sets : c.sets_of-sets.result ≡ sets_of (get_or sizes l.k []) =
    c.sets_of-sets.ensures ∙ at-sets l.k (omega arith) c.counts_at-counts.result c.counts_at-counts.ensures in
    let here = reached_here c.args.ordinal l.k (omega arith) l.left (omega arith) l.invariant in
    (here.0, rw here.1 (record { counts = c.counts_at-counts.ensures; bans = refl }))

pub loop-k-preserved : goal.loop-k-preserved
loop-k-preserved c =
    let l = c.loop-k in
    let sets : c.sets_of-sets.result ≡ sets_of (get_or sizes l.k []) =
    c.sets_of-sets.ensures ∙ at-sets l.k (omega arith) c.counts_at-counts.result c.counts_at-counts.ensures in
    rw sets (reached_later c.args.ordinal l.k (omega arith) l.left (omega arith) l.invariant)

pub returns : goal.returns
returns c = let l = c.loop-k in reached_end c.args.ordinal l.k (omega arith) l.left l.invariant
