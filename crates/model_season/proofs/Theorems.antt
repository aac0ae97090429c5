-- The claims about a season's figures.
use Rattle.model_season.specs.Claims.{EachKnown, AddUp, AnyOrder, StreamsInAnyOrder, OneMoreSheet, MeanOver, SumBound, CappedInTurn, NeverCapped, ReadsStream, ReadsNoMore}
use Rattle.model_season.specs.Season.{season_rounds}
use Rattle.model_season.specs.Stream.{split}
use Rattle.model_season.proofs.Outcomes as outcomes
use Rattle.model_season.proofs.Order as order
use Rattle.model_season.proofs.Bounds.{adds}
use Rattle.model_season.proofs.Capped as caps
use Rattle.model_season.proofs.Streams as streams

pub each-known : EachKnown
each-known = outcomes.each-known

pub add-up : AddUp
add-up sheets = ((adds sheets).sheets, (adds sheets).all)

pub any_order : AnyOrder
any_order = order.any_order

pub streams-in-any-order : StreamsInAnyOrder
streams-in-any-order most a b r = any_order (split most a).sheets (split most b).sheets r

pub one-more-sheet : OneMoreSheet
one-more-sheet = order.one-more-sheet

pub mean-over : MeanOver
mean-over sheets = (adds sheets).mean

pub sum_bound : SumBound
unfolding season_rounds
sum_bound sheets = (adds sheets).sum

pub capped-in-turn : CappedInTurn
capped-in-turn = caps.capped-in-turn

pub never-capped : NeverCapped
never-capped = caps.never-capped

pub reads-stream : ReadsStream
reads-stream = streams.reads-stream

pub reads-no-more : ReadsNoMore
reads-no-more = streams.reads-no-more
