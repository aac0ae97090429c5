-- The claims about writes and reads between calls. Every network that a list of calls reaches from a start is plain and in shape, so that its image
-- gives it back; what is claimed of the list without its writes and reads holds of the list with them.
use Rattle.model_network.specs.Network.{start}
use Rattle.theorems_shape.proofs.Shape.{start-in-shape}
use Rattle.theorems_network.specs.Claims.{EveryProblem, EverySheet}
use Rattle.theorems_network.proofs.Theorems.{stays-in-shape, sound-at-rest, complete-verdict, round-bound, run-bound, every-sheet}
use Rattle.theorems_image.specs.Entries.{calls_in}
use Rattle.theorems_image.specs.Claims.{
  ReachedPlain,
  CarriesAcross,
  SoundAcross,
  CompleteAcross,
  RoundBoundAcross,
  RunBoundAcross,
  StaysPlain,
  CarriesAcrossAnywhere,
  ReadsWithRoom,
}
use Rattle.theorems_image.proofs.Start.{start_plain}
use Rattle.theorems_image.proofs.Delivery.{calls-plain}
use Rattle.theorems_image.proofs.Keeping.{carries, read-with-room}

-- ---- of every network

pub stays_plain : StaysPlain
stays_plain = calls-plain

pub carries-across-anywhere : CarriesAcrossAnywhere
carries-across-anywhere = carries

pub reads-with-room : ReadsWithRoom
reads-with-room = read-with-room

-- ---- from a start

pub reached-plain : EveryProblem ReachedPlain
reached-plain rule is-rule p r calls = (calls-plain (start rule p) calls (start_plain rule p r), stays-in-shape rule is-rule p r calls)

pub carries-across : EveryProblem CarriesAcross
carries-across rule is-rule p r = carries (start rule p) (start_plain rule p r) (start-in-shape rule is-rule p r)

pub sound-across : EveryProblem SoundAcross
sound-across rule is-rule p r entries =
    rw (carries-across rule is-rule p r entries).leaves (sound-at-rest rule is-rule p r (calls_in entries))

pub complete-across : EveryProblem CompleteAcross
complete-across rule is-rule p r entries =
    rw (carries-across rule is-rule p r entries).leaves (complete-verdict rule is-rule p r (calls_in entries))

pub round-bound-across : EveryProblem RoundBoundAcross
round-bound-across rule is-rule p r entries =
    rw (carries-across rule is-rule p r entries).tries (round-bound rule is-rule p r (calls_in entries))

pub run-bound-across : EveryProblem RunBoundAcross
run-bound-across rule is-rule p r entries =
    rw (carries-across rule is-rule p r entries).makes (run-bound rule is-rule p r (calls_in entries))

-- ---- sheets: what holds of every problem in range holds of every accepted sheet

pub sheet-reached-plain : EverySheet ReachedPlain
sheet-reached-plain = every-sheet ReachedPlain reached-plain

pub sheet-carries-across : EverySheet CarriesAcross
sheet-carries-across = every-sheet CarriesAcross carries-across

pub sheet-sound-across : EverySheet SoundAcross
sheet-sound-across = every-sheet SoundAcross sound-across

pub sheet-complete-across : EverySheet CompleteAcross
sheet-complete-across = every-sheet CompleteAcross complete-across

pub sheet-round-bound-across : EverySheet RoundBoundAcross
sheet-round-bound-across = every-sheet RoundBoundAcross round-bound-across

pub sheet-run-bound-across : EverySheet RunBoundAcross
sheet-run-bound-across = every-sheet RunBoundAcross run-bound-across
