-- `reasons` are eight left sides: the first v are there.
use Rattle.std.proofs.Common.{◌≡◌, length}
use Rattle.abt_image_reader.proofs.Records.{Reasoned}
use Rattle.abt_image_reader.proofs.agents.reasons.Given as goal

abbrev pub invariant-loop-v : goal.invariant-loop-v
invariant-loop-v l = record { long : length l.words ≡ 8; reasoned : Reasoned l.s 18 l.words l.v }
