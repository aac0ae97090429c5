-- `put_by_place` puts the bytes place by place.
use Rattle.std.proofs.Common.{◌+◌, ◌*◌, [], ◌∷◌, get_or}
use Rattle.model_base.specs.Finite.{gather}
use Rattle.support_buffer.proofs.Puts.{Gathered}
use Rattle.abt_image_mover.proofs.places.Records.put_by_place.Given as goal

abbrev pub invariant-loop-place : goal.invariant-loop-place
invariant-loop-place l =
    Gathered l.initial.out (l.place * l.self.count) (λ place. gather l.self.count 0 (λ r. get_or l.self.bytes.now (l.self.width * r + place) 0 ∷ [])) 0 l.place l.out
