-- `places` puts each line's messages into its ring.
-- The invariant: the places below p are filled.
use Rattle.std.proofs.Common.{◌≡◌, length}
use Rattle.abt_image_reader.proofs.Placing.{Placed}
use Rattle.abt_image_reader.proofs.lines.places.Given as goal

abbrev pub invariant-loop-p : goal.invariant-loop-p
invariant-loop-p l = record { long : length l.places ≡ 1056; placed : Placed l.s l.lines l.places l.p }
