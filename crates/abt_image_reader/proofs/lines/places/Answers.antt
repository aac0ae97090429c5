-- `places` puts each line's messages into its ring.
-- The invariant: the places below p are filled.
use Rattle.std.proofs.Common.{ap, ◌∙◌, arith, length, length-set}
use Rattle.abt_record.specs.Abstract.{place_of}
use Rattle.abt_image_reader.proofs.Placing.{one_placed, none_more}
use Rattle.abt_image_reader.proofs.lines.places.Goals as goal
use Rattle.abt_image_reader.proofs.lines.places.Goals.{else-q-count, then-q-count}

pub loop-p-preserved : goal.loop-p-preserved
unfolding place_of
loop-p-preserved c =
    let l = c.loop-p in
    let s = c.args.s.now in
    let lines = c.args.lines.now in
    record {
      long =
          elim c.if-q-count.branch [
            | then-q-count u ↦ ap length u.places-is ∙ length-set l.places l.p _ ∙ l.invariant.long
            | else-q-count u ↦ ap length u.places-is ∙ l.invariant.long
          ];
      placed =
          elim c.if-q-count.branch [
            | then-q-count u ↦ one_placed s lines l.places l.p _ l.invariant.placed _ (omega arith) (rw u.tail.ensures at u.message.ensures) u.places-is
            | else-q-count u ↦ none_more s lines l.places l.p _ l.invariant.placed u.if-q-count.false u.places-is
          ];
    }
