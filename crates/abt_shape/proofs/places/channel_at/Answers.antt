-- The number of a channel, as `channel_at` has it.
use Rattle.std.proofs.Common.{arith}
use Rattle.abt_shape.proofs.Numbering.{ends, channel-up, channel-down, channel-below}
use Rattle.abt_shape.proofs.places.channel_at.Goals as goal
use Rattle.abt_shape.proofs.places.channel_at.Goals.{then-to-from, else-to-from}

pub returns : goal.returns
returns c =
    let b = ends _ _ c.requires in
    elim c.if-to-from.branch [
      | then-to-from w ↦ let e = channel-up _ _ b.to_low w.if-to-from.true in rw w.place-is (e, rw e (channel-below _ _ c.requires))
      | else-to-from w ↦ let e = channel-down _ _ (omega (arith, b.from_low, b.apart)) w.if-to-from.false in rw w.place-is (e, rw e (channel-below _ _ c.requires))
    ]
