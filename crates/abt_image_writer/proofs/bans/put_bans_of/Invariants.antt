-- `put_bans_of` puts the words of one lower agent, by higher agent: those with the agents below `higher` are put.
use Rattle.std.proofs.Common.{suc, ◌+◌, ◌-◌, ◌*◌}
use Rattle.support_buffer.proofs.Puts.{Gathered}
use Rattle.abt_image_writer.proofs.BanTable.{word_bytes}
use Rattle.abt_image_writer.proofs.bans.put_bans_of.Given as goal

abbrev pub invariant-loop-higher : goal.invariant-loop-higher
invariant-loop-higher l =
    let k = l.higher - (l.lower + 1) in
    Gathered l.initial.out (8 * k) (word_bytes l.bans l.lower) (suc l.lower) k l.out
