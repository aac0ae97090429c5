-- `put_bans` puts the words of all pairs, by lower, then higher agent: those of the agents below `lower` are put.
use Rattle.std.proofs.Common.{◌-◌, length}
use Rattle.model_base.specs.Finite.{gather}
use Rattle.support_buffer.proofs.Puts.{Gathered}
use Rattle.abt_image_writer.proofs.BanTable.{row_bytes}
use Rattle.abt_image_writer.proofs.bans.put_bans.Given as goal

abbrev pub invariant-loop-lower : goal.invariant-loop-lower
invariant-loop-lower l =
    let rows = row_bytes l.r.bans in
    Gathered l.initial.out (length (gather (l.lower - 1) 1 rows)) rows 1 (l.lower - 1) l.out
