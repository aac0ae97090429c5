-- `put_bans` puts the words of all pairs, by lower, then higher agent: those of the agents below `lower` are put.
use Rattle.std.proofs.Common.{◌≡◌, ◌+◌, ◌-◌, arith, refl}
use Rattle.model_base.specs.Finite.{gather}
use Rattle.model_sheet.specs.Problem.{max_agents}
use Rattle.abt_record.specs.Abstract.{problem_of}
use Rattle.model_image.specs.Image.{ban_bytes}
use Rattle.support_buffer.proofs.Puts.{none_gathered, one_more, all-gathered}
use Rattle.abt_image_writer.proofs.BanTable.{row_room, more-rows, rows-length}
use Rattle.abt_image_writer.proofs.bans.put_bans.Goals as goal

pub loop-lower-init : goal.loop-lower-init
unfolding gather
loop-lower-init c = none_gathered _ _ _ _ _ (omega arith) refl refl

pub put_bans_of-requires : goal.put_bans_of-requires
put_bans_of-requires c =
    let l = c.loop-lower in
    let p = l.invariant.put in
    let here : 1 + (l.lower - 1) ≡ l.lower = omega arith in
    record { inside = (omega arith, omega arith); room = omega (arith, p.behind, p.kept, row_room c.args.r.now.bans (l.lower - 1) (omega arith), here) }

pub loop-lower-preserved : goal.loop-lower-preserved
loop-lower-preserved c =
    let l = c.loop-lower in
    let bans = c.args.r.now.bans in
    let here : 1 + (l.lower - 1) ≡ l.lower = omega arith in
    one_more l.invariant _ _ c.put_bans_of.ensures (rw here refl) (omega arith) (more-rows bans l.lower _ (omega arith) (omega arith))

pub returns : goal.returns
unfolding ban_bytes max_agents problem_of
returns c =
    let l = c.loop-lower in
    let last : l.lower - 1 ≡ 12 = omega arith in
    all-gathered l.invariant 528 12 last (rw last (rows-length c.args.r.now.bans))
