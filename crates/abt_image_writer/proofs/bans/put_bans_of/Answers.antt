-- `put_bans_of` puts the words of one lower agent, by higher agent: those with the agents below `higher` are put.
use Rattle.std.proofs.Common.{ℕ, suc, ◌+◌, ◌-◌, ◌≡◌, ap, arith, get_or}
use Rattle.model_sheet.specs.Problem.{max_agents}
use Rattle.abt_shape.proofs.Pairs.{word-place}
use Rattle.model_image.specs.Bytes.{bytes_of}
use Rattle.support_buffer.proofs.Puts.{none_gathered, one_more, all-gathered}
use Rattle.abt_image_writer.proofs.Words.{puts-eight}
use Rattle.abt_image_writer.proofs.bans.put_bans_of.Goals as goal

pub loop-higher-init : goal.loop-higher-init
loop-higher-init c = none_gathered _ _ _ _ _ (omega arith) (omega arith) (omega arith)

pub loop-higher-preserved : goal.loop-higher-preserved
loop-higher-preserved c =
    let a = c.args in
    let h = c.loop-higher.higher in
    let here : suc a.lower + (h - (a.lower + 1)) ≡ h = omega arith in
    let at = (word-place a.lower h _ c.words_before.ensures.0 (omega arith) (omega arith) c.words_before.ensures.1).0 in
    one_more c.loop-higher.invariant _ _ (puts-eight _ c.put_all.ensures c.to_le_bytes.ensures)
    (rw here (ap (λ (k : ℕ). bytes_of 8 (get_or a.bans.now k 0)) at))
    (omega arith)
    (omega arith)

pub returns : goal.returns
unfolding max_agents
returns c = all-gathered c.loop-higher.invariant _ _ (omega arith) (omega arith)
