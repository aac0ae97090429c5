-- `put_reasons` puts the reasons of own values 1 to 8: so many of them are put.
use Rattle.std.proofs.Common.{refl, arith}
use Rattle.model_sheet.specs.Problem.{max_domain}
use Rattle.support_buffer.proofs.Puts.{none_gathered, one_more, all-gathered}
use Rattle.abt_image_writer.proofs.Records.{reason-at}
use Rattle.abt_image_writer.proofs.agents.put_reasons.Goals as goal

pub loop-v-init : goal.loop-v-init
loop-v-init c = none_gathered _ _ 0 1 0 (omega arith) refl refl

pub loop-v-preserved : goal.loop-v-preserved
loop-v-preserved c =
    let a = c.args in
    one_more c.loop-v.invariant _ _ c.put_reason.ensures (rw c.then_some.ensures (reason-at a.nogood_mask a.nogoods.now c.loop-v.v)) refl (omega arith)

pub returns : goal.returns
unfolding max_domain
returns c = all-gathered c.loop-v.invariant 104 8 (omega arith) (omega arith)
