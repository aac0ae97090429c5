-- `nogood_mask` is the mask of the stored reasons, from the last down: the mask of the own values above v.
use Rattle.std.proofs.Common.{suc, ◌-◌, ◌≡◌}
use Rattle.model_base.specs.Sets.{mask_from}
use Rattle.abt_image_reader.proofs.Masks.{marked}
use Rattle.abt_image_reader.proofs.agents.nogood_mask.Given as goal

abbrev pub invariant-loop-v : goal.invariant-loop-v
invariant-loop-v l = l.mask ≡ mask_from (marked l.s 18) (suc l.v) (8 - l.v)
