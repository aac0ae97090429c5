-- `nogoods_without` is the mask of the nogoods that do not name an agent.
-- From the lowest own value up. The invariant: the first i have their bits, and there are no others.
use Rattle.std.proofs.Common.{◌≡◌}
use Rattle.model_base.specs.Sets.{mask_from}
use Rattle.abt_choosing.proofs.Spared.{spares}
use Rattle.abt_choosing.proofs.nogoods_without.Given as goal

abbrev pub invariant-loop-i : goal.invariant-loop-i
invariant-loop-i l = l.mask ≡ mask_from (spares l.nogoods l.k) 1 l.i
