-- `choose` is the rule of choosing.
-- The trailing zeros of the mask of free values give the value taken, and how many get a reason.
use Rattle.std.proofs.Common.{None, Some, ℕ, ◌+◌, ◌≤◌, ◌≡◌, sym, ◌∙◌, ◌≢◌, arith}
use lib.Count.{count_trailing_zeros}
use Rattle.model_base.specs.Finite.{lowest}
use Rattle.model_base.proofs.Masks.{mask-lowest, mask-none}
use Rattle.model_base.specs.Sets.{mask_from}
use Rattle.abt_choosing.specs.Conflicts.{ConfigFits}
use Rattle.abt_choosing.specs.Choosing.{left_free, Barred}
use Rattle.abt_choosing.specs.declared.AgentConfig.{AgentConfig}
use Rattle.abt_choosing.specs.declared.Conflicts.{Conflicts}
use Rattle.abt_choosing.proofs.Choices.{tried-all, chose_none, tried-below, next-free, chose-some}
use Rattle.abt_choosing.proofs.choose.Goals as goal
use Rattle.abt_choosing.proofs.choose.Goals.{else-mask-ne0, then-mask-ne0}

-- a mask that has a bit: its trailing zeros give the lowest free value
lowest-free : (own : AgentConfig) (nogood_mask : ℕ) (bars : Conflicts) (mask : ℕ) → ConfigFits own → mask ≡ mask_from (left_free nogood_mask bars) 1 own.domain → mask ≢ 0
    → lowest own.domain 1 (left_free nogood_mask bars) ≡ Some (1 + count_trailing_zeros 8 mask)
lowest-free own nogood_mask bars mask fits e n = rw e (mask-lowest _ 1 _ 8 fits.few (omega (arith, e, n)))

none_free : (own : AgentConfig) (nogood_mask : ℕ) (bars : Conflicts) (mask : ℕ) → mask ≡ mask_from (left_free nogood_mask bars) 1 own.domain → mask ≡ 0
    → lowest own.domain 1 (left_free nogood_mask bars) ≡ None
none_free own nogood_mask bars mask e z = mask-none _ 1 _ (sym e ∙ z)

pub give_reasons-nogood_mask-requires-clause-none_free :
    goal.give_reasons-nogood_mask-requires-clause-none_free
give_reasons-nogood_mask-requires-clause-none_free c =
    let t : (c.if-mask-ne0.tried.0 ≤ c.args.own.domain) × Barred c.args.nogood_mask c.args.conflicts c.if-mask-ne0.tried.0 =
    elim c.if-mask-ne0.branch [
      | then-mask-ne0 u ↦
          let below = tried-below _ _ _ _ (lowest-free c.args.own c.args.nogood_mask c.args.conflicts _ c.requires.own_fits c.free_values-mask.ensures u.if-mask-ne0.true) in
          rw u.tried-is (omega (arith, below.0), below.1)
      | else-mask-ne0 u ↦
          rw u.tried-is
          (omega arith, tried-all _ _ _ (none_free c.args.own c.args.nogood_mask c.args.conflicts _ c.free_values-mask.ensures u.if-mask-ne0.false))
    ] in
    (c.requires.coherent.0, t.0, t.1)

pub returns-clause-chose : goal.returns-clause-chose
returns-clause-chose c =
    let g = c.give_reasons-nogood_mask.ensures.reasoned in (
      g.0,
      elim c.if-mask-ne0.branch [
        | then-mask-ne0 u ↦
            let e = lowest-free c.args.own c.args.nogood_mask c.args.conflicts _ c.requires.own_fits c.free_values-mask.ensures u.if-mask-ne0.true in
            rw u.tried-is
            (chose-some c.args.own _ c.args.conflicts c.args.nogood_mask c.args.nogoods.now _ _ c.requires.own_fits (rw u.tried-is at g.1)
            (tried-below _ _ _ _ e).0 (next-free _ _ _ _ e))
        | else-mask-ne0 u ↦ rw u.tried-is (chose_none c.args.own _ c.args.conflicts _ _ (rw u.tried-is at g.1))
      ],
    )
