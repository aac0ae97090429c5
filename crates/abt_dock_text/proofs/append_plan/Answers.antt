-- The slots of a plan, and nothing for the other words. Assumes nothing.
use Rattle.std.proofs.Common.{◌≡◌, [], refl, ap, arith}
use Rattle.model_network.specs.Network.{Network}
use Rattle.abt_record.specs.Abstract.{network_of}
use Rattle.abt_engine.specs.declared.Ending.{Ending}
use Rattle.abt_engine.specs.declared.Ending.TheVariants.{Unsolvable, Plan, Jammed, Open, Broken}
use Rattle.abt_engine.specs.Answers.{ending_of}
use Rattle.support_buffer.proofs.Puts.{none_left, all_left}
use Rattle.abt_dock_text.specs.Text.{plan_lines}
use Rattle.abt_dock_text.proofs.append_plan.Goals as goal

pub append_slots-requires-clause-few : goal.append_slots-requires-clause-few
unfolding ending_of
append_slots-requires-clause-few c = c.requires.few (ap ending_of c.in-Plan.is)

pub returns-in-Plan : goal.returns-in-Plan
unfolding plan_lines ending_of
returns-in-Plan c = let e : c.args.e ≡ Plan = c.in-Plan.is in rw e c.append_slots.ensures

nothing : (e : Ending) (w : Network) → (e ≡ Plan → ⊥) → plan_lines (ending_of e) w ≡ []
unfolding plan_lines ending_of
nothing Unsolvable w n = refl
nothing Plan w n = absurd (n refl)
nothing Jammed w n = refl
nothing Open w n = refl
nothing Broken w n = refl

pub returns-in_default : goal.returns-in_default
returns-in_default c =
    rw (nothing c.args.e (network_of c.args.r) c.in_default.not-Plan) (none_left (all_left _ [] refl (omega (arith, c.requires.room))) refl)
