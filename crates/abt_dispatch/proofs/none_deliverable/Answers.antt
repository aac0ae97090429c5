-- The word of a run that may use no round.
use Rattle.std.proofs.Common.{◌≢◌, ◌≡◌, refl, sym, ap, ◌∙◌}
use Rattle.abt_engine.specs.declared.Ending.{Ending}
use Rattle.abt_engine.specs.declared.Ending.TheVariants.{Unsolvable, Plan, Jammed, Open, Broken}
use Rattle.abt_engine.specs.Answers.{ending_of}
use Rattle.abt_dispatch.proofs.Standing.{number_for, nothing_for}
use Rattle.abt_dispatch.proofs.none_deliverable.Goals as goal

not-plan : (e : Ending) → e ≢ Plan → 10 ≡ number_for (ending_of e)
unfolding number_for ending_of
not-plan Unsolvable n = refl
not-plan Plan n = absurd (n refl)
not-plan Jammed n = refl
not-plan Open n = refl
not-plan Broken n = refl

pub returns-in-Plan : goal.returns-in-Plan
unfolding number_for ending_of
returns-in-Plan c =
    let a = c.run in
    let e : a.result.ending ≡ Plan = c.in-Plan.is in
    sym (ap (λ (x : Ending). number_for (ending_of x)) e) ∙ ap number_for a.ensures.runs_as.ending ∙ nothing_for _ c.requires

pub returns-in_default : goal.returns-in_default
returns-in_default c =
    let a = c.run in
    not-plan _ c.in_default.not-Plan ∙ ap number_for a.ensures.runs_as.ending ∙ nothing_for _ c.requires
