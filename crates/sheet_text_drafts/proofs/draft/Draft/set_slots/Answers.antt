-- What is no statement, test by test, or the slot counts. Assumes nothing.
use Rattle.std.proofs.Common.{refl, sym, ap, ◌∙◌, not, false, true, arith, Err}
use Rattle.std.proofs.lemmas.Result.{err_from_is_err_and}
use Rattle.model_base.specs.Finite.{within}
use Rattle.model_base.proofs.Tests.{within-true}
use Rattle.model_sheet.specs.Problem.{max_agents, max_domain}
use Rattle.model_text.specs.Drafts.{Wrong, slots_tests, with_slots}
use Rattle.sheet_text_statements.specs.Parts.{words_in}
use Rattle.sheet_text_drafts.specs.Faults.{fault_of, needed}
use Rattle.sheet_text_drafts.specs.declared.fault.LineRejection.TheVariants.{DomainSize}
use Rattle.sheet_text_drafts.specs.Drafting.{problem_in, draft_in, judged, taken_of}
use Rattle.sheet_text_drafts.proofs.Judging.{passes, stops-at, passed, need-right, absent}
use Rattle.sheet_text_drafts.proofs.Taking.{slots-unclear, slots-count, slots-sized, slots-odd, slots-wrong, slots-next}
use Rattle.sheet_text_drafts.proofs.draft.Draft.set_slots.Goals as goal

pub returns-in_err-slots-clause-taken : goal.returns-in_err-slots-clause-taken
unfolding taken_of judged
returns-in_err-slots-clause-taken c =
    let p = err_from_is_err_and c.from_residual.result c.from_residual.ensures.1 in
    let n = c.in_err-slots.ensures in
    rw (p.1, p.2)
    (ap (λ f. Wrong (fault_of f)) (absent _ _ _ n.ok_part n.value)
    ∙ slots-unclear (draft_in c.args.self.now) _ (sym n.ok_part ∙ c.slots_in.ensures))

pub returns-in_err-need-clause-taken : goal.returns-in_err-need-clause-taken
unfolding taken_of judged slots_tests
returns-in_err-need-clause-taken c =
    let p = err_from_is_err_and c.from_residual-in_err-need.result c.from_residual-in_err-need.ensures.1 in
    let words = words_in c.args.args.now in
    let S = sym c.in_ok-slots.ensures.ok_part ∙ c.slots_in.ensures in
    rw (p.1, p.2) (slots-wrong words c.in_ok-slots.slots S (draft_in c.args.self.now) (stops-at _ (ap not c.has_slots.ensures) refl (sym c.need.ensures ∙ c.in_err-need.was)))

pub returns-in_err-need-2-clause-taken : goal.returns-in_err-need-2-clause-taken
unfolding taken_of judged slots_tests max_agents
returns-in_err-need-2-clause-taken c =
    let p = err_from_is_err_and c.from_residual-in_err-need-2.result c.from_residual-in_err-need-2.ensures.1 in
    let words = words_in c.args.args.now in
    let S = sym c.in_ok-slots.ensures.ok_part ∙ c.slots_in.ensures in
    let fresh = ap not c.has_slots.ensures in
    let few = c.within.ensures ∙ ap (within 12) (slots-count words c.in_ok-slots.slots S) in
    rw (p.1, p.2) (slots-wrong words c.in_ok-slots.slots S (draft_in c.args.self.now) (passes _ fresh (sym c.need.ensures ∙ c.in_ok-need.was) (stops-at _ few refl (sym c.need-2.ensures ∙ c.in_err-need-2.was))))

pub returns-in_err-domains-clause-taken : goal.returns-in_err-domains-clause-taken
unfolding taken_of judged slots_tests max_agents max_domain needed
returns-in_err-domains-clause-taken c =
    let p = err_from_is_err_and c.from_residual-in_err-domains.result c.from_residual-in_err-domains.ensures.1 in
    let words = words_in c.args.args.now in
    let S = sym c.in_ok-slots.ensures.ok_part ∙ c.slots_in.ensures in
    let fresh = ap not c.has_slots.ensures in
    let few = c.within.ensures ∙ ap (within 12) (slots-count words c.in_ok-slots.slots S) in
    let n = c.in_err-domains.ensures in
    let odd = slots-odd words c.in_ok-slots.slots S n.ok_part (sym few ∙ need-right _ _ (sym c.need-2.ensures ∙ c.in_ok-need-2.was)) in
    rw (p.1, p.2)
    (slots-wrong words c.in_ok-slots.slots S (draft_in c.args.self.now) (passes _ fresh (sym c.need.ensures ∙ c.in_ok-need.was) (passes _ few (sym c.need-2.ensures ∙ c.in_ok-need-2.was) (stops-at {good = false} DomainSize (sym odd) refl (ap Err (sym (absent _ _ _ n.ok_part n.value)))))))

pub overflow_cast-slots : goal.overflow_cast-slots
overflow_cast-slots c =
    let w = sym c.within.ensures ∙ need-right _ _ (sym c.need-2.ensures ∙ c.in_ok-need-2.was) in omega (arith, within-true 12 _ w)

pub returns-clause-taken : goal.returns-clause-taken
unfolding taken_of judged slots_tests max_agents max_domain needed draft_in problem_in with_slots
returns-clause-taken c =
    let words = words_in c.args.args.now in
    let S = sym c.in_ok-slots.ensures.ok_part ∙ c.slots_in.ensures in
    let fresh = ap not c.has_slots.ensures in
    let few = c.within.ensures ∙ ap (within 12) (slots-count words c.in_ok-slots.slots S) in
    let sized = slots-sized words c.in_ok-slots.slots S c.in_ok-domains.domains c.in_ok-domains.ensures.ok_part in
    slots-next words c.in_ok-slots.slots S (draft_in c.args.self.now)
    (passes _ fresh (sym c.need.ensures ∙ c.in_ok-need.was) (passes _ few (sym c.need-2.ensures ∙ c.in_ok-need-2.was) (passes {good = true} DomainSize (sym sized.0) refl passed))) _
    (rw (c.without_bans-self.ensures, slots-count words c.in_ok-slots.slots S, sized.1) refl)
