-- Test by test. Assumes nothing.
use Rattle.std.proofs.Common.{refl, sym, ◌∙◌}
use Rattle.std.proofs.lemmas.Result.{err_from_is_err_and}
use Rattle.model_text.specs.Drafts.{is_agent, pair_tests}
use Rattle.sheet_reader.specs.Abstract.{problem_of}
use Rattle.sheet_text_drafts.specs.Drafting.{problem_in, draft_in}
use Rattle.sheet_text_drafts.proofs.Judging.{passes, stops-at, last, need-right, always}
use Rattle.sheet_text_drafts.proofs.draft.Draft.check_pair.Goals as goal

pub returns-in_err-need : goal.returns-in_err-need
unfolding pair_tests is_agent draft_in problem_in problem_of
returns-in_err-need c =
    let p = err_from_is_err_and c.from_residual.result c.from_residual.ensures.1 in
    rw (p.1, p.2) (record {
      tests = stops-at _ c.has_slots.ensures refl (sym c.need.ensures ∙ c.in_err-need.was);
      small = tt;
    })

pub returns-in_err-need-2 : goal.returns-in_err-need-2
unfolding pair_tests is_agent draft_in problem_in problem_of
returns-in_err-need-2 c =
    let p = err_from_is_err_and c.from_residual-in_err-need-2.result c.from_residual-in_err-need-2.ensures.1 in
    rw (p.1, p.2) (record {
      tests = passes _ c.has_slots.ensures (sym c.need.ensures ∙ c.in_ok-need.was)
          (stops-at _ c.accepts_edition.ensures refl (sym c.need-2.ensures ∙ c.in_err-need-2.was));
      small = tt;
    })

pub returns-in_err-need-3 : goal.returns-in_err-need-3
unfolding pair_tests is_agent draft_in problem_in problem_of
returns-in_err-need-3 c =
    let p = err_from_is_err_and c.from_residual-in_err-need-3.result c.from_residual-in_err-need-3.ensures.1 in
    rw (p.1, p.2) (record {
      tests = passes _ c.has_slots.ensures (sym c.need.ensures ∙ c.in_ok-need.was)
          (passes _ c.accepts_edition.ensures (sym c.need-2.ensures ∙ c.in_ok-need-2.was)
          (stops-at _ c.up_to.ensures.0 refl (sym c.need-3.ensures ∙ c.in_err-need-3.was)));
      small = tt;
    })

pub returns-in_err-need-4 : goal.returns-in_err-need-4
unfolding pair_tests is_agent draft_in problem_in problem_of
returns-in_err-need-4 c =
    let p = err_from_is_err_and c.from_residual-in_err-need-4.result c.from_residual-in_err-need-4.ensures.1 in
    rw (p.1, p.2) (record {
      tests = passes _ c.has_slots.ensures (sym c.need.ensures ∙ c.in_ok-need.was)
          (passes _ c.accepts_edition.ensures (sym c.need-2.ensures ∙ c.in_ok-need-2.was)
          (passes _ c.up_to.ensures.0 (sym c.need-3.ensures ∙ c.in_ok-need-3.was)
          (stops-at _ c.up_to-2.ensures.0 refl (sym c.need-4.ensures ∙ c.in_err-need-4.was))));
      small = tt;
    })

pub returns : goal.returns
unfolding pair_tests is_agent draft_in problem_in problem_of
returns c =
    record {
      tests = passes _ c.has_slots.ensures (sym c.need.ensures ∙ c.in_ok-need.was)
          (passes _ c.accepts_edition.ensures (sym c.need-2.ensures ∙ c.in_ok-need-2.was)
          (passes _ c.up_to.ensures.0 (sym c.need-3.ensures ∙ c.in_ok-need-3.was)
          (passes _ c.up_to-2.ensures.0 (sym c.need-4.ensures ∙ c.in_ok-need-4.was)
          (last _ refl refl c.need-5.result c.need-5.ensures))));
      small = always
          (c.up_to.ensures.1 (need-right _ _ (sym c.need-3.ensures ∙ c.in_ok-need-3.was)), c.up_to-2.ensures.1 (need-right _ _ (sym c.need-4.ensures ∙ c.in_ok-need-4.was)))
          c.need-5.result;
    }
