-- What is no ban, a fault, or one record more. Assumes nothing.
use Rattle.std.proofs.Common.{refl, sym, ap, ◌∙◌}
use Rattle.std.proofs.lemmas.Result.{err_from_is_err_and}
use Rattle.model_text.specs.Drafts.{Wrong, ban_tests, Next}
use Rattle.sheet_text_statements.specs.Saying.{ban_from}
use Rattle.sheet_text_drafts.specs.Faults.{fault_of}
use Rattle.sheet_text_drafts.specs.Drafting.{draft_in, judged, taken_of}
use Rattle.sheet_text_drafts.proofs.Judging.{passes, stops-at, goes_on, stops, need-right, absent}
use Rattle.sheet_text_drafts.proofs.Taking.{ban-unclear, ban-wrong, ban-next}
use Rattle.sheet_text_drafts.proofs.draft.Draft.add_ban.Goals as goal

pub returns-in_err-q-clause-taken : goal.returns-in_err-q-clause-taken
unfolding taken_of judged
returns-in_err-q-clause-taken c =
    let p = err_from_is_err_and c.from_residual.result c.from_residual.ensures.1 in
    let n = c.in_err-q.ensures in
    rw (p.1, p.2)
    (ap (λ f. Wrong (fault_of f)) (absent _ _ _ n.ok_part n.value)
    ∙ ban-unclear (draft_in c.args.self.now) _ _ n.ok_part c.ban_in.ensures)

pub returns-in_err-check_pair-clause-taken : goal.returns-in_err-check_pair-clause-taken
unfolding taken_of judged ban_tests
returns-in_err-check_pair-clause-taken c =
    let p = err_from_is_err_and c.from_residual-in_err-check_pair.result c.from_residual-in_err-check_pair.ensures.1 in
    rw (p.1, p.2)
    (ban-wrong (draft_in c.args.self.now) _ c.in_ok-q.q (sym (ap ban_from c.in_ok-q.ensures.ok_part) ∙ c.ban_in.ensures)
    (stops _ c.in_err-check_pair.ensures.tests))

pub returns-in_err-need-clause-taken : goal.returns-in_err-need-clause-taken
unfolding taken_of judged ban_tests draft_in
returns-in_err-need-clause-taken c =
    let p = err_from_is_err_and c.from_residual-in_err-need.result c.from_residual-in_err-need.ensures.1 in
    rw (p.1, p.2)
    (ban-wrong (draft_in c.args.self.now) _ c.in_ok-q.q (sym (ap ban_from c.in_ok-q.ensures.ok_part) ∙ c.ban_in.ensures)
    (goes_on c.in_ok-check_pair.ensures.tests (stops-at _ c.owns.ensures.0 refl (sym c.need.ensures ∙ c.in_err-need.was))))

pub returns-in_err-need-2-clause-taken : goal.returns-in_err-need-2-clause-taken
unfolding taken_of judged ban_tests draft_in
returns-in_err-need-2-clause-taken c =
    let p = err_from_is_err_and c.from_residual-in_err-need-2.result c.from_residual-in_err-need-2.ensures.1 in
    rw (p.1, p.2)
    (ban-wrong (draft_in c.args.self.now) _ c.in_ok-q.q (sym (ap ban_from c.in_ok-q.ensures.ok_part) ∙ c.ban_in.ensures)
    (goes_on c.in_ok-check_pair.ensures.tests (passes _ c.owns.ensures.0 (sym c.need.ensures ∙ c.in_ok-need.was) (stops-at _ c.owns-2.ensures.0 refl (sym c.need-2.ensures ∙ c.in_err-need-2.was)))))

pub returns-in_err-check_room-clause-taken : goal.returns-in_err-check_room-clause-taken
unfolding taken_of judged ban_tests draft_in
returns-in_err-check_room-clause-taken c =
    let p = err_from_is_err_and c.from_residual-in_err-check_room.result c.from_residual-in_err-check_room.ensures.1 in
    rw (p.1, p.2)
    (ban-wrong (draft_in c.args.self.now) _ c.in_ok-q.q (sym (ap ban_from c.in_ok-q.ensures.ok_part) ∙ c.ban_in.ensures)
    (goes_on c.in_ok-check_pair.ensures.tests (passes _ c.owns.ensures.0 (sym c.need.ensures ∙ c.in_ok-need.was) (passes _ c.owns-2.ensures.0 (sym c.need-2.ensures ∙ c.in_ok-need-2.was) (c.in_err-check_room.ensures.tests)))))

pub ban_row-requires : goal.ban_row-requires
ban_row-requires c =
    let m = c.in_ok-check_pair.ensures.small in (
      m.0,
      c.owns.ensures.1 (need-right _ _ (sym c.need.ensures ∙ c.in_ok-need.was)),
      m.1,
      c.owns-2.ensures.1 (need-right _ _ (sym c.need-2.ensures ∙ c.in_ok-need-2.was)),
    )

pub returns-clause-taken : goal.returns-clause-taken
unfolding taken_of judged ban_tests draft_in
returns-clause-taken c =
    ap Next c.push.ensures
    ∙ ban-next (draft_in c.args.self.now) _ c.in_ok-q.q (sym (ap ban_from c.in_ok-q.ensures.ok_part) ∙ c.ban_in.ensures)
    (goes_on c.in_ok-check_pair.ensures.tests (passes _ c.owns.ensures.0 (sym c.need.ensures ∙ c.in_ok-need.was) (passes _ c.owns-2.ensures.0 (sym c.need-2.ensures ∙ c.in_ok-need-2.was) (c.in_ok-check_room.ensures.tests)))) _ c.ban_row.ensures
