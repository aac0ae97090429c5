-- `to_bans` answers and writes as the definition says.
-- The outcome of reading decides; the rows of its problem are the ban sheet's.
use Rattle.std.proofs.Common.{◌≡◌, sym, ◌∙◌}
use Rattle.std.proofs.lemmas.Result.{err_from_is_err_and}
use Rattle.support_buffer.specs.Abstract.{written_of}
use Rattle.support_buffer.proofs.Within.{counted}
use Rattle.sheet_reader.proofs.Outcomes.{accepted}
use Rattle.model_editions.specs.Turning.{to_bans}
use Rattle.sheet_editions.proofs.Answers.{bans-within, bans-ready, answers-no-bans, answers-bans}
use Rattle.sheet_editions.proofs.Words.{most}
use Rattle.sheet_editions.proofs.to_bans.Goals as goal

pub returns-in_err-decode_as : goal.returns-in_err-decode_as
unfolding written_of
returns-in_err-decode_as c =
    let p = err_from_is_err_and c.from_residual.result c.from_residual.ensures.1 in
    let e : written_of c.from_residual.result c.args.out.now ≡ to_bans c.args.s.now c.args.out.now =
    rw (p.1, p.2) (sym (answers-no-bans _ _ _ c.in_err-decode_as.ensures)) in
    record { out_after = e; length_in_bounds = counted _ _ _ e (bans-within c.args.s.now c.args.out.now) }

pub invariant_of-p : goal.invariant_of-p
invariant_of-p c =
    let good = (bans-ready _ _ (accepted _ _ c.in_ok-decode_as.ensures)).0 in
    record { few = most _ good; good = good }

pub put_sheet-requires : goal.put_sheet-requires
put_sheet-requires c = (bans-ready _ _ (accepted _ _ c.in_ok-decode_as.ensures)).1

pub returns : goal.returns
returns c =
    let e =
    c.put_sheet.ensures ∙ sym (answers-bans _ _ _ (accepted _ _ c.in_ok-decode_as.ensures)) in
    record { out_after = e; length_in_bounds = counted _ _ _ e (bans-within c.args.s.now c.args.out.now) }
