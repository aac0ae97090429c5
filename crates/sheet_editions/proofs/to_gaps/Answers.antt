-- `to_gaps` answers and writes as the definition says.
-- The outcome of reading decides, then the test; the rows of its problem are the gap sheet's.
use Rattle.std.proofs.Common.{Err, ◌≡◌, sym, ◌∙◌}
use Rattle.support_rejection.specs.declared.Rejection.TheVariants.{NotSayable}
use Rattle.std.proofs.lemmas.Result.{err_from_is_err_and}
use Rattle.support_buffer.specs.Abstract.{written_of}
use Rattle.support_buffer.proofs.Within.{counted}
use Rattle.model_editions.specs.Turning.{not_sayable, to_gaps}
use Rattle.sheet_reader.proofs.Outcomes.{accepted}
use Rattle.sheet_editions.proofs.Answers.{gaps-within, gaps-ready, answers-no-gaps, answers-unsayable, answers-gaps}
use Rattle.sheet_editions.proofs.Words.{most}
use Rattle.sheet_editions.proofs.to_gaps.Goals as goal

pub returns-in_err-decode_as : goal.returns-in_err-decode_as
unfolding written_of
returns-in_err-decode_as c =
    let p = err_from_is_err_and c.from_residual.result c.from_residual.ensures.1 in
    let e : written_of c.from_residual.result c.args.out.now ≡ to_gaps c.args.s.now c.args.out.now =
    rw (p.1, p.2) (sym (answers-no-gaps _ _ _ c.in_err-decode_as.ensures)) in
    record { out_after = e; length_in_bounds = counted _ _ _ e (gaps-within c.args.s.now c.args.out.now) }

pub invariant_of-p : goal.invariant_of-p
invariant_of-p c =
    let good = (gaps-ready _ _ (accepted _ _ c.in_ok-decode_as.ensures)).0 in
    record { few = most _ good; good = good }

pub returns-then-not-is_sayable : goal.returns-then-not-is_sayable
unfolding written_of not_sayable
returns-then-not-is_sayable c =
    let e : written_of (Err NotSayable) c.args.out.now ≡ to_gaps c.args.s.now c.args.out.now =
    sym (answers-unsayable _ _ _ (accepted _ _ c.in_ok-decode_as.ensures) (sym c.is_sayable.ensures ∙ c.if-not-is_sayable.true)) in
    record { out_after = e; length_in_bounds = counted (Err NotSayable) c.args.out.now _ e (gaps-within c.args.s.now c.args.out.now) }

pub put_sheet-requires : goal.put_sheet-requires
put_sheet-requires c = (gaps-ready _ _ (accepted _ _ c.in_ok-decode_as.ensures)).1

pub returns : goal.returns
returns c =
    let e =
    c.put_sheet.ensures
    ∙ sym (answers-gaps _ _ _ (accepted _ _ c.in_ok-decode_as.ensures) (sym c.is_sayable.ensures ∙ c.if-not-is_sayable.false)) in
    record { out_after = e; length_in_bounds = counted _ _ _ e (gaps-within c.args.s.now c.args.out.now) }
