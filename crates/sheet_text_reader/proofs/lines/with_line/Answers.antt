-- By its first word, if there is one. Assumes nothing.
use Rattle.std.proofs.Common.{◌∙◌}
use Rattle.model_text.specs.Statements.{slots_word, ban_word, gap_word}
use Rattle.sheet_text_drafts.specs.Drafting.{draft_in, judged, taken_of}
use Rattle.sheet_text_reader.proofs.Walked.{compared, says_nothing, says-slots, says-ban, says-gap, says-none}
use Rattle.sheet_text_reader.proofs.lines.with_line.Goals as goal

pub returns-in_default : goal.returns-in_default
returns-in_default c = says_nothing _ _ c.without_comment.ensures c.args.draft.now c.in_default.ensures

pub returns-then-eq : goal.returns-then-eq
unfolding slots_word
returns-then-eq c = c.set_slots.ensures.taken ∙ says-slots _ _ c.without_comment.ensures (draft_in c.args.draft.now) _ _ c.in-Some.ensures.0
    (compared _ c.as_slice.ensures c.eq.ensures c.if-eq.true)

pub returns-then-eq-2 : goal.returns-then-eq-2
unfolding slots_word ban_word
returns-then-eq-2 c = c.add_ban.ensures.taken ∙ says-ban _ _ c.without_comment.ensures (draft_in c.args.draft.now) _ _ c.in-Some.ensures.0
    (compared _ c.as_slice.ensures c.eq.ensures c.if-eq.false) (compared _ c.as_slice-else-eq.ensures c.eq-else-eq.ensures c.if-eq-2.true)

pub returns-then-eq-3 : goal.returns-then-eq-3
unfolding slots_word ban_word gap_word
returns-then-eq-3 c = c.add_gap.ensures.taken ∙ says-gap _ _ c.without_comment.ensures (draft_in c.args.draft.now) _ _ c.in-Some.ensures.0
    (compared _ c.as_slice.ensures c.eq.ensures c.if-eq.false) (compared _ c.as_slice-else-eq.ensures c.eq-else-eq.ensures c.if-eq-2.false) (compared _ c.as_slice-else-eq-2.ensures c.eq-else-eq-2.ensures c.if-eq-3.true)

pub returns-else-eq-3 : goal.returns-else-eq-3
unfolding slots_word ban_word gap_word taken_of judged
returns-else-eq-3 c = says-none _ _ c.without_comment.ensures (draft_in c.args.draft.now) _ _ c.in-Some.ensures.0
    (compared _ c.as_slice.ensures c.eq.ensures c.if-eq.false) (compared _ c.as_slice-else-eq.ensures c.eq-else-eq.ensures c.if-eq-2.false) (compared _ c.as_slice-else-eq-2.ensures c.eq-else-eq-2.ensures c.if-eq-3.false)
