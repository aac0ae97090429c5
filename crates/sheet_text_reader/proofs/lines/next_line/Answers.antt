-- Up to the newline, or to the end where there is none. Assumes nothing.
use Rattle.std.proofs.Common.{◌+◌, sym, ◌∙◌, eqb-true}
use borrow.Author.Tests.{eqb-false}
use Rattle.model_text.specs.Words.{is_newline}
use Rattle.sheet_text_statements.proofs.Searching.{position-some, position-none}
use Rattle.std.proofs.lemmas.List.{take_rest}
use Rattle.sheet_text_reader.proofs.Walked.{empty_none, next-ended, next-cut, next-last}
use Rattle.sheet_text_reader.proofs.lines.next_line.Goals as goal
use Rattle.sheet_text_reader.proofs.lines.next_line.Goals.{then-cut, else-cut}

pub returns-in-Some : goal.returns-in-Some
unfolding is_newline
returns-in-Some c = next-ended _ _ _ _ (position-some is_newline _ _ c.in-Some.ensures) (take_rest c.args.text.now (c.in-Some.end + 1))

pub returns-in-None : goal.returns-in-None
unfolding is_newline
returns-in-None c =
    elim c.if-cut.branch [
      | then-cut w ↦ next-cut _ _ w.if-cut.true (position-none is_newline _ c.in-None.ensures)
      | else-cut w ↦ empty_none _ _ (eqb-true _ 0 (sym w.is_empty.ensures ∙ sym w.value-is ∙ c.if-is_empty.true))
    ]

pub returns-in-None-2 : goal.returns-in-None-2
unfolding is_newline
returns-in-None-2 c =
    elim c.if-cut.branch [
      | then-cut w ↦ (let z : ⊥ = cc in absurd z)
      | else-cut w ↦
          next-last _ _ _ _ w.if-cut.false (eqb-false _ 0 (sym w.is_empty.ensures ∙ sym w.value-is ∙ c.if-is_empty.false))
          (position-none is_newline _ c.in-None.ensures) c.split_at.ensures.front c.split_at.ensures.back
    ]
