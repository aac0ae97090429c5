-- Call by call.
use Rattle.std.proofs.Common.{refl, sym, ◌∙◌}
use Rattle.std.proofs.lemmas.Result.{err_from_is_err_and}
use Rattle.std.proofs.lemmas.Bool.{false≢true}
use Rattle.support_cli.specs.Answers.{prints}
use Rattle.abt_board_text.proofs.CommandLines.{shorter}
use Rattle.abt_cli_board.proofs.Playing.{playing-begins, playing-goes, playing-ends, playing-stops, playing-short}
use Rattle.abt_cli_board.proofs.play.Goals as goal

pub loop-word-init : goal.loop-word-init
loop-word-init g c = playing-begins _ _ _

pub loop-word-preserved : goal.loop-word-preserved
loop-word-preserved g c =
    playing-goes c.loop-word.invariant _ _ _ _ _ _ c.in-Some.ensures c.in_ok-stepped.ensures.said c.in_ok-stepped.ensures.after c.status_of.ensures c.or-status.ensures

pub loop-word-smaller : goal.loop-word-smaller
loop-word-smaller g c = shorter _ _ _ c.in-Some.ensures

pub returns-then-has_failed : goal.returns-then-has_failed
unfolding prints
returns-then-has_failed g c =
    let failed = sym c.has_failed.ensures ∙ c.if-has_failed.true in
    (playing-stops c.loop-word.invariant failed, λ good. absurd (false≢true (sym good ∙ failed)), refl)

pub returns-in_err-stepped : goal.returns-in_err-stepped
unfolding prints
returns-in_err-stepped g c =
    let failed = err_from_is_err_and c.from_residual.result c.from_residual.ensures.1 in
    rw (failed.1, c.in_err-stepped.ensures.said) (playing-short c.loop-word.invariant)

pub returns : goal.returns
unfolding prints
returns g c =
    let p = playing-ends c.loop-word.invariant c.in_default.ensures in
    (p.0, λ good. p.1, refl)
