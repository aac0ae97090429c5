use Rattle.std.proofs.Common.{sym, ◌∙◌}
use Rattle.season_cli.proofs.Words.{none_given, unread, surplus, alone, serves_blind, serves_so}
use Rattle.season_cli.proofs.season.Goals as goal

pub returns-in_default : goal.returns-in_default
returns-in_default g c = serves_so _ _ (none_given _ c.in_default.ensures) c.follow.ensures

pub returns-then-not-is_progress : goal.returns-then-not-is_progress
returns-then-not-is_progress g c =
    serves_blind _ _ (unread _ _ _ c.in-Some.ensures (sym c.is_progress.ensures ∙ c.if-not-is_progress.true)) c.put_wrong.ensures

pub returns-in-None : goal.returns-in-None
returns-in-None g c =
    serves_so _ _ (alone _ _ _ c.in-Some.ensures (sym c.is_progress.ensures ∙ c.if-not-is_progress.false) c.in-None.ensures) c.follow-in-None.ensures

pub returns-in-Some-first_word : goal.returns-in-Some-first_word
returns-in-Some-first_word g c =
    serves_blind _ _
    (surplus _ _ _ c.in-Some.ensures (sym c.is_progress.ensures ∙ c.if-not-is_progress.false) _ _ c.in-Some-first_word.ensures)
    c.put_wrong-in-Some-first_word.ensures
