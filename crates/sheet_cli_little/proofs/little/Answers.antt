use Rattle.std.proofs.Common.{sym, ◌∙◌}
use Rattle.sheet_cli_little.proofs.Words.{none_given, unread, surplus, alone}
use Rattle.sheet_cli_little.proofs.little.Goals as goal

pub returns-in_default : goal.returns-in_default
returns-in_default g c = rw (none_given _ c.in_default.ensures) c.complain.ensures

pub returns-in_default-read_number : goal.returns-in_default-read_number
returns-in_default-read_number g c =
    rw (unread _ _ _ c.in-Some.ensures (sym c.read_number.ensures ∙ c.in_default-read_number.is)) c.complain-in_default-read_number.ensures

pub returns-in-Some-first_word : goal.returns-in-Some-first_word
returns-in-Some-first_word g c =
    let known = sym c.read_number.ensures ∙ c.in-Some-read_number.is in
    rw (surplus _ _ _ c.in-Some.ensures _ known _ _ c.in-Some-first_word.ensures) c.complain-in-Some-first_word.ensures

pub returns : goal.returns
returns g c =
    let known = sym c.read_number.ensures ∙ c.in-Some-read_number.is in
    rw (alone _ _ _ c.in-Some.ensures _ known c.in_default-first_word.ensures) c.put_little.ensures
