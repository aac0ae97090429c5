-- What the settling answers is the outcome of the sheet, and that is counted. Assumes nothing.
use Rattle.std.proofs.Common.{rules, Ok, Err}
use Rattle.abt_dock_text.specs.Settling.{Settles}
use Rattle.model_season.proofs.Theorems.{each-known}
use Rattle.season_figures.proofs.Adding.{settles_ended, ended_known, settles_refused, refused_known, counts_outcome, counts-adds}
use Rattle.season_figures.proofs.Promised.{outcome-tells, count-tells}
use Rattle.season_figures.proofs.figures.Figures.with_sheet.Goals as goal

pub with_ended-requires : goal.with_ended-requires
with_ended-requires c = let S : Settles 100000 c.args.sheet.now (Ok c.in-Ok.ran) = search rules in (ended_known _ _ S).0

pub with_refused-requires : goal.with_refused-requires
with_refused-requires c = let S : Settles 100000 c.args.sheet.now (Err c.in-Err.rejection) = search rules in (refused_known _ _ S).1

pub returns-in-Ok : goal.returns-in-Ok
returns-in-Ok c =
    let S : Settles 100000 c.args.sheet.now (Ok c.in-Ok.ran) = search rules in
    let C = counts_outcome c.args.self c.with_ended.result c.args.sheet.now _ (settles_ended _ _ S) c.with_ended.ensures in
    record { capped = C; adds = counts-adds _ _ _ C; known = each-known c.args.sheet.now; promised = outcome-tells c.args.sheet.now; tells = count-tells _ _ _ C }

pub returns-in-Err : goal.returns-in-Err
returns-in-Err c =
    let S : Settles 100000 c.args.sheet.now (Err c.in-Err.rejection) = search rules in
    let C = counts_outcome c.args.self c.with_refused.result c.args.sheet.now _ (settles_refused _ _ S) c.with_refused.ensures in
    record { capped = C; adds = counts-adds _ _ _ C; known = each-known c.args.sheet.now; promised = outcome-tells c.args.sheet.now; tells = count-tells _ _ _ C }
