-- `little` answers and writes as the definition says.
-- The problem and the rows handed over are those of the ordinal, so what is put is its sheet.
use Rattle.std.proofs.Common.{sym, ap, ◌∙◌, List, ◌≤◌, ◌<◌, le-ltb}
use Rattle.model_base.specs.Lent.{put}
use Rattle.model_sheet.specs.Problem.{Problem}
use Rattle.model_sheet.specs.Row.{Row}
use Rattle.model_sheet.specs.Writing.{written}
use Rattle.sheet_reader.specs.Abstract.{problem_of}
use Rattle.support_buffer.specs.Abstract.{written_of}
use Rattle.support_buffer.proofs.Within.{counted}
use Rattle.model_little.specs.Little.{little_count, sizes, chosen, choice_from}
use Rattle.model_little.specs.Putting.{no_ordinal, put_little}
use Rattle.sheet_little.specs.Abstract.{Means}
use Rattle.sheet_little.specs.Rows.{rows_from}
use Rattle.sheet_little.proofs.Counted.{little-within}
use Rattle.sheet_little.proofs.Sheets.{answers-sheet}
use Rattle.sheet_little.proofs.little.Goals as goal

pub returns-in_default-clause-out_after : goal.returns-in_default-clause-out_after
unfolding no_ordinal put_little written_of
returns-in_default-clause-out_after c = let over : little_count ≤ c.args.ordinal = c.in_default.ensures in rw (le-ltb c.args.ordinal little_count over, put_little)

pub returns : goal.returns
returns c =
    let a = c.args in
    let d = c.in-Some.field-0 in
    let m : (a.ordinal < little_count) × Means d (choice_from sizes a.ordinal) = c.in-Some.ensures in
    let rows = chosen d.bans (rows_from d.counts 0) in
    let e =
    c.put_sheet.ensures
    ∙ ap (λ (l : List Row). put (written 1 (problem_of c.without_bans.result) l) a.out.now) (c.as_slice.ensures.records ∙ c.bans_of-rows.ensures)
    ∙ ap (λ (p : Problem). put (written 1 p rows) a.out.now) c.without_bans.ensures
    ∙ sym (answers-sheet a.ordinal m.0 d m.1 a.out.now) in
    record { out_after = e; length_in_bounds = counted _ _ _ e (little-within a.ordinal a.out.now) }
