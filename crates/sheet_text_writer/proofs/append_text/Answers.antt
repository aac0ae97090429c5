-- `append_text` puts the slot counts and the records.
-- The two parts one behind the other.
use Rattle.std.proofs.Common.{refl, rules}
use Rattle.model_sheet.specs.Sheet.{edition_in}
use Rattle.model_sheet.specs.Chain.{rows_in}
use Rattle.sheet_reader.specs.Abstract.{problem_of}
use Rattle.support_buffer.proofs.Puts.{adds_then}
use Rattle.support_buffer.proofs.Appending.{from-start}
use Rattle.model_text.specs.Telling.{slots_line, row_lines, text_from}
use Rattle.sheet_text_writer.proofs.Rooms.{room-start, room-first, room-rest}
use Rattle.sheet_text_writer.proofs.Answers.{agents-few}
use Rattle.sheet_text_writer.proofs.append_text.Goals as goal

pub append_slots-requires : goal.append_slots-requires
unfolding text_from problem_of
append_slots-requires c =
    let s = c.args.s.now in
    (agents-few _ (problem_of c.args.p) c.requires.0, room-first _ (row_lines (edition_in s) (rows_in s)) (room-start _ _ refl c.requires.1))

pub append_rows-requires : goal.append_rows-requires
unfolding text_from
append_rows-requires c =
    let p = problem_of c.args.p in
    (record { problem = p; valid = c.requires.0 }, room-rest (slots_line p) _ (room-start _ _ refl c.requires.1) c.append_slots.ensures)

pub returns : goal.returns
unfolding text_from
returns c = let all = adds_then c.append_slots.ensures c.append_rows.ensures in search (rules, from-start refl all, all.same)
