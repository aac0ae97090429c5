use Rattle.sheet_text_reader.specs.Walking.{read_of}
use Rattle.sheet_cli_scribe.specs.Reading.{read_answer}
use Rattle.sheet_cli_scribe.proofs.answer_sheet.Goals as goal

pub returns-in-Ok : goal.returns-in-Ok
unfolding read_of read_answer
returns-in-Ok g c = rw c.in-Ok.is c.hand_over.ensures

pub returns-in-Err : goal.returns-in-Err
returns-in-Err g c = rw c.in-Err.is c.answer_unread.ensures
