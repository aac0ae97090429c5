use Rattle.sheet_text_reader.specs.Walking.{read_of}
use Rattle.sheet_cli_scribe.specs.Reading.{read_answer}
use Rattle.sheet_cli_scribe.proofs.answer_unread.Goals as goal

pub returns-in-Refused : goal.returns-in-Refused
unfolding read_of read_answer
returns-in-Refused g c = rw c.in-Refused.is c.hand_over.ensures

pub returns-in-RejectedLine : goal.returns-in-RejectedLine
unfolding read_of read_answer
returns-in-RejectedLine g c = rw c.in-RejectedLine.is c.tell_fault.ensures
