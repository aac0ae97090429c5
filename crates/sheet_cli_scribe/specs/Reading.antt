-- What a text that was read is answered with.
use Rattle.model_text.specs.Faults.{rejection_text}
use Rattle.sheet_text_reader.specs.Walking.{Answer as Answer', Wrote, Fails}
use Rattle.support_cli.specs.Answers.{Answer, refused, tells, hands_over}

-- the sheet that was written into a lent buffer, or the line that says what is wrong
unfoldable pub read_answer : Answer' → Answer
read_answer (Wrote w) = hands_over w
read_answer (Fails n fault w) = tells (rejection_text n fault) refused
