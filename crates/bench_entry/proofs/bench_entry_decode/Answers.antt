-- The fault's number, or a word of the table that the sheet is decoded to.
use Rattle.std.proofs.Common.{◌∙◌, rules}
use Rattle.bench_entry.proofs.Giving.{fault-given, word-given, no-word-given}
use Rattle.bench_entry.proofs.bench_entry_decode.Goals as goal

pub returns-then-word-lt66 : goal.returns-then-word-lt66
returns-then-word-lt66 c = word-given _ _ c.in-Ok.problem c.in-Ok.ensures

pub returns-else-word-lt66 : goal.returns-else-word-lt66
returns-else-word-lt66 c = no-word-given _ _ c.in-Ok.problem c.in-Ok.ensures (search rules)

pub returns-in-Err : goal.returns-in-Err
returns-in-Err c = c.from.ensures ∙ c.number.ensures ∙ fault-given _ _ c.in-Err.rejection c.in-Err.ensures
