-- How the run ended, its rounds and the values are the definition's; what is made of them fits a word.
use Rattle.std.proofs.Common.{arith}
use Rattle.abt_engine.specs.Answers.{ending_of}
use Rattle.bench_entry.proofs.Giving.{digit-few, refused-given, run-given}
use Rattle.bench_entry.proofs.bench_entry_settle.Goals as goal

pub overflow_add-result-in-Ok : goal.overflow_add-result-in-Ok
overflow_add-result-in-Ok c = omega (arith, c.values_of.ensures.1, c.digit_of.ensures, digit-few (ending_of c.run-ran.result.ending))

pub returns-in-Ok : goal.returns-in-Ok
returns-in-Ok c = rw c.digit_of.ensures (run-given _ _ c.in-Ok.network c.run-ran.result _ c.in-Ok.ensures c.run-ran.ensures.runs_as c.values_of.ensures.0)

pub returns-in-Err : goal.returns-in-Err
returns-in-Err c = rw (c.from.ensures, c.number.ensures) (refused-given _ _ c.in-Err.rejection c.in-Err.ensures)
