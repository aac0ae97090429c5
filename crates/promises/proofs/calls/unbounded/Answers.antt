-- Each clause is proved where its claim is stated; these are the proofs. Assumes nothing.
use Rattle.theorems_spinning.proofs.Theorems.{of-a-sheet, spins, never-full, passes-the-bound, deliveries-unbounded}
use Rattle.promises.proofs.calls.unbounded.Goals as goal

pub returns-clause-sheet : goal.returns-clause-sheet
returns-clause-sheet c = of-a-sheet

pub returns-clause-accepted : goal.returns-clause-accepted
returns-clause-accepted c = spins

pub returns-clause-never_full : goal.returns-clause-never_full
returns-clause-never_full c = never-full

pub returns-clause-passes : goal.returns-clause-passes
returns-clause-passes c = passes-the-bound

pub returns-clause-unbounded : goal.returns-clause-unbounded
returns-clause-unbounded c = deliveries-unbounded
