-- Each clause is proved where its claim is stated; these are the proofs. Assumes nothing.
use Rattle.theorems_network.proofs.Theorems.{sheet-counts-exact, counts-exact, sheet-counts-capped, counts-capped, sheet-sent-is-received-and-waiting, sent-is-received-and-waiting, sheet-sent-is-received-and-waiting-of, sent-is-received-and-waiting-of, counts-never-fall}
use Rattle.promises.proofs.calls.figures.Goals as goal

pub returns-clause-exact : goal.returns-clause-exact
returns-clause-exact c = sheet-counts-exact

pub returns-clause-exact_of_problems : goal.returns-clause-exact_of_problems
returns-clause-exact_of_problems c = counts-exact

pub returns-clause-capped : goal.returns-clause-capped
returns-clause-capped c = sheet-counts-capped

pub returns-clause-capped_of_problems : goal.returns-clause-capped_of_problems
returns-clause-capped_of_problems c = counts-capped

pub returns-clause-balanced : goal.returns-clause-balanced
returns-clause-balanced c = sheet-sent-is-received-and-waiting

pub returns-clause-balanced_of_problems : goal.returns-clause-balanced_of_problems
returns-clause-balanced_of_problems c = sent-is-received-and-waiting

pub returns-clause-balanced_by_sort : goal.returns-clause-balanced_by_sort
returns-clause-balanced_by_sort c = sheet-sent-is-received-and-waiting-of

pub returns-clause-balanced_by_sort_of_problems : goal.returns-clause-balanced_by_sort_of_problems
returns-clause-balanced_by_sort_of_problems c = sent-is-received-and-waiting-of

pub returns-clause-never_fall : goal.returns-clause-never_fall
returns-clause-never_fall c = counts-never-fall
