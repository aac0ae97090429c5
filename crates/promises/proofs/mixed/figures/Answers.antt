-- Each clause is proved where its claim is stated; these are the proofs. Assumes nothing.
use Rattle.theorems_lists.proofs.Theorems.{sheet-counts-exact-mixed, counts-exact-mixed, sheet-counts-capped-mixed, counts-capped-mixed, sheet-sent-is-received-and-waiting-mixed, sent-is-received-and-waiting-mixed, sheet-sent-is-received-and-waiting-of-mixed, sent-is-received-and-waiting-of-mixed, counts-never-fall-mixed}
use Rattle.promises.proofs.mixed.figures.Goals as goal

pub returns-clause-exact : goal.returns-clause-exact
returns-clause-exact c = sheet-counts-exact-mixed

pub returns-clause-exact_of_problems : goal.returns-clause-exact_of_problems
returns-clause-exact_of_problems c = counts-exact-mixed

pub returns-clause-capped : goal.returns-clause-capped
returns-clause-capped c = sheet-counts-capped-mixed

pub returns-clause-capped_of_problems : goal.returns-clause-capped_of_problems
returns-clause-capped_of_problems c = counts-capped-mixed

pub returns-clause-balanced : goal.returns-clause-balanced
returns-clause-balanced c = sheet-sent-is-received-and-waiting-mixed

pub returns-clause-balanced_of_problems : goal.returns-clause-balanced_of_problems
returns-clause-balanced_of_problems c = sent-is-received-and-waiting-mixed

pub returns-clause-balanced_by_sort : goal.returns-clause-balanced_by_sort
returns-clause-balanced_by_sort c = sheet-sent-is-received-and-waiting-of-mixed

pub returns-clause-balanced_by_sort_of_problems : goal.returns-clause-balanced_by_sort_of_problems
returns-clause-balanced_by_sort_of_problems c = sent-is-received-and-waiting-of-mixed

pub returns-clause-never_fall : goal.returns-clause-never_fall
returns-clause-never_fall c = counts-never-fall-mixed
