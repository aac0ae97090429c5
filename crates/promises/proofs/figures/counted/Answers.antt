-- Each clause is proved where its claim is stated; these are the proofs. Assumes nothing.
use Rattle.model_season.proofs.Theorems.{each-known, add-up, one-more-sheet, mean-over, sum_bound}
use Rattle.promises.proofs.figures.counted.Goals as goal

pub returns-clause-known : goal.returns-clause-known
returns-clause-known c = each-known

pub returns-clause-add_up : goal.returns-clause-add_up
returns-clause-add_up c = add-up

pub returns-clause-one_more : goal.returns-clause-one_more
returns-clause-one_more c = one-more-sheet

pub returns-clause-mean : goal.returns-clause-mean
returns-clause-mean c = mean-over

pub returns-clause-bounded : goal.returns-clause-bounded
returns-clause-bounded c = sum_bound
