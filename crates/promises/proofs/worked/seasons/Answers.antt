-- Each clause is proved where its claim is stated; these are the proofs. Assumes nothing.
use Rattle.model_season.proofs.Cases.{nights-end}
use Rattle.season_text.proofs.Cases.{all-print}
use Rattle.promises.proofs.worked.seasons.Goals as goal

pub returns-clause-outcomes : goal.returns-clause-outcomes
returns-clause-outcomes c = nights-end

pub returns-clause-printed : goal.returns-clause-printed
returns-clause-printed c = all-print
