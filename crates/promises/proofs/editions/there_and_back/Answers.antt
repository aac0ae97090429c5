-- Each clause is proved where its claim is stated; these are the proofs. Assumes nothing.
use Rattle.theorems_editions.proofs.Theorems.{back-again, twice-from-gaps, twice-from-bans}
use Rattle.promises.proofs.editions.there_and_back.Goals as goal

pub returns-clause-back_again : goal.returns-clause-back_again
returns-clause-back_again c = back-again

pub returns-clause-from_gaps : goal.returns-clause-from_gaps
returns-clause-from_gaps c = twice-from-gaps

pub returns-clause-from_bans : goal.returns-clause-from_bans
returns-clause-from_bans c = twice-from-bans
