-- Each clause is proved where its claim is stated; these are the proofs. Assumes nothing.
use Rattle.model_text.proofs.Cases.{texts-read, records-end, faults-said, sheets-told, all-printed}
use Rattle.promises.proofs.worked.texts.Goals as goal

pub returns-clause-read : goal.returns-clause-read
returns-clause-read c = texts-read

pub returns-clause-records : goal.returns-clause-records
returns-clause-records c = records-end

pub returns-clause-faults : goal.returns-clause-faults
returns-clause-faults c = faults-said

pub returns-clause-told : goal.returns-clause-told
returns-clause-told c = sheets-told

pub returns-clause-printed : goal.returns-clause-printed
returns-clause-printed c = all-printed
