-- Each clause is proved where its claim is stated; these are the proofs. Assumes nothing.
use Rattle.model_sheet.proofs.Cases.{cases-hold}
use Rattle.promises.proofs.worked.sheets.Goals as goal

pub returns : goal.returns
returns c = record { sheets = cases-hold }
