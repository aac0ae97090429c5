-- Each clause is proved where its claim is stated; these are the proofs. Assumes nothing.
use Rattle.model_sheet.proofs.Sheet.{decode-in-range, bans-as-said, links-as-banned}
use Rattle.promises.proofs.Beside.{cut-decodes}
use Rattle.promises.proofs.sheets.reading.Goals as goal

pub returns-clause-in_range : goal.returns-clause-in_range
returns-clause-in_range c = decode-in-range

pub returns-clause-bans : goal.returns-clause-bans
returns-clause-bans c = bans-as-said

pub returns-clause-links : goal.returns-clause-links
returns-clause-links c = links-as-banned

pub returns-clause-cut : goal.returns-clause-cut
returns-clause-cut c = cut-decodes
