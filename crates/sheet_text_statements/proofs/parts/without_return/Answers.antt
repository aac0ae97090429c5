-- By the last byte, if there is one. Assumes nothing.
use Rattle.std.proofs.Common.{arith}
use Rattle.sheet_text_statements.proofs.Pieces.{empty-bare, return-bare, other-bare}
use Rattle.sheet_text_statements.proofs.parts.without_return.Goals as goal

pub returns-in-13 : goal.returns-in-13
returns-in-13 c = return-bare _ (omega arith)

pub returns-in_default : goal.returns-in_default
returns-in_default c = empty-bare _ (omega arith)

pub returns-in_default-2 : goal.returns-in_default-2
returns-in_default-2 c = other-bare _ (λ e. omega arith)
