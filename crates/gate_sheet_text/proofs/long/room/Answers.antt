-- The room is as long as it says.
use Rattle.std.proofs.Common.{ℕ, sym}
use lib.ListN.{length-replicate}
use Rattle.gate_sheet_text.proofs.long.room.Goals as goal

pub returns : goal.returns
returns c = sym (length-replicate {A = ℕ} 1048577 35)
