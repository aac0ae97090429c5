-- Number by number, until one is none or no word is left. Assumes nothing.
use Rattle.std.proofs.Common.{length}
use Rattle.sheet_text_statements.proofs.Sayings.{Slotted}
use Rattle.sheet_text_statements.proofs.slots_in.Given as goal

abbrev pub invariant-loop-word : goal.invariant-loop-word
invariant-loop-word l = Slotted l.args l.slots l.rest

abbrev pub decreases-loop-word : goal.decreases-loop-word
decreases-loop-word l = length l.rest
