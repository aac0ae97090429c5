-- Line by line, what is read with what is left comes to the same. Assumes nothing.
use Rattle.std.proofs.Common.{length}
use Rattle.sheet_text_reader.proofs.Walked.{Walks}
use Rattle.sheet_text_reader.proofs.lines.read_lines.Given as goal

abbrev pub invariant-loop-this : goal.invariant-loop-this
invariant-loop-this l = Walks l.cut l.text l.initial.draft l.line l.draft l.rest

abbrev pub decreases-loop-this : goal.decreases-loop-this
decreases-loop-this l = length l.rest
