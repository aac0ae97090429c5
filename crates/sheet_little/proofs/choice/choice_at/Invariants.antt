-- `choice_at` has the choice of an ordinal.
-- What is left of the ordinal, in the slot counts from place k on, has the same choice.
use Rattle.sheet_little.proofs.Counts.{Reached}
use Rattle.sheet_little.proofs.choice.choice_at.Given as goal

abbrev pub invariant-loop-k : goal.invariant-loop-k
invariant-loop-k l = Reached l.ordinal l.k l.left
