-- The search from line 0 on finds no line exactly where all are at rest.
use Rattle.gate_random.proofs.Lines.{at_rest}
use Rattle.gate_random.proofs.rails.at_rest.Goals as goal

pub returns : goal.returns
returns c = at_rest _ _ _ c.waiting_line.ensures c.is_none.ensures
