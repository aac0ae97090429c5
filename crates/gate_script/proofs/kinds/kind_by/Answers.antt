-- The first entry that fits, by the code's table and by the definition's.
use Rattle.std.proofs.Common.{◌∙◌}
use Rattle.gate_script.specs.Kinds.{words, kind_by}
use Rattle.gate_script.proofs.Words.{same-first}
use Rattle.gate_script.proofs.kinds.kind_by.Goals as goal

pub returns : goal.returns
unfolding words kind_by
returns c = c.first_in.ensures ∙ same-first c.args.line.now _
