-- No agent above 16 has a bit; else a shift.
use Rattle.std.proofs.Common.{rules, le-leb, sym, ◌∙◌}
use Rattle.abt_shape.proofs.Words.{in-to, in_all}
use Rattle.abt_shape.proofs.sets.all_to.Goals as goal

pub returns-then-m-ge16 : goal.returns-then-m-ge16
returns-then-m-ge16 c = le-leb 16 c.args.m c.if-m-ge16.true ∙ sym (in_all c.args.set c.args.m c.if-m-ge16.true)

pub returns-else-m-ge16 : goal.returns-else-m-ge16
returns-else-m-ge16 c = sym (in-to c.args.set c.args.m (search rules))
