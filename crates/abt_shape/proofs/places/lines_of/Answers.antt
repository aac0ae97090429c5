-- The row cut off, and one digit set to 0.
use Rattle.abt_shape.proofs.Lines.{lines_are}
use Rattle.abt_shape.proofs.places.lines_of.Goals as goal

pub returns : goal.returns
returns c = lines_are c.args.row c.args.from _ c.requires.0 c.requires.1 c.with_digit.ensures
