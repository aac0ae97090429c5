use Rattle.std.proofs.Common.{refl}
use Rattle.support_buffer.proofs.Appending.{from-start}
use Rattle.support_cli.proofs.finish.refusal_line.Goals as goal

pub returns-clause-text : goal.returns-clause-text
returns-clause-text c =
    let line = from-start refl (rw (c.from.ensures, c.number.ensures) at c.append_line.ensures.text) in
    line.text
