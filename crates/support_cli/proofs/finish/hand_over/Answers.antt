use Rattle.std.proofs.Common.{◌≡◌, length, take, ap, ◌∙◌}
use Rattle.std.proofs.lemmas.List.{take_min}
use Rattle.support_cli.proofs.Handing.{hands-written, hands-refused}
use Rattle.support_cli.proofs.finish.hand_over.Goals as goal

pub returns-in-Ok : goal.returns-in-Ok
returns-in-Ok g c =
    let n = c.in-Ok.n in
    let buffer = c.args.buffer.now in
    let same : take c.min.result buffer ≡ take n buffer = ap (λ k. take k buffer) c.min.ensures ∙ take_min n buffer in
    rw (c.in-Ok.is, hands-written n buffer) (rw same at c.print.ensures)

pub returns-in-Err : goal.returns-in-Err
returns-in-Err g c = rw (c.in-Err.is, hands-refused c.in-Err.rejection c.args.buffer.now) c.refuse.ensures
