-- The delivery goes on from the rail, and whether it was refused says what it is counted as.
use Rattle.std.proofs.Common.{not, ◌+◌, ap, ◌∙◌}
use mir.Val.{bool_byte}
use Rattle.abt_engine.specs.Refused.{rejected_number}
use Rattle.gate_random.proofs.Lists.{goes, accepts}
use Rattle.gate_random.proofs.rails.delivered.Goals as goal

pub returns : goal.returns
returns c =
    let l = c.args.l in
    let ends = c.chosen-from.result in
    let accepted = accepts c.deliver-out.result.rejection c.is_none-accepted.result c.is_none-accepted.ensures in
    goes l _ ends.0 ends.1 (rejected_number c.deliver-out.result.rejection) (not c.refusal_right-wrong.result) c.deliver-out.ensures.delivers_as
    (ap (λ n. l.accepted + n) (c.from.ensures ∙ ap bool_byte accepted))
    (ap (λ n. l.refused + n) (c.from-2.ensures ∙ ap (λ b. bool_byte (not b)) accepted))
    (ap (λ n. l.wrong + n) c.from-3.ensures)
