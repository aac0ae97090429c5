-- The end of a line lies between its beginning and the end of the text. Assumes nothing.
use Rattle.std.proofs.Common.{ℕ, ◌+◌, ap, ◌∙◌, arith, eqb, length, length-drop}
use Rattle.std.specs.List.{position_or_len}
use Rattle.gate_script.proofs.Reading.{end-is}
use Rattle.std.proofs.lemmas.List.{take_rest}
use Rattle.gate_script.proofs.lines.line_end.Goals as goal

pub returns : goal.returns
returns c =
    let e = ap (position_or_len (λ b. eqb b 10)) (take_rest c.args.text.now c.args.from) in
    let n = length-drop c.args.from c.args.text.now in (
      omega arith,
      omega (arith, c.line_length.ensures.1, ap length (take_rest c.args.text.now c.args.from), n),
      ap (λ (k : ℕ). c.args.from + k) (c.line_length.ensures.0 ∙ e) ∙ end-is _ _,
    )
