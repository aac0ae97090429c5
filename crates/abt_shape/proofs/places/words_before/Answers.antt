-- The words before an agent's: 0 + 1 + .. + (k - 1), as (k * k - k) / 2.
use Rattle.std.proofs.Common.{◌-◌, ap, ◌∙◌, arith, sub-one, rules}
use Rattle.model_sheet.specs.Problem.{pairs_before}
use Rattle.abt_shape.proofs.Pairs.{words_are, words-fit}
use Rattle.abt_shape.proofs.places.words_before.Goals as goal

pub returns : goal.returns
returns c =
    let k = c.args.agent - 1 in
    let e = words_are k in
    let f = words-fit k (search rules) in (e ∙ ap pairs_before (sub-one c.args.agent), omega arith)
