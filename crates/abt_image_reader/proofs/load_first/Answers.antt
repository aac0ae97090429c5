-- `load_first` answers as the definition does.
-- Bytes that are too few, or have too many agents, are no image; for others what is read decides, written again.
use Rattle.std.proofs.Common.{sym, ◌∙◌}
use Rattle.model_image.specs.Reading.{bad_image}
use Rattle.abt_image_reader.specs.Loaded.{loaded_of}
use Rattle.abt_image_reader.proofs.Owned.{network-fits}
use Rattle.abt_image_reader.proofs.Plainness.{network_of-plain}
use Rattle.abt_image_reader.proofs.Loading.{too_short, too_many, not_taken, taken}
use Rattle.abt_image_reader.proofs.load_first.Goals as goal
use Rattle.abt_image_reader.proofs.load_first.Goals.{then-s-lt808-via-then-s-lt808, then-s-lt808-via-else-s-lt808+then-s-gt12}

pub returns-then-s-lt808 : goal.returns-then-s-lt808
unfolding loaded_of bad_image
returns-then-s-lt808 c =
    let s = c.args.s.now in
    elim c.then-s-lt808.branch [
      | then-s-lt808-via-then-s-lt808 u ↦ sym (too_short s u.if-s-lt808.true)
      | then-s-lt808-via-else-s-lt808+then-s-gt12 u ↦ sym (too_many s u.if-s-gt12.true)
    ]

pub returns-then-is_image : goal.returns-then-is_image
unfolding loaded_of
returns-then-is_image c =
    let plain = network_of-plain c.candidate-network.result (network-fits c.candidate-network.result _ c.candidate-network.type_inv) in
    sym (taken c.args.s.now _ c.candidate-network.ensures plain (sym c.is_image.ensures ∙ c.if-is_image.true))

pub returns-else-is_image : goal.returns-else-is_image
unfolding loaded_of bad_image
returns-else-is_image c = sym (not_taken c.args.s.now _ c.candidate-network.ensures (sym c.is_image.ensures ∙ c.if-is_image.false))
