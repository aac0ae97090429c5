-- The bytes behind the first ones are looked at one by one.
use Rattle.std.proofs.Common.{◌≡◌, rules, tests}
use Rattle.std.proofs.lemmas.Iterator.{cases_from_all, YieldsList-from_slice}
use Rattle.std.proofs.lemmas.Iterator.Adapters.{YieldsList-from_skip}
use Rattle.gate_second_reading.specs.Buffers.{marked_from}
use Rattle.gate_second_reading.proofs.Walks.{all-looked_at}
use Rattle.gate_second_reading.proofs.buffers.untouched.Goals as goal

pub returns : goal.returns
unfolding marked_from
returns c =
    all-looked_at c.all.result _
    (cases_from_all _ _ _ (λ b. b ≡ 170) (λ b. b ≡ 170 → ⊥) c.all.ensures.ran (YieldsList-from_skip c.args.from (YieldsList-from_slice c.args.bytes.now cc) cc) (λ x q k. search (rules, tests)) (λ x q k. search (rules, tests)))
