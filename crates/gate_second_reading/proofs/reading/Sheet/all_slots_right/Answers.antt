-- The slot counts are looked at one by one.
use Rattle.std.proofs.Common.{◌≡◌, refl, true, false, rules, tests}
use Rattle.std.proofs.lemmas.Iterator.{cases_from_all, YieldsList-from_range}
use Rattle.gate_second_reading.specs.Faults.{slots_right}
use Rattle.gate_second_reading.proofs.Walks.{each-looked_at}
use Rattle.gate_second_reading.proofs.reading.Sheet.all_slots_right.Goals as goal

pub returns : goal.returns
returns c =
    let f = slots_right c.args.self.now.bytes.now in
    each-looked_at 12 f c.all.result
    (cases_from_all _ _ _ (λ i. f i ≡ true) (λ i. f i ≡ false) c.all.ensures.ran (YieldsList-from_range 1 13 12 (cc) refl) (λ x q k. search (rules, tests)) (λ x q k. search (rules, tests)))
