-- The masks of all agents stand in the arrays.
use Rattle.std.proofs.Common.{◌≡◌, refl, sym, ◌∙◌, List, ℕ, arith, length, take, take_all, rules}
use lib.ListN.{length-map}
use Rattle.abt_record.specs.Abstract.{problem_of}
use Rattle.abt_record.proofs.Whole.{framing}
use Rattle.abt_record.proofs.Network.frame.Goals as goal

same : {l m : List ℕ} {k : ℕ} → k ≡ 12 → length l ≡ 12 → length m ≡ 12 → take k l ≡ take k m → l ≡ m
same {l = l} {m = m} {k = k} e a b t = sym (take_all k l (omega arith)) ∙ t ∙ take_all k m (omega arith)

pub returns : goal.returns
unfolding problem_of
returns c =
    let r = c.args.self.now in
    let n : length r.agents ≡ 12 = search rules in
    let d : length r.domains ≡ 12 = search rules in
    let k : c.loop-k.k ≡ 12 = omega arith in
    λ t.
    framing r c.domain_digits.result c.loop-k.listens c.loop-k.informs (c.domain_digits.ensures (problem_of r) refl d)
    (same k c.loop-k.invariant.0 (rw length-map n) c.loop-k.invariant.2)
    (same k c.loop-k.invariant.1 (rw length-map n) c.loop-k.invariant.3) t
