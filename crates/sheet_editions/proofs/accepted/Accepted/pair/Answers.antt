-- `Accepted::pair` says what the problem has of two agents.
-- The slot counts and the word, by their places.
use Rattle.std.proofs.Common.{ℕ, zero, suc, ◌-◌, ◌≤◌, ◌≡◌, refl, ap, arith, get_or}
use Rattle.model_sheet.specs.Problem.{Problem as Problem', max_domain, domain}
use Rattle.model_sheet.proofs.Range.{Ranged, ranged, domain-small}
use Rattle.sheet_reader.specs.Abstract.{problem_of}
use Rattle.sheet_editions.proofs.accepted.Accepted.pair.Goals as goal

domain-at : (p : Problem') (i : ℕ) → 1 ≤ i → get_or p.domains (i - 1) 0 ≡ domain p i
unfolding domain
domain-at p zero l = absurd (omega arith)
domain-at p (suc i) l = let e : suc i - 1 ≡ i = omega arith in rw e

eight : (p : Problem') → Ranged p → (i : ℕ) → domain p i ≤ 8
unfolding max_domain
eight p r i = domain-small p r i

pub invariant_of-result : goal.invariant_of-result
unfolding problem_of
invariant_of-result c =
    let p = problem_of c.args.self.now.problem in
    let r = ranged p c.args.self.now.good in
    record { small = (rw (domain-at p c.args.i (omega arith)) (eight p r c.args.i), rw (domain-at p c.args.j (omega arith)) (eight p r c.args.j)) }

pub returns : goal.returns
unfolding problem_of
returns c =
    let p = problem_of c.args.self.now.problem in
    record {
      lower = refl;
      higher = refl;
      slots = domain-at p c.args.i (omega arith);
      others = domain-at p c.args.j (omega arith);
      word = ap (λ (k : ℕ). get_or p.bans k 0) c.word_at.ensures.0;
    }
