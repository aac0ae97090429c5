-- From the first agent up. The invariant: those before the k-th pass.
use Rattle.std.proofs.Common.{ℕ, suc, ◌+◌, ◌<◌, ◌≡◌, sym, ◌∙◌, List, arith, add-one, get_or}
use Rattle.model_sheet.specs.Problem.{Problem, max_agents, domain, bans_owned}
use Rattle.abt_shape.specs.Parts.{Columns, Beyond}
use Rattle.abt_shape.proofs.Each.{all_to-more, all_to-misses}
use Rattle.abt_shape.proofs.Ranges.{domain-next}
use Rattle.abt_shape.proofs.range.bans_owned.Invariants.{words}
use Rattle.abt_shape.proofs.range.bans_owned.Goals as goal

-- the masks are those of the problem's domains
in_domain-columns : (p : Problem) (domains : List ℕ) (k x : ℕ) → p.domains ≡ domains → Columns (get_or domains k 0) x → Columns (domain p (k + 1)) x
in_domain-columns p domains k x e c = rw (domain-next p domains k e) c

in_domain-rows : (p : Problem) (domains rows : List ℕ) → p.domains ≡ domains → ((i : ℕ) → i < 12 → Beyond (get_or domains i 0) (get_or rows i 0))
    → (i : ℕ) → i < 12 → Beyond (domain p (suc i)) (get_or rows i 0)
in_domain-rows p domains rows e b i h = rw (← add-one i, domain-next p domains i e) (b i h)

pub returns-then-not-bans_of_owned : goal.returns-then-not-bans_of_owned
unfolding bans_owned max_agents
returns-then-not-bans_of_owned c =
    λ p e f.
    sym (all_to-misses 12 (words p) c.loop-k.k (omega arith)
    (sym (c.bans_of_owned.ensures p f (in_domain-columns p _ c.loop-k.k _ e c.columns.ensures) (in_domain-rows p _ c.all_beyond-rows.result e c.all_beyond-rows.ensures.1))
    ∙ c.if-not-bans_of_owned.true))

pub loop-k-preserved : goal.loop-k-preserved
loop-k-preserved c =
    λ p e f.
    all_to-more c.loop-k.k (words p) (c.loop-k.invariant p e f)
    (sym (c.bans_of_owned.ensures p f (in_domain-columns p _ c.loop-k.k _ e c.columns.ensures) (in_domain-rows p _ c.all_beyond-rows.result e c.all_beyond-rows.ensures.1))
    ∙ c.if-not-bans_of_owned.false)

pub returns : goal.returns
unfolding bans_owned max_agents
returns c = λ p e f. let all : c.loop-k.k ≡ 12 = omega arith in sym (rw all at (c.loop-k.invariant p e f))
