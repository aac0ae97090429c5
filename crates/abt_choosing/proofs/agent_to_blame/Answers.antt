-- `agent_to_blame` is whom the rule blames.
-- Where another byte bars the value too, the words stored are looked at; else there is one to blame.
use Rattle.std.proofs.Common.{Some, pred, ◌≡◌, sym, ◌∙◌, arith}
use Rattle.model_base.specs.Bits.{bit}
use Rattle.model_base.specs.Finite.{lowest}
use Rattle.model_base.proofs.Search.{lowest-range}
use Rattle.model_agent.specs.Shape.{max_named}
use Rattle.abt_choosing.specs.Conflicts.{self_of, byte_of}
use Rattle.abt_choosing.proofs.Blaming.{found-some, alone-blamed, sought-blamed}
use Rattle.abt_choosing.proofs.agent_to_blame.Goals as goal
use Rattle.abt_choosing.proofs.agent_to_blame.Goals.{After-unwrap-first}

-- the lowest of all
lowest-first : (c : After-unwrap-first)
    → lowest max_named 1 (λ k. bit (byte_of c.args.conflicts k) (pred c.args.w)) ≡ Some c.unwrap-first.result
lowest-first c = sym (rw c.unwrap-first.ensures at c.first.ensures)

pub unwrap-first-requires : goal.unwrap-first-requires
unwrap-first-requires c = found-some _ _ c.first.ensures c.requires.barred.2

pub with-requires : goal.with-requires
unfolding max_named
with-requires c =
    let r = lowest-range max_named 1 _ _ (lowest-first (goal.at.with-requires c).After-unwrap-first) in (r.0, omega (arith, r.1))

pub returns-then-bans : goal.returns-then-bans
unfolding self_of
returns-then-bans c =
    rw c.unwrap_or.ensures
    (sought-blamed c.args.own c.args.conflicts _ c.args.w c.requires.own_fits c.requires.barred.0 c.requires.barred.1
    c.union_of_nogoods.result c.union_of_nogoods.ensures c.first_of.result c.first_of.ensures c.unwrap-first.result
    (lowest-first (goal.at.returns-then-bans c).After-unwrap-first))

pub returns-else-bans : goal.returns-else-bans
returns-else-bans c =
    alone-blamed c.args.own c.args.conflicts _ c.args.w c.requires.own_fits c.requires.barred.0 c.requires.barred.1
    c.unwrap-first.result (lowest-first (goal.at.returns-else-bans c).After-unwrap-first) c.with.result c.with.ensures
    (sym c.bans.ensures ∙ c.if-bans.false)
