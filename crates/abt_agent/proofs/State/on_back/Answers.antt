-- `on_back` is the rule of a Back.
-- Where it holds it is stored, and the agent has to choose; where not, it is answered.
use Rattle.std.proofs.Common.{◌≤◌, arith}
use Rattle.abt_agent.proofs.Stored.{listening, upward, sender, refused, takes-other, takes-outdated, takes-held}
use Rattle.abt_agent.proofs.State.on_back.Goals as goal
use Rattle.abt_agent.proofs.State.on_back.Goals.{Start}

-- the refused value is one of the domain's
value : (c : Start) → (1 ≤ c.args.v) × (c.args.v ≤ 8)
value c = refused c.args.own c.args.bans.now c.args.self c.args.nogoods.now c.args.from c.args.lhs c.args.v c.requires

pub returns-then-v-self : goal.returns-then-v-self
returns-then-v-self c =
    takes-other c.args.own c.args.bans.now c.args.self c.args.nogoods.now c.args.from c.args.lhs
    c.args.v c.requires c.if-v-self.true

pub hear-requires-clause-listening : goal.hear-requires-clause-listening
hear-requires-clause-listening c =
    listening c.args.own c.args.bans.now c.args.self c.args.nogoods.now c.args.from c.args.lhs c.args.v c.requires

pub hear-requires-clause-view_fits : goal.hear-requires-clause-view_fits
hear-requires-clause-view_fits c =
    upward c.args.own c.args.bans.now c.args.self c.args.nogoods.now c.args.from c.args.lhs c.args.v c.requires

pub add-requires : goal.add-requires
add-requires c =
    let r = sender c.args.own c.args.bans.now c.args.self c.args.nogoods.now c.args.from
    c.args.lhs c.args.v c.requires in
    (r.0, omega (arith, r.1))

pub returns-in_default : goal.returns-in_default
returns-in_default c =
    takes-outdated c.args.own c.args.bans.now c.args.self c.args.nogoods.now c.args.from
    c.args.lhs c.args.v c.requires c.if-v-self.false c.add.result c.in_default.ensures c.add.ensures

pub overflow_sub-i : goal.overflow_sub-i
overflow_sub-i c = (value (goal.at.overflow_sub-i c).Start).0

pub bounds-nogoods-i : goal.bounds-nogoods-i
bounds-nogoods-i c = omega (arith, (value (goal.at.bounds-nogoods-i c).Start).1)

pub overflow_shl-state : goal.overflow_shl-state
overflow_shl-state c = omega (arith, (value (goal.at.overflow_shl-state c).Start).1)

pub returns : goal.returns
returns c =
    takes-held c.args.own c.args.bans.now c.args.self c.args.nogoods.now c.args.from
    c.args.lhs c.args.v c.requires c.if-v-self.false c.in-Some.field-0 c.in-Some.ensures
