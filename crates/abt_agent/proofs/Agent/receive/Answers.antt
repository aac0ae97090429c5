-- `receive` is the rule of the message's kind.
-- The message is taken in by its kind, then what is left to do is done, and what was handed over and is sent is counted.
use Rattle.std.proofs.Common.{rules, ℕ, length, false, List, ◌≡◌, refl, arith}
use Rattle.model_sheet.specs.Problem.{max_agents}
use Rattle.model_agent.specs.Message.{Message as Message'}
use Rattle.model_agent.specs.Agent.{Step as Step'}
use Rattle.model_agent.specs.Shape.{RecordFits, MessageFits, any_value}
use Rattle.model_agent.specs.Receiving.{react}
use Rattle.abt_choosing.specs.Conflicts.{self_of, bans_in, Able, ConflictsOf}
use Rattle.abt_choosing.specs.declared.Conflicts.{Conflicts}
use Rattle.abt_choosing.specs.declared.AgentConfig.{AgentConfig}
use Rattle.abt_agent.specs.Abstract.{assigned, message_of, agent_of, none_counted, counts_of}
use Rattle.abt_agent.specs.Entries.{StepsAs}
use Rattle.abt_agent.specs.Parts.{apart, agent_in, step_with, Handed, Takes}
use Rattle.abt_agent.specs.declared.Agent.{Agent}
use Rattle.abt_agent.specs.declared.Message.{Message}
use Rattle.abt_agent.proofs.Uncounted.{fits-recounted, message-recounted}
use Rattle.abt_agent.proofs.Counted.{steps-counted, steps-still}
use Rattle.abt_agent.proofs.Steps.{steps-quiet, tells-nobody}
use Rattle.abt_agent.proofs.Agent.receive.Goals as goal
use Rattle.abt_agent.proofs.Agent.receive.Goals.{Joined-m, After-on_info-banned, in-Info+else-not-banned, in-Back, in-AddLink}

-- the rule, for the agent taken apart
abbrev reaction : AgentConfig → List ℕ → Agent → Conflicts → ℕ → Message → Step'
reaction own bans a bars from m = react (self_of own) (bans_in bans) (agent_in (apart a bars) a.nogoods) from (message_of m)

-- the message finds an agent
handed : (own : AgentConfig) (bans : List ℕ) (a : Agent) (bars : Conflicts) (from : ℕ) (m : Message') → length a.nogoods ≡ 8 → Able own bans
    → RecordFits any_value (self_of own) (agent_of a) → MessageFits any_value (self_of own) (agent_of a) from m
    → ConflictsOf (bans_in bans) (assigned a.view) bars → Handed own bans (apart a bars) a.nogoods from m
unfolding assigned agent_of
handed own bans a bars from m places able fits message conflicts_of =
    record {
      able = able;
      places = places;
      agent = fits-recounted any_value (self_of own) (agent_of a) (counts_of none_counted none_counted) fits;
      message = message-recounted any_value (self_of own) (agent_of a) (counts_of none_counted none_counted) from m message;
      conflicts_of = conflicts_of;
    }

pub on_info-banned-requires : goal.on_info-banned-requires
unfolding message_of
on_info-banned-requires c =
    rw c.apart-s.ensures
    (handed _ _ _ _ _ _ (search rules) c.requires.able c.requires.record_fits (rw c.in-Info.is at c.requires.message_fits) c.requires.conflicts_of)

pub on_back-requires : goal.on_back-requires
unfolding message_of
on_back-requires c =
    rw (c.apart-s.ensures, c.unpack.ensures)
    (handed _ _ _ _ _ _ (search rules) c.requires.able c.requires.record_fits (rw c.in-Back.is at c.requires.message_fits) c.requires.conflicts_of)

pub on_add_link-requires : goal.on_add_link-requires
unfolding message_of self_of max_agents
on_add_link-requires c = rw c.in-AddLink.is at c.requires.message_fits

-- the message taken in: what is left to do is the rule's step
taken : (c : Joined-m)
    → Takes c.args.own (bans_in c.args.bans.now) c.match-m.reaction.0 c.match-m.reaction.1 c.match-m.nogoods
    (reaction c.args.own c.args.bans.now c.args.self c.args.conflicts c.args.from c.args.m)
unfolding message_of react
taken c =
    elim c.match-m.branch [
      | in-Info+else-not-banned u ↦ rw (u.reaction-is, u.nogoods-is, u.in-Info.is) (rw (c.apart-s.ensures, u.if-not-banned.false) at u.on_info-banned.ensures.takes)
      | in-Back u ↦
          rw (u.reaction-is, u.nogoods-is, u.in-Back.is, ← u.unpack.ensures) (rw c.apart-s.ensures at u.on_back.ensures)
      | in-AddLink u ↦
          rw (u.reaction-is, u.nogoods-is, u.in-AddLink.is)
          (rw c.apart-s.ensures at u.on_add_link.ensures _ _
          (handed _ _ _ _ _ _ (search rules) c.requires.able c.requires.record_fits (rw u.in-AddLink.is at c.requires.message_fits) c.requires.conflicts_of))
    ]

pub settle-done-requires-clause-sound : goal.settle-done-requires-clause-sound
settle-done-requires-clause-sound c = (taken (goal.at.settle-done-requires-clause-sound c).Joined-m).sound

pub settle-done-requires-clause-above : goal.settle-done-requires-clause-above
settle-done-requires-clause-above c =
    (rw c.in-Choose.is at (taken (goal.at.settle-done-requires-clause-above c).Joined-m).addresses).0

pub settle-done-requires-clause-refuser : goal.settle-done-requires-clause-refuser
settle-done-requires-clause-refuser c =
    (rw c.in-Choose.is at (taken (goal.at.settle-done-requires-clause-refuser c).Joined-m).addresses).1

-- an Info after which the agent holds what it had: it tells nobody
pub returns-then-not-banned-clause-steps_as : goal.returns-then-not-banned-clause-steps_as
unfolding message_of react
returns-then-not-banned-clause-steps_as c =
    let t = rw (c.if-not-banned.true, c.apart-s.ensures) at c.on_info-banned.ensures.takes in
    let backs = c.still_step.result.backs in
    rw c.still_step.ensures.0
    (steps-still _ _ c.args.self c.args.conflicts _ _ c.on_info-banned.result.0 backs _
    (omega arith) (omega arith) (omega arith) c.with_received-received.ensures (rw c.apart-s.ensures at c.on_info-banned.ensures.stays)
    (rw (c.in-Info.is, ← t.taken) (steps-quiet _ _ _ c.args.self.nogoods backs 0 c.requires.able.fits c.still_step.ensures.1 t.addresses t.conflicts_of)))

pub returns-then-not-banned-clause-still : goal.returns-then-not-banned-clause-still
returns-then-not-banned-clause-still c =
    λ _. (rw c.still_step.ensures.0 (tells-nobody c.on_info-banned.result.0 c.still_step.result.backs), rw c.still_step.ensures.0 refl)

pub returns-in-Choose-clause-steps_as : goal.returns-in-Choose-clause-steps_as
returns-in-Choose-clause-steps_as c =
    let t = taken (goal.at.returns-in-Choose-clause-steps_as c).Joined-m in
    let done = c.settle-done in
    let settled : StepsAs c.args.own (bans_in c.args.bans.now) (step_with done.result done.new.nogoods done.new.backs)
    (reaction c.args.own c.args.bans.now c.args.self c.args.conflicts c.args.from c.args.m) =
    rw (← t.taken, c.in-Choose.is) (done.ensures _ t.conflicts_of) in
    rw c.into_step.ensures.0
    (steps-counted _ _ _ c.args.conflicts _ _ done.result _ _ _ _ (c.into_step.ensures.1 settled.ready) c.with_received-received.ensures false settled)

pub returns-in-Tell-clause-steps_as : goal.returns-in-Tell-clause-steps_as
returns-in-Tell-clause-steps_as c =
    let t = taken (goal.at.returns-in-Tell-clause-steps_as c).Joined-m in
    let settled : StepsAs c.args.own (bans_in c.args.bans.now) (step_with c.telling.result c.match-m.nogoods _)
    (reaction c.args.own c.args.bans.now c.args.self c.args.conflicts c.args.from c.args.m) =
    rw (← t.taken, c.in-Tell.is) (c.telling.ensures _ _ _ _ c.requires.able.fits refl (rw c.in-Tell.is at t.addresses) t.conflicts_of) in
    rw c.into_step-in-Tell.ensures.0
    (steps-counted _ _ _ c.args.conflicts _ _ c.telling.result _ _ _ _ (c.into_step-in-Tell.ensures.1 settled.ready) c.with_received-received.ensures false settled)
