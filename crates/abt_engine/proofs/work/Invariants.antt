-- The work on a network. The invariant of the rounds and of the visits is `Here`: the work left, described at the network as it stands, is the whole work; and
-- `Settled`: where a verdict stands, no line is ahead. That of the posts is `Posting`: what is not left of the receiver's posts is stored.
use Rattle.std.proofs.Common.{◌≡◌, length}
use Rattle.abt_agent.specs.Posting.{envelopes_left}
use Rattle.abt_record.specs.Abstract.{network_of}
use Rattle.abt_record_laws.proofs.Posting.{Posting}
use Rattle.abt_engine.specs.Lines.{ahead}
use Rattle.abt_engine.specs.Tasks.{work_by}
use Rattle.abt_engine.proofs.Here.{Here, Settled}
use Rattle.abt_engine.proofs.work.Given as goal

abbrev pub invariant-posts : goal.invariant-posts
invariant-posts l =
    Posting l.initial.o l.to (envelopes_left l.initial.post-iterator) (envelopes_left l.post-iterator) l.o l.now
    × (l.rest ≡ l.initial.rest)
    × (l.missed ≡ l.initial.missed)

abbrev pub invariant-visits : goal.invariant-visits
invariant-visits l =
    Here l.once (work_by l.fn.task (network_of l.fn.r)) l.o l.n l.domains l.bans l.conflicts l.quota l.missed l.left l.made l.stuck l.from l.rest
    × Settled l.o l.quota l.n l.from l.rest

abbrev pub decreases-visits : goal.decreases-visits
decreases-visits l = length (ahead l.quota l.n l.from l.rest)

abbrev pub invariant-rounds : goal.invariant-rounds
invariant-rounds l =
    Here l.once (work_by l.fn.task (network_of l.fn.r)) l.o l.n l.domains l.bans l.conflicts l.quota l.missed l.left l.made l.stuck l.from l.rest
    × Settled l.o l.quota l.n l.from l.rest

abbrev pub decreases-rounds : goal.decreases-rounds
decreases-rounds l = l.left
