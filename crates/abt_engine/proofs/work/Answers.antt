-- The work on a network: each goal by the laws that the invariants are built on.
use Rattle.std.proofs.Common.{ℕ, ◌+◌, ◌-◌, ◌≤◌, Bool, false, not, cond, ◌&&◌, ◌≡◌, refl, sym, ap, ◌∙◌, arith, length, length-set, get_or, set, rules, Some}
use mathlib.Core.Bool.{false≢true}
use Rattle.model_base.specs.Finite.{at}
use Rattle.abt_packed.specs.Packed.{assignment}
use Rattle.abt_agent.specs.Abstract.{assigned}
use Rattle.abt_agent.specs.Posting.{posts_left, envelopes_left}
use Rattle.model_network.specs.Run.{one_if}
use Rattle.abt_record.specs.Abstract.{network_of}
use Rattle.abt_shape.proofs.Numbering.{Ends}
use Rattle.abt_record_laws.proofs.Changes.{FullArrays, arrived}
use Rattle.abt_record_laws.proofs.Handing.{Found, Stepped, bars-ask, step-asks, steps, storing}
use Rattle.abt_record_laws.proofs.Stepping.{few-agents}
use Rattle.abt_engine.specs.Refused.{rejected_number}
use Rattle.abt_engine.specs.Working.{ends_by}
use Rattle.abt_engine.specs.Tasks.{work_by}
use Rattle.abt_engine.proofs.After.{told-ten, told-goes, told-run, told-not-five, jams-run, jams-never}
use Rattle.abt_engine.proofs.Ahead.{ahead_none, none-less, passed-less}
use Rattle.abt_engine.proofs.Barrings.{no_agent, BarsOf, Barred, bars-had, bars-kept}
use Rattle.abt_engine.proofs.Testing.{fresh-line, never-five}
use Rattle.abt_engine.proofs.Here.{Here}
use Rattle.abt_engine.proofs.Starting.{Began, running, found, breaks, refused, begins}
use Rattle.abt_engine.proofs.Visiting.{passes-all, line-channel, line-ends, no-verdict, finds}
use Rattle.abt_engine.proofs.Storing.{turn-line, turn-ends, turn-stores, turn-full}
use Rattle.abt_engine.proofs.Accepting.{stored-jams, Sent, none-sent, sent-waits, sent-goes}
use Rattle.abt_engine.proofs.Resting.{one_more, no_more, Stop, verdict-stands, round-stuck, nothing-waits, rounds-used, work-stops, round-settled, round-begins}
use Rattle.abt_engine.proofs.work.Goals as goal
use Rattle.abt_engine.proofs.work.Goals.{in-Deliver+in_default, in-Run, in-Some-conflicts, in-None, then-not-missed, else-not-missed, then-o-via-then-o, then-o-via-else-o+then-stuck, then-o-via-else-o+else-stuck+then-not-waits, then-o-via-else-o+else-stuck+else-not-waits+then-left-eq0, then-once+then-stuck-2, else-once, else-once-via-then-once+else-stuck-2, else-once-via-else-once, then-not-once, else-not-once, Else-answer, In-Some-next_visit, In-Some-post, After-place_at, After-receive-step, After-one_less, Joined-conflicts-at, Joined-not-step, then-not-step+in-None-post, else-not-step, Joined-not-missed}

-- the shape was tested, so there are at most twelve agents
few : (c : Else-answer) → c.args.r.count ≤ 12
few c = few-agents _ (sym c.if-answer.ensures)

-- a line is visited: its ends, no verdict, and the message at its head
visited : (c : In-Some-next_visit) → Ends c.in-Some-next_visit.visit.from c.in-Some-next_visit.visit.to
visited c = line-ends c.visits.invariant.0 c.in-Some-next_visit.visit c.in-Some-next_visit.ensures

-- .. the receiver has a digit
received : (c : In-Some-next_visit) → (1 ≤ c.in-Some-next_visit.visit.to) × (c.in-Some-next_visit.visit.to ≤ 16)
received c = let b = visited c in (b.to_low, omega (arith, b.to_high))

-- .. and so has the agent that a post goes to
posted : (c : In-Some-post) → (1 ≤ c.in-Some-post.post.to) × (c.in-Some-post.post.to ≤ 16)
posted c =
    let b = turn-ends c.posts.invariant.0 c.in-Some-post.post c.in-Some-post.ensures.steps in (b.to_low, omega (arith, b.to_high))

going : (c : In-Some-next_visit) → c.visits.o.unsolvable ≡ false
going c = no-verdict c.visits.invariant.0 c.in-Some-next_visit.visit c.in-Some-next_visit.ensures c.visits.invariant.1

finding : (c : After-place_at) → Found c.visits.o c.in-Some-next_visit.visit.from c.in-Some-next_visit.visit.to c.place_at.result
finding c =
    finds c.visits.invariant.0 c.in-Some-next_visit.visit c.in-Some-next_visit.ensures
    (no-verdict c.visits.invariant.0 c.in-Some-next_visit.visit c.in-Some-next_visit.ensures c.visits.invariant.1) c.channel_at.result c.digit-head.result c.place_at.result c.channel_at.ensures.0 c.digit-head.ensures.0 c.place_at.ensures.0

-- what agent `to`'s view bars, worked out before or now
bars-now : (c : Joined-conflicts-at)
    → BarsOf c.args.r.bans c.in-Some-next_visit.visit.to c.words_before-words.result (get_or c.visits.o.agents (c.in-Some-next_visit.visit.to - 1) no_agent) c.match-conflicts-at.barred
unfolding assigned
bars-now c =
    let e = line-ends c.visits.invariant.0 c.in-Some-next_visit.visit c.in-Some-next_visit.ensures in
    elim c.match-conflicts-at.branch [
      | in-Some-conflicts a ↦ rw a.barred-is (bars-had _ _ _ e.to_low e.to_high c.words_before-words.ensures.0 _ _ c.visits.invariant.0.live.barred _ a.in-Some-conflicts.is)
      | in-None a ↦ rw a.barred-is a.of-barred.ensures
    ]

-- .. and stored before the step
barred-now : (c : Joined-conflicts-at)
    → Barred c.args.r.bans c.visits.o.agents (set c.visits.conflicts (c.in-Some-next_visit.visit.to - 1) (Some c.match-conflicts-at.barred))
barred-now c =
    let e = line-ends c.visits.invariant.0 c.in-Some-next_visit.visit c.in-Some-next_visit.ensures in
    let live = c.visits.invariant.0.live in
    bars-kept _ _ _ e.to_low e.to_high c.words_before-words.ensures.0 _ _ live.beside live.barred _ (bars-now c)

-- the agent has made its step
stepped : (c : After-receive-step) → Stepped c.visits.o c.in-Some-next_visit.visit.from c.in-Some-next_visit.visit.to c.place_at.result c.receive-step.result
stepped c =
    let h = c.visits.invariant.0 in
    let none = no-verdict h c.in-Some-next_visit.visit c.in-Some-next_visit.ensures c.visits.invariant.1 in
    let found = finds h c.in-Some-next_visit.visit c.in-Some-next_visit.ensures none c.channel_at.result c.digit-head.result c.place_at.result c.channel_at.ensures.0 c.digit-head.ensures.0 c.place_at.ensures.0 in
    steps found no_agent _ _ c.words_before-words.result h.live.owned h.live.table c.words_before-words.ensures.0 c.receive-step.result c.receive-step.ensures.steps_as

-- all that the step sends is on its lines
sent : (c : Joined-not-step)
    → Stepped c.visits.o c.in-Some-next_visit.visit.from c.in-Some-next_visit.visit.to c.place_at.result c.receive-step.result
    → Sent c.visits.o c.in-Some-next_visit.visit.to (posts_left c.receive-step.result.outbox c.receive-step.result.backs) c.if-not-step.o
sent c step =
    elim c.if-not-step.branch [
      | then-not-step+in-None-post a ↦
          rw a.o-is
          (record {
            before = a.posts.o;
            row = a.posts.now;
            posting =
                rw a.in-None-post.ensures.steps.0 at (rw (ap envelopes_left a.into_iter-post-iterator.ensures.into_iter_gives) at a.posts.invariant.0);
            raised = refl;
          })
      | else-not-step a ↦ rw a.o-is (none-sent (storing step) (c.receive-step.ensures.still a.if-not-step.false).0)
    ]

-- .. and the line is visited no more than it was to be
unpassed : (c : Joined-not-step) → (c.if-not-step.rest ≡ c.in-Some-next_visit.visit.rest) × (c.if-not-step.missed ≡ c.visits.missed)
unpassed c =
    elim c.if-not-step.branch [
      | then-not-step+in-None-post a ↦ (a.rest-is ∙ a.posts.invariant.1, a.missed-is ∙ a.posts.invariant.2)
      | else-not-step a ↦ (a.rest-is, a.missed-is)
    ]

-- the delivery is made
gone : (c : After-one_less) (step : Stepped c.visits.o c.in-Some-next_visit.visit.from c.in-Some-next_visit.visit.to c.place_at.result c.receive-step.result)
    → Sent c.visits.o c.in-Some-next_visit.visit.to (posts_left c.receive-step.result.outbox c.receive-step.result.backs) c.if-not-step.o
    → (c.if-not-step.rest ≡ c.in-Some-next_visit.visit.rest) × (c.if-not-step.missed ≡ c.visits.missed)
    → Barred c.args.r.bans c.visits.o.agents (set c.visits.conflicts (c.in-Some-next_visit.visit.to - 1) (Some c.match-conflicts-at.barred))
    → Here c.match-task.once.0 (work_by c.args.task (network_of c.args.r)) (arrived c.if-not-step.o c.in-Some-next_visit.visit.from c.in-Some-next_visit.visit.to c.one_further.result c.one_less.result c.put.new.place c.receive-step.result.unsolvable) c.args.r.count c.args.r.domains c.args.r.bans (set (set c.visits.conflicts (c.in-Some-next_visit.visit.to - 1) (Some c.match-conflicts-at.barred)) (c.in-Some-next_visit.visit.to - 1) (Some c.receive-step.result.conflicts)) c.rounds.quota c.if-not-step.missed c.rounds.left c.rounds.made false c.in-Some-next_visit.visit.from c.if-not-step.rest
gone c step sent unpassed barred =
    let h = c.visits.invariant.0 in
    rw (unpassed.0, unpassed.1, c.put.ensures)
    (sent-goes h c.in-Some-next_visit.visit c.in-Some-next_visit.ensures (no-verdict h c.in-Some-next_visit.visit c.in-Some-next_visit.ensures c.visits.invariant.1) _ (rw length-set h.live.beside) barred step
    sent (record { head = c.one_further.ensures; count = c.one_less.ensures.0 }) _ c.words_before-words.ensures.0 c.receive-step.ensures.steps_as.conflicts_of)

-- the rounds made, this one counted if it was full
counted : (c : Joined-not-missed) → c.if-not-missed.made ≡ c.rounds.made + one_if (not c.visits.missed)
counted c =
    elim c.if-not-missed.branch [
      | then-not-missed a ↦ one_more c.rounds.made c.if-not-missed.made c.visits.missed (ap not a.if-not-missed.true) a.made-is
      | else-not-missed a ↦ no_more c.rounds.made c.if-not-missed.made c.visits.missed (ap not a.if-not-missed.false) a.made-is
    ]

pub returns-then-answer : goal.returns-then-answer
returns-then-answer c =
    record {
      works_as = breaks c.args.task c.args.r (sym c.if-answer.ensures);
      network_value = λ _. refl;
    }

pub returns-in-Some : goal.returns-in-Some
returns-in-Some c =
    record {
      works_as = rw c.in-Deliver.is (refused c.args.r c.clear_unused-o.result (record { width = c.clear_unused-o.ensures.0; held = c.clear_unused-o.ensures.1 })
          (sym c.if-answer.ensures) c.in-Deliver.from c.in-Deliver.to c.in-Some.rejection c.in-Some.ensures _ c.waits.ensures _ c.ending_at.ensures);
      network_value = λ e. absurd (never-five _ _ _ _ _ _ c.in-Some.ensures e);
    }

pub first_rejection-requires : goal.first_rejection-requires
first_rejection-requires c = few (goal.at.first_rejection-requires c).Else-answer

pub waits-requires : goal.waits-requires
waits-requires c = few (goal.at.waits-requires c).Else-answer

pub one_more-requires : goal.one_more-requires
one_more-requires c = fresh-line _ _ _ _ _ (few (goal.at.one_more-requires c).Else-answer) c.in_default.ensures

pub rounds-init : goal.rounds-init
rounds-init c =
    let sizes : FullArrays c.args.r =
    record {
      domains = search rules;
      bans = search rules;
      agents = search rules;
      heads = search rules;
      counts = search rules;
      places = search rules;
    } in
    let began : Began c.args.task c.args.r.count c.args.r.unsolvable c.clear_unused-o.result c.match-task.once =
    elim c.match-task.branch [
      | in-Deliver+in_default a ↦ found a.in-Deliver.from a.in-Deliver.to _ a.in-Deliver.is a.once-is a.in_default.ensures a.one_more.ensures
      | in-Run a ↦ running _ a.in-Run.is a.once-is
    ] in
    begins c.args.r c.clear_unused-o.result (record { width = c.clear_unused-o.ensures.0; held = c.clear_unused-o.ensures.1 })
    (sym c.if-answer.ensures) sizes began c.requires.allowed_bound

pub overflow_sub-at : goal.overflow_sub-at
overflow_sub-at c = (visited (goal.at.overflow_sub-at c).In-Some-next_visit).to_low

pub overflow_sub-row : goal.overflow_sub-row
overflow_sub-row c = (visited (goal.at.overflow_sub-row c).In-Some-next_visit).from_low

pub digit-head-requires : goal.digit-head-requires
digit-head-requires c = received (goal.at.digit-head-requires c).In-Some-next_visit

pub one_further-requires : goal.one_further-requires
one_further-requires c = received (goal.at.one_further-requires c).In-Some-next_visit

pub channel_at-requires : goal.channel_at-requires
channel_at-requires c = line-channel c.visits.invariant.0 c.in-Some-next_visit.visit c.in-Some-next_visit.ensures

pub bounds-o-at : goal.bounds-o-at
bounds-o-at c = let b = (visited (goal.at.bounds-o-at c).In-Some-next_visit) in let z = c.visits.invariant.0.sized.agents in search rules

pub words_before-words-requires : goal.words_before-words-requires
words_before-words-requires c = let b = (visited (goal.at.words_before-words-requires c).In-Some-next_visit) in (b.to_low, b.to_high)

pub bounds-domains-at : goal.bounds-domains-at
bounds-domains-at c = let b = (visited (goal.at.bounds-domains-at c).In-Some-next_visit) in search rules

pub slice_bounds-mine-end : goal.slice_bounds-mine-end
slice_bounds-mine-end c = let b = (visited (goal.at.slice_bounds-mine-end c).In-Some-next_visit) in let w : length c.args.r.bans ≡ 66 = rw c.visits.invariant.0.live.table c.visits.invariant.0.sized.bans in search rules

pub of-barred-requires-clause-able : goal.of-barred-requires-clause-able
of-barred-requires-clause-able c = (bars-ask (finding (goal.at.of-barred-requires-clause-able c).After-place_at) no_agent _ _ c.words_before-words.result c.visits.invariant.0.live.owned c.visits.invariant.0.live.table c.words_before-words.ensures.0).0

pub of-barred-requires-clause-view_fits : goal.of-barred-requires-clause-view_fits
unfolding assigned
of-barred-requires-clause-view_fits c = (bars-ask (finding (goal.at.of-barred-requires-clause-view_fits c).After-place_at) no_agent _ _ c.words_before-words.result c.visits.invariant.0.live.owned c.visits.invariant.0.live.table c.words_before-words.ensures.0).1

pub bounds : goal.bounds
bounds c = let b = (visited (goal.at.bounds c).In-Some-next_visit) in let z = c.visits.invariant.0.live.beside in search rules

pub bounds-conflicts-at : goal.bounds-conflicts-at
bounds-conflicts-at c = let b = (visited (goal.at.bounds-conflicts-at c).In-Some-next_visit) in let z = c.visits.invariant.0.live.beside in search rules

pub bounds-conflicts-at-in-Some-next_visit : goal.bounds-conflicts-at-in-Some-next_visit
bounds-conflicts-at-in-Some-next_visit c = let b = (visited (goal.at.bounds-conflicts-at-in-Some-next_visit c).In-Some-next_visit) in let z = c.visits.invariant.0.live.beside in search rules

pub bounds-conflicts-at-in-Some-next_visit-2 : goal.bounds-conflicts-at-in-Some-next_visit-2
bounds-conflicts-at-in-Some-next_visit-2 c =
    let b = (visited (goal.at.bounds-conflicts-at-in-Some-next_visit-2 c).In-Some-next_visit) in omega (arith, b.to_low, b.to_high)

pub receive-step-requires-clause-able : goal.receive-step-requires-clause-able
receive-step-requires-clause-able c = (step-asks (finding (goal.at.receive-step-requires-clause-able c).After-place_at) no_agent _ _ c.words_before-words.result c.visits.invariant.0.live.owned c.visits.invariant.0.live.table c.words_before-words.ensures.0).0

pub receive-step-requires-clause-record_fits : goal.receive-step-requires-clause-record_fits
receive-step-requires-clause-record_fits c = (step-asks (finding (goal.at.receive-step-requires-clause-record_fits c).After-place_at) no_agent _ _ c.words_before-words.result c.visits.invariant.0.live.owned c.visits.invariant.0.live.table c.words_before-words.ensures.0).1.0

pub receive-step-requires-clause-message_fits : goal.receive-step-requires-clause-message_fits
receive-step-requires-clause-message_fits c = (step-asks (finding (goal.at.receive-step-requires-clause-message_fits c).After-place_at) no_agent _ _ c.words_before-words.result c.visits.invariant.0.live.owned c.visits.invariant.0.live.table c.words_before-words.ensures.0).1.1

pub receive-step-requires-clause-conflicts_of : goal.receive-step-requires-clause-conflicts_of
receive-step-requires-clause-conflicts_of c = bars-now (goal.at.receive-step-requires-clause-conflicts_of c).Joined-conflicts-at

pub bounds-o-at-then-not-step : goal.bounds-o-at-then-not-step
bounds-o-at-then-not-step c = let b = (visited (goal.at.bounds-o-at-then-not-step c).In-Some-next_visit) in let z = c.visits.invariant.0.sized.counts in search rules

pub posts-init : goal.posts-init
posts-init c =
    (rw (ap envelopes_left c.into_iter-post-iterator.ensures.into_iter_gives) (storing (stepped (goal.at.posts-init c).After-receive-step)), refl, refl)

pub digit-waiting-requires : goal.digit-waiting-requires
digit-waiting-requires c = posted (goal.at.digit-waiting-requires c).In-Some-post

pub with_digit-rest-requires : goal.with_digit-rest-requires
with_digit-rest-requires c = let b = (visited (goal.at.with_digit-rest-requires c).In-Some-next_visit) in (b.to_low, omega (arith, b.to_high), omega arith)

pub visits-smaller-then-waiting-ge8 : goal.visits-smaller-then-waiting-ge8
visits-smaller-then-waiting-ge8 c = let b = (visited (goal.at.visits-smaller-then-waiting-ge8 c).In-Some-next_visit) in passed-less _ _ c.in-Some-next_visit.ensures b.to_low (omega (arith, b.to_high)) _ (c.with_digit-rest.ensures ∙ ap (λ (rest : ℕ). at (assignment rest) c.in-Some-next_visit.visit.to 0) c.posts.invariant.1)

pub visits-preserved-then-waiting-ge8 : goal.visits-preserved-then-waiting-ge8
visits-preserved-then-waiting-ge8 c =
    let live = c.visits.invariant.0.live in
    let none = going (goal.at.visits-preserved-then-waiting-ge8 c).In-Some-next_visit in (
      stored-jams c.visits.invariant.0 c.in-Some-next_visit.visit c.in-Some-next_visit.ensures none _ (rw length-set live.beside) (barred-now (goal.at.visits-preserved-then-waiting-ge8 c).Joined-conflicts-at) (stepped (goal.at.visits-preserved-then-waiting-ge8 c).After-receive-step) (rw (ap envelopes_left c.into_iter-post-iterator.ensures.into_iter_gives) at c.posts.invariant.0)
          (turn-full (rw (ap envelopes_left c.into_iter-post-iterator.ensures.into_iter_gives) at c.posts.invariant.0) c.in-Some-post.post c.in-Some-post.ensures.steps _ c.digit-waiting.ensures.0 c.if-waiting-ge8.true) (c.with_digit-rest.ensures ∙ ap (λ (rest : ℕ). at (assignment rest) c.in-Some-next_visit.visit.to 0) c.posts.invariant.1),
      λ t. absurd (false≢true (sym none ∙ sym c.posts.invariant.0.kept.unsolvable ∙ t)),
    )

pub channel_at-requires-in-posts : goal.channel_at-requires-in-posts
channel_at-requires-in-posts c = turn-line c.posts.invariant.0 c.in-Some-post.post c.in-Some-post.ensures.steps

pub bounds-o-at-in-posts : goal.bounds-o-at-in-posts
bounds-o-at-in-posts c = let b = (visited (goal.at.bounds-o-at-in-posts c).In-Some-next_visit) in let z = c.posts.invariant.0.sized.heads in search rules

pub digit-requires : goal.digit-requires
digit-requires c = posted (goal.at.digit-requires c).In-Some-post

pub one_more-now-requires : goal.one_more-now-requires
one_more-now-requires c = let b = turn-ends c.posts.invariant.0 c.in-Some-post.post c.in-Some-post.ensures.steps in (b.to_low, omega (arith, b.to_high), omega (arith, c.digit-waiting.ensures.0, c.if-waiting-ge8.false))

pub posts-preserved : goal.posts-preserved
posts-preserved c = (
  turn-stores c.posts.invariant.0 c.in-Some-post.post c.in-Some-post.ensures.steps
      (record {
        channel = c.channel_at-in-posts.ensures.0;
        head = rw c.posts.invariant.0.kept.heads at c.digit.ensures.0;
        waiting = c.digit-waiting.ensures.0;
        place = c.place_at-end.ensures.0;
        next = c.one_more-now.ensures;
      })
      c.if-waiting-ge8.false,
  c.posts.invariant.1,
  c.posts.invariant.2,
)

pub bounds-o-at-then-not-step-2 : goal.bounds-o-at-then-not-step-2
bounds-o-at-then-not-step-2 c = let b = (visited (goal.at.bounds-o-at-then-not-step-2 c).In-Some-next_visit) in let z = c.posts.invariant.0.sized.counts in search rules

pub bounds-o-at-in-Some-next_visit : goal.bounds-o-at-in-Some-next_visit
bounds-o-at-in-Some-next_visit c = let b = (visited (goal.at.bounds-o-at-in-Some-next_visit c).In-Some-next_visit) in let z = c.visits.invariant.0.sized.agents in search rules

pub put-requires : goal.put-requires
put-requires c =
    λ still.
    elim c.if-not-step.branch [
      | then-not-step+in-None-post a ↦ absurd (false≢true (sym a.if-not-step.true ∙ still))
      | else-not-step a ↦ rw a.o-is (c.receive-step.ensures.still still).1
    ]

pub one_less-requires : goal.one_less-requires
one_less-requires c = let b = (visited (goal.at.one_less-requires c).In-Some-next_visit) in (b.to_low, omega (arith, b.to_high), sent-waits (finding (goal.at.one_less-requires c).After-place_at) (sent (goal.at.one_less-requires c).Joined-not-step (stepped (goal.at.one_less-requires c).After-receive-step)))

pub visits-smaller-then-step : goal.visits-smaller-then-step
visits-smaller-then-step c = none-less _ _ c.in-Some-next_visit.ensures

pub visits-preserved-then-step : goal.visits-preserved-then-step
visits-preserved-then-step c = (passes-all (let at = goal.at.visits-preserved-then-step c in gone at.After-one_less (stepped at.After-receive-step) (sent at.Joined-not-step (stepped at.After-receive-step)) (unpassed at.Joined-not-step) (barred-now at.Joined-conflicts-at)) c.next_visit-then-step.result c.next_visit-then-step.ensures c.is_some.result c.is_some.ensures c.if-step.true, λ _. ahead_none c.rounds.quota c.args.r.count c.args.r.count 0 refl (omega arith))

pub visits-preserved : goal.visits-preserved
visits-preserved c = ((let at = goal.at.visits-preserved c in gone at.After-one_less (stepped at.After-receive-step) (sent at.Joined-not-step (stepped at.After-receive-step)) (unpassed at.Joined-not-step) (barred-now at.Joined-conflicts-at)), λ t. absurd (false≢true (sym c.if-step.false ∙ t)))

pub returns-after-not-once : goal.returns-after-not-once
returns-after-not-once c =
    let stop : Stop c.visits.o.unsolvable c.visits.stuck c.waits-waits.result c.rounds.left =
    elim c.then-o.branch [
      | then-o-via-then-o a ↦ verdict-stands a.if-o.true
      | then-o-via-else-o+then-stuck a ↦ round-stuck a.if-stuck.true
      | then-o-via-else-o+else-stuck+then-not-waits a ↦ nothing-waits a.if-not-waits.true
      | then-o-via-else-o+else-stuck+else-not-waits+then-left-eq0 a ↦ rounds-used a.if-left-eq0.true
    ] in
    let told : rejected_number c.if-once.rejection ≡ cond (c.match-task.once.0 && c.visits.stuck) 10 0 =
    elim c.if-once.branch [
      | then-once+then-stuck-2 a ↦ ap rejected_number a.rejection-is ∙ told-ten a.if-once.true a.if-stuck-2.true
      | else-once a ↦ ap rejected_number a.rejection-is ∙ elim a.else-once.branch [
        | else-once-via-then-once+else-stuck-2 b ↦ told-goes c.match-task.once.0 b.if-stuck-2.false
        | else-once-via-else-once b ↦ told-run c.visits.stuck b.if-once.false
      ]
    ] in
    let jam : c.if-not-once.ending_at ≡ not c.match-task.once.0 && c.visits.stuck =
    elim c.if-not-once.branch [
      | then-not-once a ↦ a.ending_at-is ∙ jams-run c.visits.stuck a.if-not-once.true
      | else-not-once a ↦ a.ending_at-is ∙ jams-never c.visits.stuck a.if-not-once.false
    ] in
    record {
      works_as =
          work-stops c.visits.invariant.0 c.in_default-next_visit.ensures _ (counted (goal.at.returns-after-not-once c).Joined-not-missed) _ c.waits-waits.ensures stop _ c.if-once.rejection
          (c.ending_at-then-o.ensures ∙ ap (λ (b : Bool). ends_by false c.visits.o.unsolvable (not c.waits-waits.result) (cond b 10 0)) jam) told;
      network_value = λ e. absurd (told-not-five (c.match-task.once.0 && c.visits.stuck) told e);
    }

pub rounds-preserved : goal.rounds-preserved
rounds-preserved c =
    let made = counted (goal.at.rounds-preserved c).Joined-not-missed in (
      round-begins c.visits.invariant.0 c.in_default-next_visit.ensures _ made _ c.waits-waits.ensures c.if-o.false c.if-stuck.false c.if-not-waits.false c.if-left-eq0.false,
      round-settled c.visits.invariant.0 c.in_default-next_visit.ensures _ made _ c.waits-waits.ensures c.if-o.false c.if-stuck.false c.if-not-waits.false c.if-left-eq0.false,
    )
