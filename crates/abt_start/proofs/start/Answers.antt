-- Agent by agent, the network is the start as far as they have begun; within one, as far as its Infos are stored.
use Rattle.std.proofs.Common.{◌≡◌, refl, sym, ap, ◌∙◌, true, ℕ, suc, ◌+◌, ◌*◌, ◌≤◌, ◌<◌, arith, add-one}
use Rattle.std.proofs.lemmas.Result.{err_from_is_err_and}
use Rattle.model_sheet.specs.Problem.{max_domain, domain}
use Rattle.model_sheet.proofs.Range.{Ranged, linked-pair}
use Rattle.model_network.specs.Network.{self_of, bans_of, begun}
use Rattle.model_base.specs.Sets.{members}
use Rattle.abt_choosing.specs.Conflicts.{self_of as own_of}
use Rattle.abt_agent.specs.Abstract.{message_of}
use Rattle.abt_agent.specs.Entries.{BeginsAs}
use Rattle.abt_record.specs.Abstract.{is_channel, channel_at, place_of}
use Rattle.abt_record.specs.Empty.{empty_record}
use Rattle.sheet_reader.specs.Abstract.{problem_of}
use Rattle.abt_start.proofs.Telling.{telling-begins, telling-goes}
use Rattle.abt_start.proofs.Beginning.{begun-by, not_beyond, informs-below}
use Rattle.abt_start.proofs.Turns.{none-begun, told-channel, one_more}
use Rattle.abt_start.proofs.Opened.{opened, all-opened}
use Rattle.abt_start.proofs.Sheets.{bad_ruled, refused, in-range, few-agents, starts}
use Rattle.abt_start.proofs.start.Goals as goal
use Rattle.abt_start.proofs.start.Goals.{After-begin-agent, After-nothing, In-loop-at}

-- the problem is in range, and has twelve agents at the most
ranged : (c : After-nothing) → Ranged (problem_of c.in_ok-count.field-0)
ranged c = in-range c.args.rule c.args.sheet.now (sym c.if-not-is_rule.ensures) c.in_ok-count.field-0 c.in_ok-count.ensures

few : (c : In-loop-at) → c.loop-at.at < 12
few c =
    omega (arith, few-agents c.args.rule c.args.sheet.now (sym c.if-not-is_rule.ensures) c.in_ok-count.field-0 c.in_ok-count.ensures)

-- an agent's step is the definition's, and those it informs are below
begins : (c : After-begin-agent)
    → BeginsAs c.begin-agent.result (begun c.args.rule (problem_of c.in_ok-count.field-0) (suc c.loop-at.at))
unfolding own_of self_of problem_of domain
begins c =
    let p = problem_of c.in_ok-count.field-0 in
    let i = c.loop-at.at in
    let r = in-range c.args.rule c.args.sheet.now (sym c.if-not-is_rule.ensures) c.in_ok-count.field-0 c.in_ok-count.ensures in
    begun-by _ p (suc i) _ _ _ _ (c.begin-agent.ensures (bans_of p (suc i))) (rw add-one refl)
    (rw add-one at (c.listens.ensures p refl)) (rw add-one at (c.informs.ensures p refl (not_beyond p r (i + 1))))

below : (c : After-begin-agent) → (j : ℕ) → members c.begin-agent.result.informs j ≡ true → (suc c.loop-at.at < j) × (j ≤ 12)
unfolding problem_of
below c =
    let r = in-range c.args.rule c.args.sheet.now (sym c.if-not-is_rule.ensures) c.in_ok-count.field-0 c.in_ok-count.ensures in
    informs-below _ (problem_of c.in_ok-count.field-0) (suc c.loop-at.at) _ r (omega arith) (omega (arith, c.loop-at-test.true)) (begins c)

pub returns-then-not-is_rule : goal.returns-then-not-is_rule
returns-then-not-is_rule c = bad_ruled _ _ (sym c.if-not-is_rule.ensures)

pub returns-in_err-count : goal.returns-in_err-count
returns-in_err-count c =
    let p = err_from_is_err_and c.from_residual.result c.from_residual.ensures.1 in
    rw (p.1, p.2) (refused _ _ (sym c.if-not-is_rule.ensures) c.in_err-count.field-0.0 c.in_err-count.ensures)

pub loop-at-init : goal.loop-at-init
unfolding empty_record
loop-at-init c = rw (c.nobody.ensures, c.nothing.ensures) (none-begun _ _ empty_record refl)

pub bounds-domains-at : goal.bounds-domains-at
bounds-domains-at c =
    omega (arith, few-agents c.args.rule c.args.sheet.now (sym c.if-not-is_rule.ensures) c.in_ok-count.field-0 c.in_ok-count.ensures)

pub listens-requires : goal.listens-requires
listens-requires c = (omega arith, omega (arith, few (goal.at.listens-requires c).In-loop-at))

pub informs-requires : goal.informs-requires
informs-requires c =
    (omega arith, omega (arith, c.loop-at-test.true), few-agents c.args.rule c.args.sheet.now (sym c.if-not-is_rule.ensures) c.in_ok-count.field-0 c.in_ok-count.ensures)

pub begin-agent-requires-clause-own_fits : goal.begin-agent-requires-clause-own_fits
unfolding max_domain problem_of domain
begin-agent-requires-clause-own_fits c =
    let r = ranged (goal.at.begin-agent-requires-clause-own_fits c).After-nothing in
    let v = r.domained (suc c.loop-at.at) (omega arith) (omega (arith, c.loop-at-test.true)) in
    record { first = omega arith; last = omega (arith, few (goal.at.begin-agent-requires-clause-own_fits c).In-loop-at); some = v.0; few = v.1 }

pub begin-agent-requires-clause-below : goal.begin-agent-requires-clause-below
unfolding problem_of
begin-agent-requires-clause-below c =
    let p = problem_of c.in_ok-count.field-0 in
    let r = ranged (goal.at.begin-agent-requires-clause-below c).After-nothing in
    λ j l u e. let q = linked-pair p (c.loop-at.at + 1) j (rw (c.informs.ensures p refl (not_beyond p r (c.loop-at.at + 1))) at e) in (q.1, q.2)

pub bounds-r-at : goal.bounds-r-at
bounds-r-at c = few (goal.at.bounds-r-at c).In-loop-at

pub loop-k-init : goal.loop-k-init
loop-k-init c = rw c.into_iter-k-iterator.ensures.into_iter_gives (telling-begins _ _ _ _ c.loop-at.invariant.places)

pub channel_at-requires : goal.channel_at-requires
channel_at-requires c =
    let here = c.in-Some.ensures.steps.0.1 in
    rw add-one
    (told-channel _ c.in-Some.k (few (goal.at.channel_at-requires c).In-loop-at)
    (below (goal.at.channel_at-requires c).After-begin-agent c.in-Some.k (c.loop-k.invariant.left c.in-Some.k here)))

pub loop-k-preserved : goal.loop-k-preserved
unfolding place_of message_of
loop-k-preserved c =
    let h = c.loop-k in
    let at = goal.at.loop-k-preserved c in
    let (first, left) = c.in-Some.ensures.steps in
    let informed : is_channel (c.loop-at.at + 1) c.in-Some.k ≡ true =
    rw add-one (told-channel _ c.in-Some.k (few at.In-loop-at) (below at.After-begin-agent c.in-Some.k (h.invariant.left c.in-Some.k first.1))) in
    let placed : c.place_at.result ≡ 8 * channel_at (c.loop-at.at + 1) c.in-Some.k = omega (arith, c.place_at.ensures.0, c.channel_at.ensures.0) in
    telling-goes _ _ _ _ h.r _ _ c.in-Some.k _ _ _ _ h.invariant informed first.1 c.with_digit-row.ensures left placed refl

pub bounds-r-at-in-loop-at : goal.bounds-r-at-in-loop-at
bounds-r-at-in-loop-at c = few (goal.at.bounds-r-at-in-loop-at c).In-loop-at

pub loop-at-preserved : goal.loop-at-preserved
unfolding problem_of
loop-at-preserved c =
    let h = c.loop-at in
    let at = goal.at.loop-at-preserved c in
    rw add-one
    (one_more _ _ h.at _ h.invariant (few at.In-loop-at) c.begin-agent.result (begins at.After-begin-agent) (below at.After-begin-agent) _ _ _
    (rw add-one at c.loop-k.invariant) c.in-None.ensures.steps)

pub returns : goal.returns
unfolding problem_of
returns c =
    let p = problem_of c.in_ok-count.field-0 in
    let h = c.loop-at in
    let e : h.at ≡ p.count = omega arith in
    starts _ _ (sym c.if-not-is_rule.ensures) c.in_ok-count.field-0 c.in_ok-count.ensures h.r
    (h.invariant.network ∙ ap (opened _ p) e ∙ all-opened _ p)
