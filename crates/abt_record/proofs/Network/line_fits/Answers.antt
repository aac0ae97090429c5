-- The messages from the last to the first.
use Rattle.std.proofs.Common.{◌≡◌, sym, ap, ◌∙◌, arith, length, rules}
use mathlib.Core.Bool.{and-true, and-false}
use Rattle.model_base.proofs.Tests.{or_left}
use Rattle.abt_shape.specs.Parts.{is_link, fits_now}
use Rattle.abt_shape.proofs.Numbering.{ends}
use Rattle.abt_shape.proofs.Words.{set_at}
use Rattle.abt_record.specs.Abstract.{place_of, no_place, network_of}
use Rattle.abt_record.proofs.Rings.{nothing_left, last_fits, full-unfit, few-fit, last-read}
use Rattle.abt_record.proofs.Network.line_fits.Goals as goal

pub overflow_sub-row : goal.overflow_sub-row
overflow_sub-row c = (ends _ _ c.requires.0).from_low

pub returns-then-held-gt-CAPACITY : goal.returns-then-held-gt-CAPACITY
returns-then-held-gt-CAPACITY c =
    λ f. sym (full-unfit c.args.self.now c.args.from c.args.to c.requires.0 (rw (← c.requires.1) c.if-held-gt-CAPACITY.true))

pub bounds-self-row : goal.bounds-self-row
bounds-self-row c = let b = ends _ _ c.requires.0 in omega (arith, b.from_low, b.from-high)

pub digit-head-requires : goal.digit-head-requires
digit-head-requires c = let b = ends _ _ c.requires.0 in (b.to_low, omega (arith, b.to_high))

pub overflow_sub-to : goal.overflow_sub-to
overflow_sub-to c = (ends _ _ c.requires.0).to_low

pub bounds-frame-to : goal.bounds-frame-to
bounds-frame-to c = let b = ends _ _ c.requires.0 in omega (arith, b.to_low, b.to_high)

pub has-asked-requires : goal.has-asked-requires
has-asked-requires c = let b = ends _ _ c.requires.0 in (b.from_low, omega (arith, b.from-high))

pub loop-ahead-init : goal.loop-ahead-init
loop-ahead-init c =
    let r = c.args.self.now in
    let b = ends _ _ c.requires.0 in
    λ f.
    let informed : ((network_of r).agents c.args.to).informs c.args.from ≡ c.has-asked.result =
    f.agents.informs c.args.to c.args.from ∙ set_at _ c.args.to c.args.from b.to_low ∙ sym c.has-asked.ensures in
    rw (← informed)
    (few-fit r c.args.from c.args.to c.args.held c.requires.0 c.requires.1 c.if-held-gt-CAPACITY.false, λ u. u)

pub message_fits-requires : goal.message_fits-requires
message_fits-requires c = let b = ends _ _ c.requires.0 in (b.from_low, b.from-high, b.to_low, b.to_high)

pub returns-then-not-message_fits : goal.returns-then-not-message_fits
unfolding place_of no_place
returns-then-not-message_fits c =
    let r = c.args.self.now in
    let l = c.loop-ahead in
    let placed : length r.places ≡ 1056 = search rules in
    let read = last-read r c.args.from c.args.to c.digit-head.result c.channel_at-channel.result c.place_at.result l.ahead no_place placed (ends _ _ c.requires.0).from_low c.digit-head.ensures.0 c.channel_at-channel.ensures.0 c.place_at.ensures in
    λ f.
    let i = l.invariant f in
    let fits = ap (fits_now (network_of r) c.args.from c.args.to l.asked) (sym read) ∙ sym (c.message_fits.ensures (network_of r) f.messages i.1) ∙ c.if-not-message_fits.true in
    sym (i.0 ∙ last_fits r c.args.from c.args.to l.ahead l.asked c.loop-ahead-test.true ∙ rw (fits, and-false))

pub loop-ahead-preserved : goal.loop-ahead-preserved
unfolding place_of no_place
loop-ahead-preserved c =
    let r = c.args.self.now in
    let l = c.loop-ahead in
    let placed : length r.places ≡ 1056 = search rules in
    let read = last-read r c.args.from c.args.to c.digit-head.result c.channel_at-channel.result c.place_at.result l.ahead no_place placed (ends _ _ c.requires.0).from_low c.digit-head.ensures.0 c.channel_at-channel.ensures.0 c.place_at.ensures in
    λ f.
    let i = l.invariant f in
    let fits = ap (fits_now (network_of r) c.args.from c.args.to l.asked) (sym read) ∙ sym (c.message_fits.ensures (network_of r) f.messages i.1) ∙ c.if-not-message_fits.false in
    let link = ap is_link (sym read) ∙ sym c.is_link-asked.ensures in
    (i.0 ∙ last_fits r c.args.from c.args.to l.ahead l.asked c.loop-ahead-test.true ∙ rw (fits, and-true, link), λ u. or_left l.asked c.is_link-asked.result (i.1 u))

pub returns : goal.returns
returns c = λ f. sym ((c.loop-ahead.invariant f).0 ∙ nothing_left c.args.self.now c.args.from c.args.to c.loop-ahead.ahead c.loop-ahead.asked (omega arith))
