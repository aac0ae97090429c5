-- From the last row down: all rows are idle if those left are.
use Rattle.std.proofs.Common.{◌-◌, ◌<◌, not, eqb, ◌≡◌, refl, sym, ap, ◌∙◌, arith, rules, eq-eqb, ne_eqb, length, take}
use Rattle.model_base.proofs.Loops.{all_to-goes, all_to-fails}
use Rattle.model_base.proofs.Peeling.{all_to-over}
use Rattle.abt_shape.proofs.Ranges.{from-end}
use Rattle.abt_record_laws.specs.Held.{Clean}
use Rattle.abt_engine.proofs.Held.{idle_row, row_idle}
use Rattle.abt_engine.proofs.tests.waits.Goals as goal
use Rattle.abt_engine.proofs.tests.waits.Goals.{In-Some}

-- the row met is that of the last sender left, and is idle where its word is 0
row : (c : In-Some) → Clean c.args.counts.now
    → (0 < length c.loop-row.row-iterator.iter.rest.now)
    × (idle_row c.args.counts.now (length c.loop-row.row-iterator.iter.rest.now) ≡ eqb c.in-Some.row.now 0)
row c clean =
    let left = c.loop-row.row-iterator.iter.rest.now in
    let s = from-end c.args.counts.now left c.next.new.self.iter.rest.now c.in-Some.row.now c.loop-row.invariant.0 c.in-Some.ensures.steps in
    let low : 0 < length left = omega (arith, s.2) in
    (low, rw s.1 at (row_idle _ clean (length left) low (search rules)))

pub loop-row-init : goal.loop-row-init
loop-row-init c =
    let many : length (take c.args.n c.args.counts.now) ≡ c.args.n = search rules in
    rw (c.into_iter-row-iterator.ensures.into_iter_gives, c.rev-row-items.ensures.source, c.iter.ensures.rest, many) (refl, λ _. refl)

pub returns-then-row-ne0 : goal.returns-then-row-ne0
returns-then-row-ne0 c =
    λ clean. let r = row (goal.at.returns-then-row-ne0 c).In-Some clean in
    sym (ap not (c.loop-row.invariant.1 clean ∙ all_to-fails _ _ r.0 (r.1 ∙ ne_eqb _ 0 c.if-row-ne0.true)))

pub loop-row-preserved : goal.loop-row-preserved
loop-row-preserved c =
    let left = c.loop-row.row-iterator.iter.rest.now in
    let others = c.next.new.self.iter.rest.now in
    let s = from-end c.args.counts.now left others c.in-Some.row.now c.loop-row.invariant.0 c.in-Some.ensures.steps in
    let down : length left - 1 ≡ length others = omega (arith, s.2) in (
      s.0,
      λ clean. let r = row (goal.at.loop-row-preserved c).In-Some clean in
          c.loop-row.invariant.1 clean ∙ rw down at (all_to-goes (length left) (idle_row c.args.counts.now) r.0 (r.1 ∙ eq-eqb _ 0 c.if-row-ne0.false)),
    )

pub returns : goal.returns
returns c =
    λ clean. sym (ap not (c.loop-row.invariant.1 clean ∙ all_to-over _ _ (omega (arith, c.in-None.ensures.steps.0))))
