-- `Gaps::last_of` goes up along the run.
-- The last place of the whole run is that of the run from where it has come to.
use Rattle.std.proofs.Common.{◌≡◌, sym, ◌∙◌, arith}
use Rattle.model_base.specs.Bits.{bit}
use Rattle.sheet_editions.proofs.Runs.{last-here, last_on, last_end}
use Rattle.sheet_editions.proofs.gaps.Gaps.last_of.Goals as goal

pub returns-then-not-has : goal.returns-then-not-has
returns-then-not-has c =
    let l = c.loop-last in
    let g = bit c.args.self.bits in
    (sym (l.invariant ∙ last-here g l.last (omega arith) (sym c.has.ensures ∙ c.if-not-has.true)), omega arith)

pub loop-last-preserved : goal.loop-last-preserved
loop-last-preserved c =
    let l = c.loop-last in
    l.invariant ∙ last_on (bit c.args.self.bits) l.last (omega arith) (sym c.has.ensures ∙ c.if-not-has.false)

pub returns : goal.returns
returns c =
    let l = c.loop-last in
    let top : l.last ≡ 14 = omega (arith, l.auto.last-end) in
    (sym top ∙ sym (l.invariant ∙ last_end (bit c.args.self.bits) l.last top), omega arith)
