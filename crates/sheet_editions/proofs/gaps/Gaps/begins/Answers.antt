-- `Gaps::begins` is the definition's test, place by place.
-- Below place 0 there is none.
use Rattle.std.proofs.Common.{sym, ap, ◌∙◌, not, arith, eq-eqb}
use Rattle.model_base.specs.Bits.{bit}
use Rattle.sheet_editions.proofs.Runs.{not-begun, begun_first, begun-above}
use Rattle.sheet_editions.proofs.gaps.Gaps.begins.Goals as goal

pub returns-else-has : goal.returns-else-has
returns-else-has c = let a = c.args in c.if-has.false ∙ sym (not-begun (bit a.self.bits) a.k (sym c.has.ensures ∙ c.if-has.false))

pub returns-then-k-eq0 : goal.returns-then-k-eq0
returns-then-k-eq0 c =
    let a = c.args in
    eq-eqb a.k 0 c.if-k-eq0.true ∙ sym (begun_first (bit a.self.bits) a.k c.if-k-eq0.true (sym c.has.ensures ∙ c.if-has.true))

pub returns-else-k-eq0 : goal.returns-else-k-eq0
returns-else-k-eq0 c =
    let a = c.args in
    let n = c.if-k-eq0.false in
    sym (begun-above (bit a.self.bits) a.k (omega (arith, n)) (sym c.has.ensures ∙ c.if-has.true) ∙ ap not (sym c.has-else-k-eq0.ensures))
