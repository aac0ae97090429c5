-- `nogoods_fit` is the clause on an agent's nogoods.
-- From value 8 down. The invariant: what is asked of all values is asked of those left.
use Rattle.std.proofs.Common.{◌-◌, ◌≡◌, sym, ◌∙◌, true, false, arith, le-leb}
use mathlib.Core.Bool.{false≢true}
use borrow.Author.Tests.{not-true, not-false}
use Rattle.model_base.proofs.Loops.{all_to-goes, all_to-fails}
use Rattle.model_base.proofs.Peeling.{all_to-over}
use Rattle.abt_shape.proofs.Clauses.{nogoods-is, stored-out, stored-seen, unstored}
use Rattle.abt_shape.proofs.agents.nogoods_fit.Invariants.{fits_at}
use Rattle.abt_shape.proofs.agents.nogoods_fit.Goals as goal
use Rattle.abt_shape.proofs.agents.nogoods_fit.Goals.{then-d-v, else-d-v, else-a-v-eq1-via-then-a-v-eq1+else-not-within, else-a-v-eq1-via-else-a-v-eq1}

pub returns-then-not-within : goal.returns-then-not-within
returns-then-not-within c =
    let s = c.if-a-v-eq1.true in
    let fails : fits_at c.args.d c.args.a c.loop-v.v ≡ false =
    elim c.if-d-v.branch [
      | then-d-v w ↦ stored-out c.args.d c.args.a (c.loop-v.v - 1) s w.if-d-v.true
      | else-d-v w ↦ stored-seen c.args.d c.args.a (c.loop-v.v - 1) s w.if-d-v.false ∙ sym w.within.ensures ∙ not-true _ (sym w.value-is ∙ c.if-not-within.true)
    ] in
    λ w i e f.
    sym (nogoods-is w i c.args.d c.args.a e f
    ∙ c.loop-v.invariant
    ∙ all_to-fails c.loop-v.v (fits_at c.args.d c.args.a) c.loop-v-test.true fails)

pub loop-v-preserved : goal.loop-v-preserved
loop-v-preserved c =
    let goes : fits_at c.args.d c.args.a c.loop-v.v ≡ true =
    elim c.else-a-v-eq1.branch [
      | else-a-v-eq1-via-then-a-v-eq1+else-not-within w ↦ elim w.if-d-v.branch [
        | then-d-v u ↦ absurd (false≢true (sym w.if-not-within.false ∙ u.value-is ∙ le-leb _ _ u.if-d-v.true))
        | else-d-v u ↦ stored-seen c.args.d c.args.a (c.loop-v.v - 1) w.if-a-v-eq1.true u.if-d-v.false ∙ sym u.within.ensures ∙ not-false _ (sym u.value-is ∙ w.if-not-within.false)
      ]
      | else-a-v-eq1-via-else-a-v-eq1 w ↦ unstored c.args.d c.args.a (c.loop-v.v - 1) w.if-a-v-eq1.false
    ] in
    c.loop-v.invariant ∙ all_to-goes c.loop-v.v (fits_at c.args.d c.args.a) c.loop-v-test.true goes

pub returns : goal.returns
returns c = λ w i e f. sym (nogoods-is w i c.args.d c.args.a e f ∙ c.loop-v.invariant ∙ all_to-over c.loop-v.v (fits_at c.args.d c.args.a) (omega arith))
