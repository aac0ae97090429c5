-- The chain is followed for as many records as there are: what is left is the rest of it.
use Rattle.std.proofs.Common.{◌+◌, ◌-◌, ◌≡◌, sym, ◌∙◌, arith, rules}
use Rattle.gate_second_reading.specs.Bans.{chain_of}
use Rattle.gate_second_reading.proofs.Walks.{some-none, some-met, some-passed}
use Rattle.gate_second_reading.proofs.reading.Sheet.some_record.Goals as goal

pub loop-init : goal.loop-init
unfolding chain_of
loop-init g c =
    let n : c.word-end.result - 0 ≡ c.word-end.result = omega arith in
    (search rules, λ p h. rw (n, c.word-end.ensures, c.word-r.ensures))

pub returns-then-r-eq0 : goal.returns-then-r-eq0
returns-then-r-eq0 g c = λ p h. sym (c.loop.invariant.1 p h ∙ some-none p _ _ _ (λ l n. n c.if-r-eq0.true))

pub returns-then-passes : goal.returns-then-passes
returns-then-passes g c =
    λ p h.
    sym (c.loop.invariant.1 p h ∙ some-met p _ _ _ (omega arith) c.if-r-eq0.false (sym (h c.loop.r c.passes.result c.loop.invariant.0 c.passes.ensures) ∙ c.if-passes.true))

pub loop-preserved : goal.loop-preserved
loop-preserved g c =
    let less : c.word-end.result - c.loop.counter - 1 ≡ c.word-end.result - (c.loop.counter + 1) = omega arith in (
      search rules,
      λ p h.
          rw (c.next_of-r.ensures, ← less)
          (c.loop.invariant.1 p h ∙ some-passed p _ _ _ (omega arith) c.if-r-eq0.false (sym (h c.loop.r c.passes.result c.loop.invariant.0 c.passes.ensures) ∙ c.if-passes.false)),
    )

pub returns : goal.returns
returns g c = λ p h. sym (c.loop.invariant.1 p h ∙ some-none p _ _ _ (λ l n. omega arith))
