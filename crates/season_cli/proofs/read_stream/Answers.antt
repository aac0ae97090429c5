-- Piece by piece, what is read so far is a stream of its own, and what is left may follow. Assumes nothing.
use Rattle.std.proofs.Common.{◌≡◌, ◌+◌, ◌-◌, suc, sym, ◌∙◌, arith}
use Rattle.model_base.proofs.Tests.{test}
use Rattle.season_figures.specs.Pieces.{is_over}
use Rattle.season_cli.proofs.Reading.{now_begins, now_after, read_over, read_last}
use Rattle.season_cli.proofs.read_stream.Goals as goal

pub loop-init : goal.loop-init
loop-init g c = now_begins _ _ _ _ c.begin-s.ensures.0 c.begin-s.ensures.1

pub loop-preserved : goal.loop-preserved
loop-preserved g c =
    let less : 1000000 - c.loop.counter ≡ suc (1000000 - (c.loop.counter + 1)) = omega arith in
    now_after _ _ _ _ _ _ _ _ _ _ _ less c.loop.invariant (sym c.is_over.ensures ∙ c.if-is_over.false) c.next-s.ensures c.say_progress.ensures

pub returns-after-loop : goal.returns-after-loop
returns-after-loop g c =
    let none : 1000000 - c.loop.counter ≡ 0 = omega arith in
    test (is_over c.loop.s.reading)
    (λ t. read_over _ _ _ _ _ _ _ c.loop.invariant t)
    (λ t. read_last _ _ _ _ _ _ _ c.loop.invariant none t)

pub returns-then-is_over : goal.returns-then-is_over
returns-then-is_over g c = read_over _ _ _ _ _ _ _ c.loop.invariant (sym c.is_over.ensures ∙ c.if-is_over.true)
