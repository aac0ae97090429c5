-- The lines are looked at one by one, from this one on and round: nothing waits on those that were passed.
use Rattle.std.proofs.Common.{◌+◌, ◌%◌, ◌≡◌, sym, ◌∙◌, arith, below_more}
use Rattle.gate_random.specs.Lines.{held_on}
use Rattle.gate_random.proofs.Lines.{held_by, none-met}
use Rattle.gate_random.proofs.rails.waiting_line.Goals as goal

pub returns-then-digit-ne0 : goal.returns-then-digit-ne0
returns-then-digit-ne0 c =
    let held-here : c.digit.result ≡ held_on c.args.counts.now ((c.args.first % 132 + c.loop-k.k) % 132) =
    let e = c.ends_of-from in held_by _ _ e.result.0 e.result.1 _ e.ensures.0 e.ensures.1 c.digit.ensures.0 in
    (omega arith, λ e. c.if-digit-ne0.true (held-here ∙ e))

pub loop-k-preserved : goal.loop-k-preserved
loop-k-preserved c =
    let held-here : c.digit.result ≡ held_on c.args.counts.now ((c.args.first % 132 + c.loop-k.k) % 132) =
    let e = c.ends_of-from in held_by _ _ e.result.0 e.result.1 _ e.ensures.0 e.ensures.1 c.digit.ensures.0 in
    below_more _ _ c.loop-k.invariant (sym held-here ∙ c.if-digit-ne0.false)

pub returns : goal.returns
returns c = none-met _ c.args.first (λ q h. c.loop-k.invariant q (omega (arith, h)))
