-- The words in their order.
use Rattle.abt_engine.specs.Answers.{ending_of}
use Rattle.abt_engine.proofs.After.{word_is}
use Rattle.abt_engine.proofs.tests.ending_at.Goals as goal

pub returns-then-unsolvable : goal.returns-then-unsolvable
unfolding ending_of
returns-then-unsolvable c = rw (word_is, c.if-unsolvable.true)

pub returns-then-not-waits : goal.returns-then-not-waits
unfolding ending_of
returns-then-not-waits c = rw (word_is, c.if-unsolvable.false, c.if-not-waits.true)

pub returns-then-jammed : goal.returns-then-jammed
unfolding ending_of
returns-then-jammed c = rw (word_is, c.if-unsolvable.false, c.if-not-waits.false, c.if-jammed.true)

pub returns-else-jammed : goal.returns-else-jammed
unfolding ending_of
returns-else-jammed c = rw (word_is, c.if-unsolvable.false, c.if-not-waits.false, c.if-jammed.false)
