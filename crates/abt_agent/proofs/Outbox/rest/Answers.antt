-- `rest` leaves the posts after the first.
-- The lowest agent is taken from the set, or the next Back is passed.
use Rattle.std.proofs.Common.{arith}
use Rattle.abt_agent.proofs.Cursor.{link-rest, back-rest, news-rest, news-left}
use Rattle.abt_agent.proofs.Outbox.rest.Goals as goal

pub first-requires-else-self : goal.first-requires-else-self
first-requires-else-self c =
    let n = news-left c.args.self c.requires.self_value c.if-self-ne0.false (omega (arith, c.if-self.false, c.requires.next_le_count)) in
    omega (arith, n)

pub returns-then-self-ne0 : goal.returns-then-self-ne0
returns-then-self-ne0 c =
    λ backs r.
    let (low, here, lo, hi) = c.first.ensures in
    link-rest c.args.self backs r c.first.result low here lo hi c.without.result c.without.ensures.0

pub returns-then-self : goal.returns-then-self
returns-then-self c = λ backs r. back-rest c.args.self backs r c.if-self-ne0.false c.if-self.true

pub returns-else-self : goal.returns-else-self
returns-else-self c =
    λ backs r.
    let (low, here, lo, hi) = c.first-else-self.ensures in
    news-rest c.args.self backs r c.if-self-ne0.false (omega (arith, c.if-self.false, r.next)) c.first-else-self.result low here lo hi c.without-else-self.result
    c.without-else-self.ensures.0
