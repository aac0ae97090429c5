-- `first` reads the first of the posts that are left.
-- A link request to the lowest agent of the set, else the next Back, else an Info to the lowest agent told.
use Rattle.std.proofs.Common.{refl, get_or, arith}
use Rattle.abt_agent.specs.Abstract.{message_of, post_of}
use Rattle.abt_agent.specs.Posting.{Sendable}
use Rattle.abt_choosing.proofs.Named.{still-short}
use Rattle.abt_agent.proofs.Cursor.{first-is, link-first, back-sendable, back-named, back-first, back_read, news-first, news-left}
use Rattle.abt_agent.proofs.Outbox.first.Goals as goal
use Rattle.abt_agent.proofs.Outbox.first.Goals.{Then-next-count}

-- the next Back
sendable : (c : Then-next-count)
    → Sendable (get_or c.args.backs.now c.args.self.next 0)
sendable c = back-sendable c.args.self c.args.backs.now c.requires.ready c.if-next-count.true

pub returns-then-links-ne0 : goal.returns-then-links-ne0
unfolding post_of message_of
returns-then-links-ne0 c =
    let (low, here, lo, hi) = c.first.ensures in
    first-is _ _ _ _ refl (link-first c.args.self c.args.backs.now c.requires.ready c.first.result low here lo hi _ refl)

pub unwrap-k-requires : goal.unwrap-k-requires
unwrap-k-requires c = back-named _ _ (sendable (goal.at.unwrap-k-requires c).Then-next-count) c.last_digit.ensures.found

pub pack-requires : goal.pack-requires
pack-requires c = still-short _ _ _ (sendable (goal.at.pack-requires c).Then-next-count).short (omega arith) c.with_digit.ensures

pub returns-then-next-count : goal.returns-then-next-count
returns-then-next-count c =
    first-is _ _ _ _
    (back_read _ _ _ _ _ (rw c.unwrap-k.ensures at c.last_digit.ensures.found) c.digit.ensures.0 c.pack.ensures c.with_digit.ensures)
    (back-first c.args.self c.args.backs.now c.requires.ready c.if-links-ne0.false c.if-next-count.true)

pub first-requires-else-next-count : goal.first-requires-else-next-count
first-requires-else-next-count c =
    let n = news-left c.args.self c.requires.self_value c.if-links-ne0.false (omega (arith, c.if-next-count.false, c.requires.ready.next)) in
    omega (arith, n)

pub returns-else-next-count : goal.returns-else-next-count
unfolding post_of message_of
returns-else-next-count c =
    let (low, here, lo, hi) = c.first-else-next-count.ensures in
    first-is _ _ _ _ refl
    (news-first c.args.self c.args.backs.now c.requires.ready c.if-links-ne0.false (omega (arith, c.if-next-count.false, c.requires.ready.next))
    c.first-else-next-count.result low here lo hi _ refl)
