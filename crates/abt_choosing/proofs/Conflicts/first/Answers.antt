-- `first` is the lowest-numbered agent that bans a value.
-- That value's bit of each byte, and the zeros below the lowest that is set.
use Rattle.std.proofs.Common.{pred, ◌-◌, ◌≤◌, ◌≡◌, sub-one, arith}
use Rattle.abt_choosing.proofs.Marks.{marks, first-low, first-high, first-none}
use Rattle.abt_choosing.proofs.Conflicts.first.Goals as goal

pub returns-then-low-ne0 : goal.returns-then-low-ne0
unfolding marks
returns-then-low-ne0 c =
    let args = c.args in
    let some-low : 1 ≤ marks args.self.low (args.w - 1) = omega arith in
    rw (sub-one args.w) (first-low args.self (pred args.w) (omega arith) (rw (sub-one args.w) at some-low))

pub returns-then-high-ne0 : goal.returns-then-high-ne0
unfolding marks
returns-then-high-ne0 c =
    let args = c.args in
    let no-low : marks args.self.low (args.w - 1) ≡ 0 = omega arith in
    let some-high : 1 ≤ marks args.self.high (args.w - 1) = omega arith in
    rw (sub-one args.w)
    (first-high args.self (pred args.w) (omega arith) (rw (sub-one args.w) at no-low) (rw (sub-one args.w) at some-high))

pub returns-else-high-ne0 : goal.returns-else-high-ne0
unfolding marks
returns-else-high-ne0 c =
    let args = c.args in
    let no-low : marks args.self.low (args.w - 1) ≡ 0 = omega arith in
    let no-high : marks args.self.high (args.w - 1) ≡ 0 = omega arith in
    first-none args.self (pred args.w) (omega arith) (rw (sub-one args.w) at no-low) (rw (sub-one args.w) at no-high)
