-- `line_length` is how many messages a line has.
-- The invariant: so many are counted, and those of the rest are left.
use Rattle.std.proofs.Common.{◌≡◌, sym, ap, ◌∙◌, zero-add, arith, length}
use Rattle.abt_image_reader.proofs.Chains.{counted-last, one-counted, all-counted, no_line, some-line}
use Rattle.abt_image_reader.proofs.lines.line_length.Goals as goal

pub returns-then-head-eq0 : goal.returns-then-head-eq0
returns-then-head-eq0 c = (sym (ap length (no_line c.args.head _ c.if-head-eq0.true)), omega arith)

pub returns-then-two_bytes-eq0 : goal.returns-then-two_bytes-eq0
returns-then-two_bytes-eq0 c = (
  sym (ap length (some-line c.args.head _ c.if-head-eq0.false)
      ∙ counted-last c.args.s.now 0 c.loop-before.before _ c.loop-before-test.true (rw zero-add c.two_bytes.ensures) c.loop-before.invariant c.if-two_bytes-eq0.true),
  omega arith,
)

pub loop-before-preserved : goal.loop-before-preserved
loop-before-preserved c = one-counted c.args.s.now 0 c.loop-before.before _ c.loop-before-test.true (rw zero-add c.two_bytes.ensures) c.loop-before.invariant c.if-two_bytes-eq0.false

pub returns : goal.returns
returns c =
    let all : 8 ≡ c.loop-before.before = omega arith in
    (all ∙ all-counted c.args.s.now 0 c.loop-before.before (omega arith) c.loop-before.invariant ∙ sym (ap length (some-line c.args.head _ c.if-head-eq0.false)), omega arith)
