-- `read_lines` says of each line how many messages it has, and where they stand.
-- The invariant: so many lines are looked at, and the next one's messages stand from `start` on.
use lib.ListN.{length-replicate}
use Rattle.abt_image_reader.specs.Layout.{empty_line}
use Rattle.abt_image_reader.proofs.Laying.{none-laid, one-laid}
use Rattle.abt_image_reader.proofs.lines.read_lines.Goals as goal

pub loop-k-init : goal.loop-k-init
loop-k-init c = none-laid c.args.s.now c.args.n _ c.requires (length-replicate 132 empty_line)

pub loop-k-preserved : goal.loop-k-preserved
loop-k-preserved c =
    one-laid c.args.s.now c.args.n c.loop-k.lines c.loop-k.start c.loop-k.k _ _ c.loop-k.invariant c.loop-k-test.true
    c.two_bytes.ensures (rw c.tail.ensures at c.line_length-count.ensures.0) c.line_length-count.ensures.1
