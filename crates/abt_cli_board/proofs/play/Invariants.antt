-- What is said of the calls made, with what is to be said of those left, is what is said of all.
use Rattle.std.proofs.Common.{length, map, vec_items}
use Rattle.abt_dispatch.specs.Abstract.{dispatcher_of}
use Rattle.support_cli.specs.Streams.{output_of}
use Rattle.support_cli.specs.Answers.{status_code}
use Rattle.abt_cli_board.proofs.Playing.{Playing}
use Rattle.abt_cli_board.proofs.play.Given as goal

abbrev pub invariant-loop-word : goal.invariant-loop-word
invariant-loop-word g l =
    Playing (map vec_items l.initial.rest) (dispatcher_of l.initial.left) (output_of g.W.Write.contents l.initial.output)
    (map vec_items l.rest) (dispatcher_of l.left) (status_code l.status) (output_of g.W.Write.contents l.output)

abbrev pub decreases-loop-word : goal.decreases-loop-word
decreases-loop-word g l = length l.rest
