-- The words left come to what all the words come to.
use Rattle.std.proofs.Common.{◌≡◌, length, map, vec_items}
use Rattle.abt_board_text.specs.Options.{line_from}
use Rattle.abt_board_text.proofs.options.read_options.Given as goal

abbrev pub invariant-loop-word : goal.invariant-loop-word
invariant-loop-word l = line_from l.o (map vec_items l.rest) ≡ line_from l.initial.o (map vec_items l.initial.rest)

abbrev pub decreases-loop-word : goal.decreases-loop-word
decreases-loop-word l = length l.rest
