-- The calls read, with what the words left say, are what all the words say.
use Rattle.std.proofs.Common.{◌≡◌, length, map, vec_items}
use Rattle.abt_cli_image.specs.Calls.{ahead, calls_from}
use Rattle.abt_cli_image.proofs.read_calls.Given as goal

abbrev pub invariant-loop-word : goal.invariant-loop-word
invariant-loop-word l = ahead l.calls.items (calls_from (map vec_items l.rest)) ≡ calls_from (map vec_items l.initial.rest)

abbrev pub decreases-loop-word : goal.decreases-loop-word
decreases-loop-word l = length l.rest
