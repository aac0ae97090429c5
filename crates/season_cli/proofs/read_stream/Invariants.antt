-- Piece by piece, what is read so far is a stream of its own, and what is left may follow. Assumes nothing.
use Rattle.std.proofs.Common.{◌-◌}
use Rattle.support_cli.specs.Streams.{input_of, output_of}
use Rattle.season_cli.proofs.Reading.{Now}
use Rattle.season_cli.proofs.read_stream.Given as goal

abbrev pub invariant-loop : goal.invariant-loop
invariant-loop g l =
    Now l.tells (input_of g.R.Read.remaining l.fn.input) (input_of g.R.Read.remaining l.input) (output_of g.E.Write.contents l.fn.errors) (output_of g.E.Write.contents l.errors) l.s
    (1000000 - l.counter)
