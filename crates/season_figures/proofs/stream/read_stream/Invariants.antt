-- Piece by piece, what is read so far and what is left are the season of the stream. Assumes nothing.
use Rattle.std.proofs.Common.{◌-◌}
use Rattle.season_figures.proofs.Reading.{Here}
use Rattle.season_figures.proofs.stream.read_stream.Given as goal

abbrev pub invariant-loop : goal.invariant-loop
invariant-loop l = Here l.stream l.rest l.season (1000000 - l.counter)
