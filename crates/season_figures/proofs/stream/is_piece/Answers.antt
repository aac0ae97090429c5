-- A length is said, and there are as many bytes. Assumes nothing.
use Rattle.std.proofs.Common.{rules}
use Rattle.season_figures.proofs.Pieces.{piece_by}
use Rattle.season_figures.proofs.stream.is_piece.Goals as goal

pub returns : goal.returns
returns c = piece_by _ _ _ _ c.length_in.ensures (search rules)
