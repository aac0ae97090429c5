-- `candidate` is the network that the bytes would be the image of, part by part.
use Rattle.std.proofs.Common.{refl}
use Rattle.abt_image_reader.proofs.Candidates.{candidate-is}
use Rattle.abt_image_reader.proofs.candidate.Goals as goal

pub returns : goal.returns
returns c =
    candidate-is _ c.args.s.now _ c.read_lines-lines.result c.read_lines-lines.ensures refl c.rows.ensures c.places.ensures
    refl refl c.domains.ensures c.bans.ensures refl refl c.agents.ensures
