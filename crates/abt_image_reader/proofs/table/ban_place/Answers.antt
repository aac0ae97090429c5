-- `ban_place` is where the word of two agents stands.
use Rattle.abt_image_reader.proofs.Tables.{place_is}
use Rattle.abt_image_reader.proofs.table.ban_place.Goals as goal

pub returns : goal.returns
returns c = place_is c.args.i c.args.j c.requires.0 c.requires.1 c.requires.2
