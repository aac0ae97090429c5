use Rattle.season_cli.proofs.Words.{serves_stream}
use Rattle.season_cli.proofs.follow.Goals as goal

pub returns : goal.returns
returns g c = serves_stream _ _ c.read_stream-s.ensures c.put_season.ensures
