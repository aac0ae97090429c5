-- The run is the work in rounds; and the claims.
use Rattle.abt.proofs.Delivering.{ran}
use Rattle.abt.proofs.Promises.{run_promised}
use Rattle.abt.proofs.run.Goals as goal

pub returns : goal.returns
returns c =
    let R = ran _ _ _ _ c.min.ensures c.work.ensures.works_as c.work.ensures.network_value in
    record { runs_as = R; promised = run_promised _ _ _ R }
