-- The start's contract, and behind it the run's, with what it promises.
use Rattle.abt_dock_text.proofs.Settled.{settles_refused, settles_run}
use Rattle.abt_dock_text.proofs.Promises.{sheet_tells}
use Rattle.abt_dock_text.proofs.settle.Goals as goal

pub returns-in-Err : goal.returns-in-Err
returns-in-Err c = record { settles = settles_refused _ _ _ c.in-Err.ensures; promised = tt }

pub returns-in-Ok : goal.returns-in-Ok
returns-in-Ok c =
    record {
      settles = settles_run _ _ _ _ c.in-Ok.ensures c.run.ensures.runs_as;
      promised = sheet_tells _ _ c.run.result c.in-Ok.ensures c.run.ensures.promised;
    }
