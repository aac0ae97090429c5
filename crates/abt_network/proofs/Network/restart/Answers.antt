-- A restart leaves what the start gives, or the network as before.
-- By the contract of the start.
use Rattle.std.proofs.Common.{refl}
use Rattle.abt_network.proofs.Network.restart.Goals as goal

pub returns-in-Ok : goal.returns-in-Ok
returns-in-Ok c =
    record { number = c.in-Ok.ensures.starts.number; started = c.in-Ok.ensures.starts.network; reached = c.in-Ok.ensures.reached; same = tt; never_broken = tt }

pub returns-in-Err : goal.returns-in-Err
returns-in-Err c = record { number = c.in-Err.ensures.starts.number; started = tt; reached = tt; same = refl; never_broken = c.in-Err.ensures.never_broken }
