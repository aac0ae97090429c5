-- What is read is in shape.
-- By the contract of the reader by value.
use Rattle.abt_network.proofs.Shaping.{loaded-shaped}
use Rattle.abt_network.proofs.Answering.{loaded-unbroken, refused-reads, read-reads}
use Rattle.abt_network.proofs.Network.load.Goals as goal

pub invariant_of-result : goal.invariant_of-result
invariant_of-result c = record { shaped = loaded-shaped _ _ c.in-Ok.ensures }

pub returns-in-Ok : goal.returns-in-Ok
returns-in-Ok c = record { loads = c.in-Ok.ensures; never_broken = tt; reads = λ w e. read-reads _ w _ c.in-Ok.ensures e }

pub returns-in-Err : goal.returns-in-Err
returns-in-Err c = record { loads = c.in-Err.ensures; never_broken = loaded-unbroken _ _ c.in-Err.ensures; reads = λ w e. refused-reads _ w _ c.in-Err.ensures e }
