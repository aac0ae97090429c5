-- A run keeps the shape and has a word; and the claims.
-- By the contract of the run by value.
use Rattle.std.proofs.Common.{sym, ◌∙◌}
use Rattle.theorems_network.proofs.Theorems.{run-keeps}
use Rattle.abt_record.specs.Abstract.{network_of}
use Rattle.abt_network.proofs.Following.{ran}
use Rattle.abt_network.proofs.Answering.{run-ends}
use Rattle.abt_network.proofs.Network.run.Goals as goal

pub invariant_of-self : goal.invariant_of-self
invariant_of-self c =
    let R = c.run-ran.ensures.runs_as in record { shaped = rw R.network (run-keeps _ _ c.args.self.now.shaped) }

pub returns : goal.returns
returns c =
    let a = c.args in
    let w = network_of a.self.now.state in
    let E = c.run-ran.ensures in
    let R = E.runs_as in
    record {
      network = R.network;
      made = R.rounds;
      ending = R.ending;
      never_broken = λ q. run-ends a.rounds w a.self.now.shaped (sym R.ending ∙ q);
      reached = ran a.rounds w _ R.network;
      tells = λ rule sheet p calls L. E.promised rule L.rule_good sheet p L.said calls L.left;
    }
