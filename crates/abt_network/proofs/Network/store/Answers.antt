-- What is written of a network in shape reads back.
-- By the contract of the writer by value.
use Rattle.abt_record.specs.Abstract.{network_of}
use Rattle.abt_network.proofs.Answering.{stored-unbroken, stored-reads}
use Rattle.abt_network.proofs.Network.store.Goals as goal

pub returns : goal.returns
returns c =
    let a = c.args in
    let E = c.store_as.ensures in
    record {
      out_after = E.out_after;
      length_in_bounds = E.length_in_bounds;
      plain = E.plain;
      read_back = stored-reads _ (network_of a.self.now.state) _ _ a.self.now.shaped E.plain c.store_as.result E.out_after;
      never_broken = stored-unbroken _ (network_of a.self.now.state) _ _ a.self.now.shaped c.store_as.result E.out_after;
    }
