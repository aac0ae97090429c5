-- Asking a value of a network in shape is not refused with 5.
use Rattle.abt_record.specs.Abstract.{network_of}
use Rattle.abt_network.proofs.Answering.{asked-unbroken}
use Rattle.abt_network.proofs.Network.value.Goals as goal

pub returns : goal.returns
returns c =
    let a = c.args in
    record {
      answers = c.value.ensures;
      never_broken = asked-unbroken (network_of a.self.now.state) a.agent c.value.result a.self.now.shaped c.value.ensures.0;
    }
