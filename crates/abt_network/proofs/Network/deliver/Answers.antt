-- A delivery keeps the shape; a rejected one changes nothing; and the claims.
-- By the contract of the delivery by value.
use Rattle.std.proofs.Common.{◌≡◌, sym, ap, ◌∙◌}
use Rattle.model_network.specs.Delivery.{answer_number, deliver}
use Rattle.theorems_network.proofs.Theorems.{deliver-keeps}
use Rattle.abt_record.specs.Abstract.{network_of}
use Rattle.abt_network.specs.Numbers.{answered_number}
use Rattle.abt_network.proofs.Following.{delivered}
use Rattle.abt_network.proofs.Answering.{never-broken, on-refusal, deliver-number}
use Rattle.abt_network.proofs.Network.deliver.Goals as goal

pub invariant_of-self : goal.invariant_of-self
invariant_of-self c =
    let a = c.args in
    let D = c.deliver-delivered.ensures.delivers_as in
    record { shaped = rw D.network (deliver-keeps (network_of a.self.now.state) a.from a.to a.self.now.shaped) }

pub returns : goal.returns
returns c =
    let a = c.args in
    let w = network_of a.self.now.state in
    let E = c.deliver-delivered.ensures in
    let D = E.delivers_as in
    let e : answered_number c.done_unless.result ≡ answer_number (deliver w a.from a.to).answer = c.done_unless.ensures ∙ D.number in
    record {
      network = D.network;
      number = e;
      same = on-refusal c.done_unless.result (λ n. ap network_of (D.untouched (λ z. n (c.done_unless.ensures ∙ z))));
      never_broken = never-broken c.done_unless.result (λ z. deliver-number w a.from a.to a.self.now.shaped (sym e ∙ z));
      reached = delivered a.from a.to w _ D.network;
      stands = λ rule sheet p calls R. E.stands rule R.rule_good sheet p R.said calls R.left;
    }
