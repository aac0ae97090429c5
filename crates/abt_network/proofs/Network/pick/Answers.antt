-- A pick keeps the shape; a rejected one changes nothing; and the claims.
-- By the contract of the pick by value.
use Rattle.std.proofs.Common.{◌≡◌, sym, ap, ◌∙◌}
use Rattle.model_dispatch.specs.Dispatch.{Dispatcher as Dispatcher', pick}
use Rattle.abt_record.specs.Abstract.{network_of}
use Rattle.abt_dispatch.specs.declared.Dispatcher.{Dispatcher}
use Rattle.abt_dispatch.specs.Abstract.{line_of, dispatcher_of as state_of}
use Rattle.abt_network.specs.Picks.{dispatcher_of}
use Rattle.abt_network.proofs.Answering.{never-broken, on-refusal}
use Rattle.abt_network.proofs.Picking.{place_of, answered-is, pick-keeps, pick-stands, pick-goes-on, pick-number}
use Rattle.abt_network.proofs.Network.pick.Goals as goal

pub invariant_of-self : goal.invariant_of-self
unfolding state_of
invariant_of-self c =
    let a = c.args in
    let P = c.pick-picked.ensures in
    let d = dispatcher_of (network_of a.self.now.state) a.dispatch.now in
    record { shaped = rw (ap (λ (x : Dispatcher'). x.network) P.state) (pick-keeps d (line_of a.wish) a.self.now.shaped) }

pub returns : goal.returns
unfolding state_of
returns c =
    let a = c.args in
    let P = c.pick-picked.ensures in
    let d = dispatcher_of (network_of a.self.now.state) a.dispatch.now in
    let left : network_of c.pick-picked.result.state.network ≡ (pick d (line_of a.wish)).state.network = ap (λ (x : Dispatcher'). x.network) P.state in
    let r = c.pick-picked.result.answer in
    let e = answered-is r ∙ P.number in
    record {
      state = P.state;
      number = e;
      served = P.served;
      same = on-refusal r (λ n.
          let u = P.untouched (λ z. n (answered-is r ∙ z)) in (ap (λ (x : Dispatcher). network_of x.network) u, ap place_of u));
      never_broken = never-broken r (λ z. pick-number d (line_of a.wish) a.self.now.shaped (sym e ∙ z));
      reached = pick-goes-on d (line_of a.wish) _ left r P.served;
      stands = pick-stands d (line_of a.wish) _ left;
    }
