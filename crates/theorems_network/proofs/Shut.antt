-- A rejected delivery changes nothing, and after a verdict every one is rejected.
use Rattle.std.proofs.Common.{◌≡◌, sym, ◌∙◌, true, false}
use mathlib.Core.Bool.{false≢true}
use Rattle.model_network.specs.Network.{Network}
use Rattle.model_network.specs.Delivery.{is_accepted, rejecting, deliver}
use Rattle.model_network.specs.Run.{Line}
use Rattle.theorems_shape.proofs.Outcome.{Outcome, refused, accepted, outcome}
use Rattle.theorems_network.specs.Calls.{attempt_of}

pub rejected-stays : (d : Line) (w : Network) → is_accepted (attempt_of d w).answer ≡ false → (attempt_of d w).network ≡ w
unfolding attempt_of rejecting is_accepted
rejected-stays d w a = go (outcome w d.from d.to)
  where
    go : Outcome w d.from d.to (deliver w d.from d.to) → (deliver w d.from d.to).network ≡ w
    go (refused r _ e) = rw e
    go (accepted m others T e) = absurd (false≢true (sym (rw e at a)))

pub refuses : (d : Line) (w : Network) → w.unsolvable ≡ true → is_accepted (attempt_of d w).answer ≡ false
unfolding attempt_of rejecting is_accepted
refuses d w v = go (outcome w d.from d.to)
  where
    go : Outcome w d.from d.to (deliver w d.from d.to) → is_accepted (deliver w d.from d.to).answer ≡ false
    go (refused r _ e) = rw e
    go (accepted m others T e) = absurd (false≢true (sym T.running ∙ v))

pub shut : (d : Line) (w : Network) → w.unsolvable ≡ true → (attempt_of d w).network ≡ w
shut d w v = rejected-stays d w (refuses d w v)
