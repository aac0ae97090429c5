-- A delivery's tests, 5 to 10, one by one.
use Rattle.std.proofs.Common.{ℕ, Bool, true, false, ◌≡◌, ap, ◌∙◌, List, ◌∷◌}
use Rattle.model_agent.specs.Message.{Message as Message'}
use Rattle.model_network.specs.Network.{Network as Network', step_on, handed}
use Rattle.model_network.specs.Shape.{in_shape}
use Rattle.model_network.specs.Delivery.{
  BadShape,
  BadNumbers,
  VerdictStands,
  NoRoom,
  Accepted,
  Delivery,
  rejecting,
  numbers_good,
  fits,
  deliver_head,
  deliver,
}

pub bad-shape : (w : Network') (i j : ℕ) → in_shape w ≡ false → deliver w i j ≡ rejecting BadShape w
unfolding deliver
bad-shape w i j s = rw (s, deliver)

pub bad-numbers : (w : Network') (i j : ℕ) → in_shape w ≡ true → numbers_good w i j ≡ false → deliver w i j ≡ rejecting BadNumbers w
unfolding deliver
bad-numbers w i j s n = rw (s, deliver, n)

module _ (w : Network') (i j : ℕ) (s : in_shape w ≡ true) (n : numbers_good w i j ≡ true) where
  unfoldable verdict-test : Bool → Delivery
  verdict-test b = elim b [ true ↦ rejecting VerdictStands w | false ↦ deliver_head w i j (w.channel i j) ]

  by-verdict : {b : Bool} → w.unsolvable ≡ b → deliver w i j ≡ verdict-test b
  unfolding deliver verdict-test
  by-verdict v = rw (s, deliver, n) (ap verdict-test v)

  pub stands : w.unsolvable ≡ true → deliver w i j ≡ rejecting VerdictStands w
  unfolding verdict-test
  stands v = by-verdict v

  pub tries : w.unsolvable ≡ false → (l : List Message') → w.channel i j ≡ l → deliver w i j ≡ deliver_head w i j l
  unfolding verdict-test
  tries v l e = by-verdict v ∙ ap (deliver_head w i j) e

module _ (w : Network') (i j : ℕ) (m : Message') (others : List Message') where
  pub jams : fits (handed w i j m others) ≡ false → deliver_head w i j (m ∷ others) ≡ rejecting NoRoom w
  unfolding deliver_head
  jams f = rw (f, deliver_head)

  pub goes : fits (handed w i j m others) ≡ true
      → deliver_head w i j (m ∷ others) ≡ record { network = handed w i j m others; answer = Accepted; sent = (step_on w i j m).sent }
  unfolding deliver_head
  goes f = rw (f, deliver_head)
