-- What a tried delivery does: it is rejected, for its reason, and the network stays; or the message at the head of the channel is handed to its
-- receiver. The tests of a delivery are read here once.
use Rattle.std.proofs.Common.{◌≡◌, refl, ◌≢◌, List, [], ◌∷◌, Bool, true, false, not, ◌&&◌, ℕ, ◌≤◌, eqb}
use borrow.Author.Tests.{eqb-false}
use Rattle.model_base.specs.Finite.{within}
use Rattle.model_base.proofs.Tests.{test, both, not-true, within-true}
use Rattle.model_agent.specs.Message.{Message}
use Rattle.model_network.specs.Network.{Network, step_on, handed}
use Rattle.model_network.specs.Shape.{in_shape}
use Rattle.model_network.specs.Delivery.{
  Rejection,
  BadShape,
  BadNumbers,
  VerdictStands,
  EmptyChannel,
  NoRoom,
  Accepted,
  Delivery,
  rejecting,
  numbers_good,
  fits,
  deliver_head,
  deliver,
}

-- the reason for a rejection, as far as it is used
abbrev pub Reason : Network → ℕ → ℕ → Rejection → Type 0
Reason w i j BadShape = in_shape w ≡ false
Reason w i j BadNumbers = numbers_good w i j ≡ false
Reason w i j VerdictStands = w.unsolvable ≡ true
Reason w i j EmptyChannel = w.channel i j ≡ []
Reason w i j NoRoom = Unit {0}

-- the tests passed, and the message m taken off the channel
pub record Taken (w : Network) (i j : ℕ) (m : Message) (others : List Message) : Type 0 where
  pub shape : in_shape w ≡ true
  pub numbers : numbers_good w i j ≡ true
  pub running : w.unsolvable ≡ false
  pub head : w.channel i j ≡ m ∷ others
  pub room : fits (handed w i j m others) ≡ true

pub data Outcome (w : Network) (i j : ℕ) (t : Delivery) : Type 0 where
  refused : (r : Rejection) → Reason w i j r → t ≡ rejecting r w → Outcome w i j t
  accepted : (m : Message) (others : List Message) → Taken w i j m others
      → t ≡ record { network = handed w i j m others; answer = Accepted; sent = (step_on w i j m).sent } → Outcome w i j t

pub outcome : (w : Network) (i j : ℕ) → Outcome w i j (deliver w i j)
unfolding deliver deliver_head
outcome w i j =
    test (in_shape w)
    (λ s. test (numbers_good w i j)
    (λ g. rw (s, deliver, g) (running s g w.unsolvable refl))
    (λ g. refused BadNumbers g (rw (s, deliver, g))))
    (λ s. refused BadShape s (rw (s, deliver)))
  where
    head : in_shape w ≡ true → numbers_good w i j ≡ true → w.unsolvable ≡ false → (l : List Message) → w.channel i j ≡ l
        → Outcome w i j (deliver_head w i j l)
    head s g v [] e = refused EmptyChannel e refl
    head s g v (m ∷ others) e =
        test (fits (handed w i j m others))
        (λ f. accepted m others (record { shape = s; numbers = g; running = v; head = e; room = f }) (rw (f, deliver_head)))
        (λ f. refused NoRoom tt (rw (f, deliver_head)))

    running : in_shape w ≡ true → numbers_good w i j ≡ true → (b : Bool) → w.unsolvable ≡ b
        → Outcome w i j (elim b [ true ↦ rejecting VerdictStands w | false ↦ deliver_head w i j (w.channel i j) ])
    running s g true v = refused VerdictStands v refl
    running s g false v = head s g v (w.channel i j) refl

-- the numbers of an accepted delivery
pub numbers : (w : Network) (i j : ℕ) → numbers_good w i j ≡ true
    → (1 ≤ i) × (i ≤ w.problem.count) × (1 ≤ j) × (j ≤ w.problem.count) × (i ≢ j)
unfolding numbers_good
numbers w i j e =
    let a = both (within w.problem.count i && within w.problem.count j) (not (eqb i j)) e in
    let b = both (within w.problem.count i) (within w.problem.count j) a.0 in
    let ri = within-true w.problem.count i b.0 in
    let rj = within-true w.problem.count j b.1 in
    (ri.0, ri.1, rj.0, rj.1, eqb-false i j (not-true (eqb i j) a.1))
