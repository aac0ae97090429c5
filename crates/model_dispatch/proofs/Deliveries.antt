-- What the dispatcher needs of a delivery: it leaves the problem, and what waits on other lines in front of what it sends; and a line that can be
-- delivered is a line, of a network in shape without a verdict. From the tests of a delivery, one by one.
use Rattle.std.proofs.Common.{◌≡◌, refl, sym, ap, ◌∙◌, Bool, true, false, List, [], ◌∷◌, ◌++◌, append-nil, ℕ, eqb}
use mathlib.Core.Bool.{false≢true}
use Rattle.model_base.specs.Finite.{at}
use Rattle.model_base.proofs.Tests.{test, eq_test}
use Rattle.model_base.proofs.Search.{at_same, at_other}
use Rattle.model_agent.specs.Message.{Message, sent_to}
use Rattle.model_network.specs.Network.{Network, posted, with_step, with_channel, step_on, handed}
use Rattle.model_network.specs.Shape.{in_shape}
use Rattle.model_network.specs.Delivery.{VerdictStands, Delivery, rejecting, is_accepted, numbers_good, fits, deliver_head, deliver}
use Rattle.model_network.specs.Run.{Line}
use Rattle.model_dispatch.specs.Dispatch.{deliverable}

-- ---- what it leaves

pub data Left (w : Network) (i j : ℕ) (v : Network) : Type 0 where
  same : v ≡ w → Left w i j v
  taken : (m : Message) (others : List Message) → v ≡ handed w i j m others → Left w i j v

head-left : (w : Network) (i j : ℕ) (ms : List Message) → Left w i j (deliver_head w i j ms).network
unfolding deliver_head rejecting
head-left w i j [] = same refl
head-left w i j (m ∷ others) =
    test (fits (handed w i j m others)) (λ f. taken m others (rw (f, deliver_head))) (λ f. same (rw (f, deliver_head)))

pub left : (w : Network) (i j : ℕ) → Left w i j (deliver w i j).network
unfolding deliver rejecting
left w i j =
    test (in_shape w)
    (λ s. test (numbers_good w i j)
    (λ g. rw (s, deliver, g) (running w.unsolvable))
    (λ g. same (rw (s, deliver, g))))
    (λ s. same (rw (s, deliver)))
  where
    running : (b : Bool)
        → Left w i j (elim b as (λ c. Delivery) [ true ↦ rejecting VerdictStands w | false ↦ deliver_head w i j (w.channel i j) ]).network
    running true = same refl
    running false = head-left w i j (w.channel i j)

pub problem-stays : (w : Network) (i j : ℕ) → (deliver w i j).network.problem ≡ w.problem
unfolding handed with_step with_channel
problem-stays w i j = go (left w i j)
  where
    go : Left w i j (deliver w i j).network → (deliver w i j).network.problem ≡ w.problem
    go (same e) = ap (λ (v : Network). v.problem) e
    go (taken m others e) = ap (λ (v : Network). v.problem) e

-- what waits on another line stays, in front of what is sent there
pub others-stay : (w : Network) (i j x y : ℕ) → (x ≡ i → y ≡ j → ⊥)
    → (sent : List Message) × ((deliver w i j).network.channel x y ≡ w.channel x y ++ sent)
unfolding handed with_step with_channel posted
others-stay w i j x y n = go (left w i j)
  where
    apart : (others : List Message) → at w.channel i (at (w.channel i) j others) x y ≡ w.channel x y
    apart others =
        eq_test x i
        (λ e. rw (e, at_same w.channel i (at (w.channel i) j others)) (at_other (w.channel i) j others y (n e)))
        (λ d. ap (λ (f : ℕ → List Message). f y) (at_other w.channel i (at (w.channel i) j others) x d))

    go : Left w i j (deliver w i j).network → (sent : List Message) × ((deliver w i j).network.channel x y ≡ w.channel x y ++ sent)
    go (same e) = ([], ap (λ (v : Network). v.channel x y) e ∙ sym (append-nil (w.channel x y)))
    go (taken m others e) =
        test (eqb x j)
        (λ t. (sent_to y (step_on w i j m).sent, ap (λ (v : Network). v.channel x y) e ∙ rw (t, posted, apart others)))
        (λ t. ([], ap (λ (v : Network). v.channel x y) e ∙ rw (t, posted, apart others, append-nil (w.channel x y))))

-- ---- what it needs

pub record Passed (w : Network) (l : Line) : Type 0 where
  pub shape : in_shape w ≡ true
  pub numbers : numbers_good w l.from l.to ≡ true
  pub running : w.unsolvable ≡ false

pub passed : (w : Network) (l : Line) → deliverable w l ≡ true → Passed w l
unfolding deliverable deliver rejecting is_accepted
passed w l h =
    test (in_shape w)
    (λ s. test (numbers_good w l.from l.to)
    (λ g. test w.unsolvable
    (λ v. absurd (false≢true (rw (s, deliver, g, v) at h)))
    (λ v. record { shape = s; numbers = g; running = v }))
    (λ g. absurd (false≢true (rw (s, deliver, g) at h))))
    (λ s. absurd (false≢true (rw (s, deliver) at h)))
