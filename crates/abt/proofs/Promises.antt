-- What the claims about lists of calls tell of a run and of a delivery, they tell of the answers in code, which are the definitions'.
-- Of a delivery the word is that of the network that it leaves.
use Rattle.std.proofs.Common.{◌≡◌, refl, Bool, true, false, List, ℕ, arith, eqb}
use mathlib.Core.Bool.{false≢true}
use Rattle.model_base.proofs.Tests.{test}
use Rattle.model_network.specs.Network.{start}
use Rattle.model_network.specs.Delivery.{BadShape, rejection_number, answer_number, deliver}
use Rattle.model_network.specs.Run.{idle, Ending, Unsolvable, Plan, Open, Broken, run}
use Rattle.theorems_network.specs.Calls.{Call, left_by_all, made_by_all}
use Rattle.theorems_network.specs.Claims.{slots_of, Tells, StandsFor, EverySheet}
use Rattle.theorems_network.proofs.Theorems.{sheet-run-bound, sheet-run-tells, sheet-delivery-tells}
use Rattle.abt_record.specs.declared.Network.{Network}
use Rattle.abt_record.specs.Abstract.{network_of}
use Rattle.abt_engine.specs.declared.Answer.{Answer}
use Rattle.abt_engine.specs.Working.{ends_by, stopped_with, delivered_as}
use Rattle.abt.specs.Answers.{DeliversAs, standing, RunsAs}
use Rattle.abt.specs.Promised.{Promised, Stands}

-- ---- a run

pub run_promised : (r : Network) (k : ℕ) (a : Answer) → RunsAs r (run k (network_of r)) a → Promised r a
run_promised r k a R rule g sheet p e calls led =
    rw (R.ending, R.rounds, R.network, led) (sheet-run-tells rule g sheet p e calls k)

-- ---- a delivery

pub delivery_stands : (r : Network) (i j number : ℕ) (left : Network) → DeliversAs r (deliver (network_of r) i j) number left → Stands r left
delivery_stands r i j number left D rule g sheet p e calls led = rw (D.network, led) (sheet-delivery-tells rule g sheet p e calls i j)

-- the word for how a network stands
record Word (word : Ending) (unsolvable idle : Bool) : Type 0 where
  plan : word ≡ Plan → (unsolvable ≡ false) × (idle ≡ true)
  none : word ≡ Unsolvable → unsolvable ≡ true

no_word : (e : Ending) (unsolvable idle : Bool) → (e ≡ Plan → ⊥) → (e ≡ Unsolvable → ⊥) → Word e unsolvable idle
no_word e v i p n = record { plan = λ q. absurd (p q); none = λ q. absurd (n q) }

word : (unsolvable idle : Bool) (number : ℕ) → Word (ends_by true unsolvable idle number) unsolvable idle
unfolding ends_by
word v i k =
    test (eqb k (rejection_number BadShape))
    (λ b. rw (b, ends_by) (no_word Broken v i (λ q. false≢true cc) (λ q. false≢true cc)))
    (λ b. rw (b, ends_by) (stands v i))
  where
    stands : (v i : Bool) → Word (elim v [ true ↦ Unsolvable | false ↦ elim i [ true ↦ Plan | false ↦ Open ] ]) v i
    stands true i = record { plan = λ q. absurd (false≢true cc); none = λ _. refl }
    stands false true = record { plan = λ _. (refl, refl); none = λ q. absurd (false≢true cc) }
    stands false false = no_word Open false false (λ q. false≢true cc) (λ q. false≢true cc)

-- the answer by its parts: what was refused tells nothing
pub delivery_promised : (r left : Network) (i j number rounds : ℕ) (e : Ending) → DeliversAs r (deliver (network_of r) i j) number left
    → (rounds ≡ 0) × (e ≡ standing (deliver (network_of r) i j))
    → EverySheet (λ rule p. (calls : List Call) → network_of r ≡ left_by_all calls (start rule p)
    → Tells p (made_by_all calls (start rule p)) e rounds (slots_of (network_of left)))
unfolding standing delivered_as stopped_with
delivery_promised r left i j number rounds e D h rule g sheet p v calls led =
    let d = deliver (network_of r) i j in
    let W : Word (standing d) d.network.unsolvable (idle d.network) = word d.network.unsolvable (idle d.network) (answer_number d.answer) in
    let S : StandsFor p d.network = rw led (sheet-delivery-tells rule g sheet p v calls i j) in
    rw (h.1, h.0, D.network)
    (record {
      plan = λ q. let s = W.plan q in S.rest s.0 s.1;
      none = λ q. S.unsolvable (W.none q);
      few = let b = sheet-run-bound rule g sheet p v calls in omega (arith, b);
    })
