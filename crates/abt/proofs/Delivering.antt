-- The entries over the engine: what the work comes to for one delivery and for a run.
use Rattle.std.proofs.Common.{ℕ, arith, leb, leb-true, leb-false, true, false, Option, Some, None, is_some, min, ◌≡◌, refl, sym, ◌∙◌, ◌≢◌, List, [], ◌∷◌}
use Rattle.std.proofs.Math.Nat.{min-eq_left, min-eq_right}
use Rattle.support_rejection.specs.declared.Rejection.{Rejection}
use mathlib.Core.Bool.{false≢true}
use Rattle.model_base.proofs.Tests.{test}
use Rattle.model_agent.specs.Message.{Message}
use Rattle.model_network.specs.Network.{Network as Network', handed}
use Rattle.model_network.specs.Shape.{in_shape}
use Rattle.model_network.specs.Delivery.{BadShape, rejection_number, answer_number, Delivery, rejecting, numbers_good, fits, deliver_head, deliver}
use Rattle.model_network.specs.Run.{
  Ending as Ending',
  Unsolvable as Unsolvable',
  Plan as Plan',
  Jammed as Jammed',
  Open as Open',
  Broken as Broken',
  ending_number,
  Ran as Ran',
  run_from,
  max_rounds,
  allowed,
  run,
}
use Rattle.abt_record.specs.declared.Network.{Network}
use Rattle.abt_record.specs.Abstract.{network_of}
use Rattle.abt_record_laws.proofs.Rejecting.{bad-shape, bad-numbers, stands, tries, jams, goes}
use Rattle.abt_engine.specs.declared.Answer.{Answer as Answered}
use Rattle.abt_engine.specs.Refused.{rejected_number}
use Rattle.support_rejection.proofs.Numbers.{refusal-some}
use Rattle.abt_engine.specs.Working.{ends_by, stopped_with, delivered_as, ran_as}
use Rattle.abt_engine.specs.Tasks.{work_by}
use Rattle.abt_engine.specs.declared.Task.TheVariants.{Deliver, Run}
use Rattle.abt_engine.specs.Answers.{ending_of, WorksAs}
use Rattle.abt.specs.Answers.{DeliversAs, standing, RunsAs}

-- ---- a rejected delivery changes nothing

-- rejected, or accepted
abbrev Kept : Network' → Delivery → Type 0
Kept w d = answer_number d.answer ≢ 0 → d.network ≡ w

head-kept : (w : Network') (i j : ℕ) (l : List Message) → Kept w (deliver_head w i j l)
unfolding deliver_head rejecting answer_number
head-kept w i j [] = λ n. refl
head-kept w i j (m ∷ others) =
    test (fits (handed w i j m others))
    (λ f. rw (goes w i j m others f) (λ n. absurd (n refl)))
    (λ f. rw (jams w i j m others f) (λ n. refl))

rejected-kept : (w : Network') (i j : ℕ) → Kept w (deliver w i j)
unfolding rejecting answer_number
rejected-kept w i j =
    test (in_shape w)
    (λ s. test (numbers_good w i j)
    (λ n. test w.unsolvable
    (λ v. rw (stands w i j s n v) (λ z. refl))
    (λ v. rw (tries w i j s n v (w.channel i j) refl) (head-kept w i j (w.channel i j))))
    (λ n. rw (bad-numbers w i j s n) (λ z. refl)))
    (λ s. rw (bad-shape w i j s) (λ z. refl))

-- ---- one delivery

module _ (r : Network) (i j : ℕ) (a : Answered) (w : WorksAs (work_by (Deliver i j) (network_of r)) a) where
  number : rejected_number a.rejection ≡ answer_number (deliver (network_of r) i j).answer
  unfolding work_by delivered_as stopped_with
  number = w.number

  pub delivered : rejected_number a.rejection ≡ 0 → DeliversAs r (deliver (network_of r) i j) (rejected_number a.rejection) a.network
  unfolding work_by delivered_as stopped_with
  delivered z = record { network = w.network; number = number; untouched = λ n. absurd (n z) }

  pub rejected : rejected_number a.rejection ≢ 0 → DeliversAs r (deliver (network_of r) i j) (rejected_number a.rejection) r
  rejected z =
      record { network = sym (rejected-kept (network_of r) i j (λ e. z (number ∙ e))); number = number; untouched = λ n. refl }

  pub stood : (a.rounds ≡ 0) × (ending_of a.ending ≡ standing (deliver (network_of r) i j))
  unfolding work_by delivered_as stopped_with standing
  stood = (w.rounds, w.ending)

-- what is refused has a number
pub some-number : (o : Option Rejection) → is_some o ≡ true → rejected_number o ≢ 0
some-number None e = absurd (false≢true e)
some-number (Some x) e = refusal-some x

pub none-number : (o : Option Rejection) → is_some o ≡ false → rejected_number o ≡ 0
none-number None e = refl
none-number (Some x) e = absurd (false≢true (sym e))

-- ---- a run

-- 0 or 5
number-five : (e : Ending') → ending_number e ≢ 0 → ending_number e ≡ 5
unfolding ending_number rejection_number
number-five Unsolvable' n = absurd (n refl)
number-five Plan' n = absurd (n refl)
number-five Jammed' n = absurd (n refl)
number-five Open' n = absurd (n refl)
number-five Broken' n = refl

module _ (r : Network) (x : Answered) (u : rejected_number x.rejection ≡ 5 → x.network ≡ r) where
  runs : (d : Ran') → WorksAs (ran_as d) x → RunsAs r d x
  unfolding ran_as
  runs d w =
      record {
        network = w.network;
        rounds = w.rounds;
        number = w.number;
        ending = w.ending;
        untouched = λ n. u (w.number ∙ number-five d.ending (λ z. n (w.number ∙ z)));
      }

  broken : WorksAs (stopped_with (network_of r) (rejection_number BadShape)) x
      → RunsAs r (record { network = network_of r; made = 0; ending = Broken'; rounds = [] }) x
  unfolding stopped_with ends_by ending_number rejection_number
  broken w =
      record { network = w.network; rounds = w.rounds; number = w.number; ending = w.ending; untouched = λ n. u w.number }

-- "more is taken as 1,000,000"
allowed-is : (k : ℕ) → min k 1000000 ≡ allowed k
unfolding allowed max_rounds
allowed-is k = test (leb k 1000000) (λ t. rw (t, allowed) (min-eq_left (leb-true k 1000000 t))) (λ t. rw (t, allowed) (min-eq_right (let h = leb-false k 1000000 t in omega arith)))

pub ran : (r : Network) (k a : ℕ) (x : Answered) → a ≡ min k 1000000 → WorksAs (work_by (Run a) (network_of r)) x
    → (rejected_number x.rejection ≡ 5 → x.network ≡ r) → RunsAs r (run k (network_of r)) x
unfolding run work_by rejection_number
ran r k a x m w u =
    let e = m ∙ allowed-is k in
    test (in_shape (network_of r))
    (λ s. rw (s, run, ← e) (runs r x u (run_from a 0 [] (network_of r)) (rw (s, work_by) at w)))
    (λ s. rw (s, run) (broken r x u (rw (s, work_by) at w)))
