-- Which lines can be delivered: those whose delivery is answered with 0, and none with nothing waiting by its row of counts.
use Rattle.std.proofs.Common.{ℕ, ◌-◌, ◌≤◌, ◌≡◌, refl, sym, ap, ◌∙◌, ◌≢◌, true, false, List, [], ◌∷◌, arith, length, get_or}
use Rattle.model_base.proofs.Tests.{test}
use Rattle.abt_packed.specs.Packed.{assignment}
use Rattle.model_agent.specs.Message.{Message}
use Rattle.model_network.specs.Network.{Network as Network'}
use Rattle.model_network.specs.Shape.{in_shape}
use Rattle.model_network.specs.Delivery.{
  BadShape,
  BadNumbers,
  VerdictStands,
  EmptyChannel,
  NoRoom,
  rejection_number,
  Answer,
  Accepted,
  Rejected,
  answer_number,
  is_accepted,
  rejecting,
  numbers_good,
  deliver_head,
  deliver,
}
use Rattle.model_dispatch.specs.Dispatch.{deliverable}
use Rattle.model_dispatch.proofs.Deliveries.{passed}
use Rattle.abt_record.specs.declared.Network.{Network}
use Rattle.abt_record.specs.Abstract.{is_channel, row_of, network_of}
use Rattle.abt_record_laws.specs.Held.{held_at}
use Rattle.abt_record_laws.proofs.Changes.{row_is, channel-held}
use Rattle.abt_record_laws.proofs.Rejecting.{bad-shape, bad-numbers, stands, tries}
use Rattle.abt_engine.proofs.Testing.{good}
use Rattle.abt_dispatch.specs.Abstract.{line}

-- ---- by the number

number-accepted : (a : Answer) → answer_number a ≡ 0 → is_accepted a ≡ true
unfolding answer_number is_accepted rejection_number
number-accepted Accepted e = refl
number-accepted (Rejected BadShape) e = absurd (omega arith)
number-accepted (Rejected BadNumbers) e = absurd (omega arith)
number-accepted (Rejected VerdictStands) e = absurd (omega arith)
number-accepted (Rejected EmptyChannel) e = absurd (omega arith)
number-accepted (Rejected NoRoom) e = absurd (omega arith)

number-rejected : (a : Answer) → answer_number a ≢ 0 → is_accepted a ≡ false
unfolding answer_number is_accepted
number-rejected Accepted n = absurd (n refl)
number-rejected (Rejected r) n = refl

module _ (w : Network') (i j k : ℕ) (e : k ≡ answer_number (deliver w i j).answer) where
  pub can : k ≡ 0 → deliverable w (line i j) ≡ true
  unfolding deliverable
  can z = number-accepted (deliver w i j).answer (sym e ∙ z)

  pub cannot : k ≢ 0 → deliverable w (line i j) ≡ false
  unfolding deliverable
  cannot n = number-rejected (deliver w i j).answer (λ z. n (e ∙ z))

pub can-apart : (w : Network') (i j : ℕ) → deliverable w (line i j) ≡ true → i ≢ j
unfolding numbers_good
can-apart w i j h = (good w.problem.count i j (passed w (line i j) h).numbers).apart

-- ---- with nothing waiting

empty-line : (w : Network') (i j : ℕ) → w.channel i j ≡ [] → deliverable w (line i j) ≡ false
unfolding deliverable rejecting is_accepted deliver_head
empty-line w i j e =
    test (in_shape w)
    (λ s. test (numbers_good w i j)
    (λ g. test w.unsolvable (λ v. rw (stands w i j s g v)) (λ v. rw (tries w i j s g v [] e)))
    (λ g. rw (bad-numbers w i j s g)))
    (λ s. rw (bad-shape w i j s))

pub nothing-waits : (r : Network) (i j : ℕ) → 1 ≤ i → assignment (get_or r.counts (i - 1) 0) j ≡ 0 → deliverable (network_of r) (line i j) ≡ false
unfolding held_at
nothing-waits r i j lo z = empty-line (network_of r) i j (none ((network_of r).channel i j) (channel-held r i j ∙ held))
  where
    row : row_of r.counts i j ≡ 0
    row = ap (λ (f : ℕ → ℕ). f j) (row_is r.counts i lo) ∙ z

    held : held_at r.counts i j ≡ 0
    held = test (is_channel i j) (λ t. rw (t, held_at) row) (λ t. rw (t, held_at))

    none : (ms : List Message) → length ms ≡ 0 → ms ≡ []
    none [] q = refl
    none (m ∷ ms) q = absurd (omega arith)
