-- The room that a delivery finds: in a network in shape, all channels hold at most eight after it exactly if the receiver's own do, with what it
-- sends. The delivered channel loses a message, and the others stay.
use Rattle.std.proofs.Common.{ℕ, ◌+◌, ◌≤◌, ◌≡◌, refl, sym, ap, ◌∙◌, ◌≢◌, List, ◌∷◌, arith, eqb, length, length-append, eqb-true, eq-eqb, ne_eqb, le-leb}
use Rattle.model_base.proofs.Peeling.{same_test}
use borrow.Author.Tests.{eqb-false}
use Rattle.model_base.specs.Finite.{at}
use Rattle.model_base.proofs.Tests.{test}
use Rattle.model_base.proofs.Search.{all_to-at, to-all_to, at_other, at-cases}
use Rattle.model_sheet.specs.Problem.{max_agents}
use Rattle.model_agent.specs.Message.{Message as Message', sent_to}
use Rattle.model_network.specs.Network.{Network as Network', posted, with_step, with_channel, step_on, handed}
use Rattle.model_network.specs.Shape.{capacity, has_room}
use Rattle.model_network.specs.Delivery.{fits}
use Rattle.theorems_shape.proofs.ShapeClauses.{Shaped}
use Rattle.abt_record.specs.declared.Network.{Network}
use Rattle.abt_record.specs.Abstract.{network_of}
use Rattle.abt_record_laws.specs.Held.{held_at, row_fits}
use Rattle.abt_record_laws.proofs.Changes.{channel-held}

module _ (w : Network') (i j : ℕ) (m : Message') (others : List Message') (e : w.channel i j ≡ m ∷ others) where
  loses : (x y : ℕ) → length ((with_channel w i j others).channel x y) ≤ length (w.channel x y)
  unfolding with_channel
  loses x y =
      at-cases (λ row. length (row y) ≤ length (w.channel x y)) w.channel i (at (w.channel i) j others) x
      (λ q. at-cases (λ c. length c ≤ length (w.channel x y)) (w.channel i) j others y (λ r. rw (q, r, e) (omega arith)) (λ _. rw q (omega arith)))
      (λ _. omega arith)

  -- the receiver's channels
  sends : i ≢ j → (y : ℕ) → length ((handed w i j m others).channel j y) ≡ length (w.channel j y) + length (sent_to y (step_on w i j m).sent)
  unfolding handed with_step posted with_channel
  sends n y =
      rw (eq-eqb j j refl, posted, at_other w.channel i (at (w.channel i) j others) j (λ q. n (sym q)))
      (length-append (w.channel j y) (sent_to y (step_on w i j m).sent))

  -- the others'
  stays : (x y : ℕ) → x ≢ j → length ((handed w i j m others).channel x y) ≤ length (w.channel x y)
  unfolding handed with_step posted
  stays x y n = rw (ne_eqb x j n, posted) (loses x y)

pub room-is : (o : Network) (i j : ℕ) (m : Message') (others : List Message') → Shaped (network_of o) → (network_of o).channel i j ≡ m ∷ others
    → i ≢ j → 1 ≤ j → j ≤ 12
    → fits (handed (network_of o) i j m others) ≡ row_fits (held_at o.counts j) (step_on (network_of o) i j m).sent
unfolding fits has_room row_fits capacity max_agents
room-is o i j m others s e n lo hi =
    let w = network_of o in
    let posts = (step_on w i j m).sent in
    let counted : (y : ℕ) → length ((handed w i j m others).channel j y) ≡ held_at o.counts j y + length (sent_to y posts) =
    λ y. sends w i j m others e n y ∙ ap (λ (k : ℕ). k + length (sent_to y posts)) (channel-held o j y) in
    same_test _ _
    (λ f. to-all_to 12 _ (λ y ly hy. rw (← counted y) (all_to-at 12 _ (all_to-at 12 _ f j lo hi) y ly hy)))
    (λ f. to-all_to 12 _ (λ x lx hx. to-all_to 12 _ (λ y ly hy.
    test (eqb x j)
    (λ t. rw (eqb-true x j t, counted y) (all_to-at 12 _ f y ly hy))
    (λ t. le-leb (length ((handed w i j m others).channel x y)) 8 (omega (arith, stays w i j m others e x y (eqb-false x j t), (s.channels x y lx hx ly hy).room))))))
