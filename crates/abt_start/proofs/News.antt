-- The same message to each agent of a set: each of them gets it, once, and nobody else gets anything.
use Rattle.std.proofs.Common.{◌≡◌, refl, ◌∙◌, ◌≢◌, Bool, true, false, List, [], ◌∷◌, ℕ, zero, suc, ◌≤◌, arith, eq-eqb, ne_eqb}
use Rattle.model_base.specs.Finite.{gather}
use Rattle.model_base.proofs.Tests.{test, eq_test}
use Rattle.model_base.proofs.Gathers.{gather_none, gather-one}
use Rattle.model_sheet.specs.Problem.{max_agents}
use Rattle.model_agent.specs.Message.{Message, Post, sent_to}
use Rattle.model_agent.proofs.Messages.{sent_to-append}
use Rattle.abt_agent.specs.Posting.{post_if, posts_to}

sent-gathered : (y m k : ℕ) (f : ℕ → List Post) → sent_to y (gather m k f) ≡ gather m k (λ j. sent_to y (f j))
unfolding gather sent_to
sent-gathered y zero k f = refl
sent-gathered y (suc m) k f = rw (sent_to-append y (f k) (gather m (suc k) f), sent-gathered y m (suc k) f)

module _ (m : Message) (set : ℕ → Bool) where
  to-another : (y k : ℕ) → k ≢ y → sent_to y (post_if (set k) m k) ≡ []
  unfolding post_if sent_to
  to-another y k n = test (set k) (λ e. rw (e, ne_eqb y k (λ q. n (omega arith)), sent_to)) (λ e. rw e)

  to-nobody : (y k : ℕ) → set k ≡ false → sent_to y (post_if (set k) m k) ≡ []
  unfolding post_if sent_to
  to-nobody y k e = rw e

  to-it : (y : ℕ) → set y ≡ true → sent_to y (post_if (set y) m y) ≡ m ∷ []
  unfolding post_if sent_to
  to-it y e = rw (e, eq-eqb y y refl, sent_to)

  pub sent-none : (y : ℕ) → (1 ≤ y → y ≤ 12 → set y ≡ false) → sent_to y (posts_to m set) ≡ []
  unfolding posts_to max_agents
  sent-none y h =
      sent-gathered y 12 1 (λ k. post_if (set k) m k)
      ∙ gather_none 12 1 _ (λ k l u. eq_test k y (λ q. to-nobody y k (rw q (h (omega arith) (omega arith)))) (to-another y k))

  pub sent-one : (y : ℕ) → 1 ≤ y → y ≤ 12 → set y ≡ true → sent_to y (posts_to m set) ≡ m ∷ []
  unfolding posts_to max_agents
  sent-one y l u e =
      sent-gathered y 12 1 (λ k. post_if (set k) m k) ∙ gather-one 12 1 y _ l (omega arith) (to-another y) ∙ to-it y e
