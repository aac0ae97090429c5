-- A refusal. Where it holds, its left side is stored, the agents it names are listened to and viewed, and the agent chooses: the nogoods
-- are sound for the wider view, and the link requests go out first. Where it does not, the record stays and at most an answer is sent.
use Rattle.std.proofs.Common.{Some, ◌≡◌, refl, sym, ◌∙◌, ◌≢◌, inl, inr, ⊎_elim, List, [], ◌∷◌, ◌++◌, true, false, not, ℕ, ◌≤◌, ◌<◌, eqb}
use mathlib.Core.Bool.{and-eq-true_iff, or-true, false≢true}
use borrow.Author.Tests.{eqb-false}
use Rattle.model_base.specs.Finite.{is_some}
use Rattle.model_base.proofs.Tests.{test, or_left, or_cases, eq_test}
use Rattle.model_base.proofs.Search.{at_same, at_other}
use Rattle.model_base.proofs.Lists.{All, All-append, All-right, any-right}
use Rattle.model_agent.specs.Message.{Assignment, known, Back, AddLink, Post, sent_to}
use Rattle.model_agent.specs.Agent.{Self, Bans, Agent, Step, above}
use Rattle.model_agent.specs.Choosing.{after, check_view}
use Rattle.model_agent.specs.Receiving.{quiet, answer, holds, unheard, add_links, accepting, outdated, on_back}
use Rattle.model_agent.specs.Sorts.{after_one, seen}
use Rattle.model_agent.proofs.Messages.{sent_to-append, seen-append}
use Rattle.model_agent.proofs.Assignments.{to-above}
use Rattle.theorems_agent.specs.Facts.{Excludes, Setting, Good, TellsSender, Sends, Facts}
use Rattle.theorems_agent.proofs.Posts.{Gets, nothing, once, gets-all, gets-one, requests-get, answer-sent, answer-some}
use Rattle.theorems_agent.proofs.LeftSides.{to-unheard, holds-value, to-holds, view-heard, view-named}
use Rattle.theorems_agent.proofs.Links.{SameLinks, check-same}
use Rattle.theorems_agent.proofs.Choosing.{Ready, ValueTaken, checks, taken-sends}

module _ (S : Assignment → Type 0) (s : Self) (bans : Bans) (a : Agent) (from : ℕ) (lhs : Assignment) (v : ℕ)
    (problem : Setting S s bans) (implied : Excludes S s.number v lhs)
    (upward : (k : ℕ) → known (lhs k) ≡ true → (1 ≤ k) × (k < s.number)) (G : Good S s bans a) where
  -- ---- it holds

  accepting-ready : holds s a lhs v ≡ true → Ready S s (accepting a lhs v)
  unfolding accepting unheard
  accepting-ready e =
      record {
        sound = record {
          agree = λ w l q k n. eq_test w v
              (λ u.
              let z : Some lhs ≡ Some l = rw (u, at_same) at q in
              let y : lhs ≡ l = cc in
              rw (← y) (let m = rw (← y) at n in let (low, high) = upward k m in view-named s a lhs v e k low high m))
              (λ u.
              let old = G.agree w l (rw (at_other a.nogoods v (Some lhs) w u) at q) k n in
              old ∙ view-heard a lhs v k (G.viewed k (rw old at n)));
          implied = λ w l q. eq_test w v
              (λ u.
              let z : Some lhs ≡ Some l = rw (u, at_same) at q in
              let y : lhs ≡ l = cc in
              rw (u, ← y) implied)
              (λ u. G.implied w l (rw (at_other a.nogoods v (Some lhs) w u) at q));
        };
        viewed = λ k n. test (unheard a lhs k)
            (λ u. rw (((and-eq-true_iff (known (lhs k)) (not (a.listens k))).0 u).0, or-true))
            (λ u. or_left _ _ (G.viewed k (rw u at n)));
        upward = λ k l. ⊎_elim (λ h. G.upward k h) (λ h. upward k h) (or_cases (a.listens k) (known (lhs k)) l);
      }

  -- the link requests

  link-to : (y : ℕ) → known (lhs y) ≡ true → a.listens y ≡ false → sent_to y (add_links s a lhs) ≡ AddLink ∷ []
  link-to y n l = let (low, high) = upward y n in gets-one (requests-get s a lhs y) (low, to-above s y high) (to-unheard a lhs y n l)

  -- they tell nothing
  links-told : (u y : ℕ) → seen u (sent_to y (add_links s a lhs)) ≡ u
  unfolding seen after_one
  links-told u y = go (requests-get s a lhs y)
    where
      go : Gets AddLink (unheard a lhs y) ((1 ≤ y) × (y ≤ above s)) (sent_to y (add_links s a lhs)) → seen u (sent_to y (add_links s a lhs)) ≡ u
      go (nothing e _) = rw e
      go (once e _ _) = rw e

  back-chooses : holds s a lhs v ≡ true → (t : Step) → ValueTaken S s bans from (accepting a lhs v) t → SameLinks (accepting a lhs v) t
      → Facts S s bans a from (Back lhs v) (after (add_links s a lhs) t)
  unfolding after accepting unheard is_some
  back-chooses c t T L =
      let own = holds-value s a lhs v c in
      record {
        good = T.good;
        chooses = true;
        quiet = λ q. absurd (false≢true (sym q));
        busy = λ _. record {
          why = own;
          view = λ x.
              ⊎_elim (λ e. inl e)
              (λ (e, r). inr (e, rw (split x) (any-right _ (sent_to x (add_links s a lhs)) (sent_to x t.sent) r)))
              (T.view x);
          asks = λ x n q. rw (split x, link-to x (rw (L.listens, n) at q) n) (inl tt);
          sent = λ y.
              rw (split y)
              (All-append _ (sent_to y (add_links s a lhs)) (sent_to y t.sent)
              (gets-all (requests-get s a lhs y) (Sends S a from (Back lhs v) (after (add_links s a lhs) t) y) (λ _ _. tt))
              (taken-sends S from a (accepting a lhs v) from (Back lhs v) (after (add_links s a lhs) t) (λ y e _. (e, tt))
              (λ x. refl) refl L.listens y (sent_to y t.sent) (T.sent y)));
          tells = λ y l h i.
              ⊎_elim
              (λ told. inl (λ u. told-too y u ∙ told u))
              (λ (same, none, other). inr (same ∙ G.kept, (λ u. told-too y u ∙ none u), other))
              (T.tells y l h i);
          grows = λ _ none-back.
              let g = T.grows (λ y. All-right _ (sent_to y (add_links s a lhs)) _ (rw (split y) at (none-back y))) in (
                (λ w h. g w
                    (eq_test w v (λ u. rw (u, at_same)) (λ u. rw (at_other a.nogoods v (Some lhs) w u) h))),
                g a.value (rw (← own, at_same)),
              );
        };
        must = λ l w e q f. refl;
      }
    where
      split : (y : ℕ) → sent_to y (add_links s a lhs ++ t.sent) ≡ sent_to y (add_links s a lhs) ++ sent_to y t.sent
      split y = sent_to-append y (add_links s a lhs) t.sent

      told-too : (y u : ℕ) → seen u (sent_to y (add_links s a lhs ++ t.sent)) ≡ seen u (sent_to y t.sent)
      told-too y u = rw (split y, seen-append u (sent_to y (add_links s a lhs)) (sent_to y t.sent), links-told u y)

  -- ---- it does not hold

  back-stays : holds s a lhs v ≡ false → (posts : List Post) → ((y : ℕ) → All (TellsSender a from (Back lhs v) y) (sent_to y posts))
      → (v ≡ a.value → sent_to from posts ≢ []) → Facts S s bans a from (Back lhs v) (quiet a posts)
  unfolding quiet
  back-stays c posts sent answers =
      record {
        good = G;
        chooses = false;
        quiet = λ _. record {
          value = refl;
          listens = refl;
          view = λ x. refl;
          nogoods = λ _ w q. q;
          sent = sent;
          answers = λ q. ⊎_elim (λ z. absurd z) answers q;
        };
        busy = λ q. absurd (false≢true q);
        must = λ l w e q f.
            let v≡ : v ≡ w = cc in
            let lhs≡ : lhs ≡ l = cc in
            sym c ∙ to-holds s a lhs v (v≡ ∙ q) (rw lhs≡ f);
      }

  -- ---- both

  pub back-facts : (on_back s bans a from lhs v).unsolvable ≡ false → Facts S s bans a from (Back lhs v) (on_back s bans a from lhs v)
  unfolding on_back outdated after sent_to
  back-facts z =
      test (holds s a lhs v)
      (λ c. rw (c, on_back)
      (back-chooses c (check_view s bans from (accepting a lhs v))
      ((checks S s bans problem from (accepting a lhs v) (accepting-ready c)).taken (rw (c, on_back) at z))
      (check-same s bans from (accepting a lhs v))))
      (λ c. rw (c, on_back)
      (test (eqb v a.value)
      (λ h. rw (h, outdated)
      (back-stays c (answer a from) (answer-sent a from (Back lhs v) (λ q. q)) (λ _. answer-some a from)))
      (λ h. rw (h, outdated) (back-stays c [] (λ y. tt) (λ e. absurd (eqb-false v a.value h e))))))

  pub back-ends : (on_back s bans a from lhs v).unsolvable ≡ true → (σ : Assignment) → S σ → ⊥
  unfolding on_back outdated quiet after
  back-ends z =
      test (holds s a lhs v)
      (λ c. (checks S s bans problem from (accepting a lhs v) (accepting-ready c)).hopeless (rw (c, on_back) at z))
      (λ c. absurd (false≢true (rw (c, on_back) at z)))
