-- News: the view is updated and the nogoods that disagree with it are dropped; then the agent chooses where its value is now banned.
-- Dropping leaves the nogoods sound for the new view, and those that agree stay.
use Rattle.std.proofs.Common.{◌≡◌, refl, sym, ◌∙◌, subst, inl, inr, ⊎_elim, [], true, false, ℕ, arith}
use mathlib.Core.Bool.{false≢true}
use Rattle.model_base.specs.Finite.{at, is_some}
use Rattle.model_base.proofs.Tests.{test, is_some-true, eq_test}
use Rattle.model_base.proofs.Search.{at_other}
use Rattle.model_agent.specs.Message.{Assignment, Info, sent_to}
use Rattle.model_agent.specs.Agent.{Self, Bans, Agent, Step}
use Rattle.model_agent.specs.Choosing.{no_refuser, check_view}
use Rattle.model_agent.specs.Receiving.{quiet, keep_if, agreeing, updated, conflicts, on_info}
use Rattle.model_agent.specs.Sorts.{IsBack}
use Rattle.theorems_agent.specs.Facts.{Setting, Good, Quiet, Facts}
use Rattle.theorems_agent.proofs.LeftSides.{agrees_at, to-agrees, agreeing-some}
use Rattle.theorems_agent.proofs.Walk.{conflicts-true, conflicts-false}
use Rattle.theorems_agent.proofs.Links.{SameLinks, check-same}
use Rattle.theorems_agent.proofs.Choosing.{Ready, ValueTaken, checks, taken-sends}

-- ---- the record with the news

module _ (S : Assignment → Type 0) (s : Self) (bans : Bans) (a : Agent) (from v : ℕ)
    (problem : Setting S s bans) (heard : a.listens from ≡ true) (G : Good S s bans a) where
  updated-ready : Ready S s (updated s a from v)
  unfolding updated
  updated-ready =
      record {
        sound = record {
          agree = λ w lhs e k n.
              let (stored, agreed) = agreeing-some s (at a.view from v) (a.nogoods w) lhs e in
              let (l, h) = G.upward k (G.viewed k (rw (G.agree w lhs stored k n) at n)) in
              agrees_at s (at a.view from v) lhs agreed k l h n;
          implied = λ w lhs e. G.implied w lhs (agreeing-some s (at a.view from v) (a.nogoods w) lhs e).0;
        };
        viewed = λ k n. eq_test k from (λ u. rw u heard) (λ u. G.viewed k (rw (at_other a.view from v k u) at n));
        upward = G.upward;
      }

  -- ---- the own value is not banned

  info-quiet : Quiet a from (Info v) (quiet (updated s a from v) [])
  unfolding quiet updated sent_to agreeing keep_if is_some
  info-quiet =
      record {
        value = refl;
        listens = refl;
        view = λ x. refl;
        nogoods = λ same w h.
            let (lhs, e) = is_some-true (a.nogoods w) h in
            rw (e, to-agrees s (at a.view from v) lhs (λ k n. G.agree w lhs e k n ∙ sym (same k)));
        sent = λ y. tt;
        answers = λ q. ⊎_elim (λ z. absurd z) (λ z. absurd z) q;
      }

  info-stays : conflicts s bans (at a.view from v) a.value ≡ false
      → Facts S s bans a from (Info v) (quiet (updated s a from v) [])
  unfolding quiet updated agreeing
  info-stays c =
      let R = updated-ready in
      record {
        good = record {
          low = G.low;
          high = G.high;
          kept = G.kept;
          free = conflicts-false s bans (at a.view from v) problem.upward a.value c;
          fresh = rw G.fresh;
          agree = R.sound.agree;
          implied = R.sound.implied;
          viewed = R.viewed;
          upward = G.upward;
        };
        chooses = false;
        quiet = λ _. info-quiet;
        busy = λ q. absurd (false≢true q);
        must = λ lhs w e. absurd (subst IsBack (sym e) tt);
      }

  -- ---- it is

  info-chooses : conflicts s bans (at a.view from v) a.value ≡ true → (t : Step) → ValueTaken S s bans no_refuser (updated s a from v) t
      → SameLinks (updated s a from v) t → Facts S s bans a from (Info v) t
  unfolding updated
  info-chooses c t T L =
      record {
        good = T.good;
        chooses = true;
        quiet = λ q. absurd (false≢true (sym q));
        busy = λ _. record {
          why = conflicts-true s bans (at a.view from v) a.value c;
          view = T.view;
          asks = λ x n q. absurd (false≢true (sym n ∙ rw L.listens at q));
          sent = λ y.
              taken-sends S no_refuser a (updated s a from v) from (Info v) t (λ y e n. absurd (n e)) (λ x. refl) refl L.listens y
              (sent_to y t.sent) (T.sent y);
          -- the sender is above
          tells = λ y l h q.
              ⊎_elim (λ t. inl t) (λ (same, none, _). inr (same ∙ G.kept, none, λ e. omega (arith, G.upward from heard))) (T.tells y l h q);
          grows = λ q. absurd q;
        };
        must = λ lhs w e. absurd (subst IsBack (sym e) tt);
      }

  -- ---- both

  pub info-facts : (on_info s bans a from v).unsolvable ≡ false → Facts S s bans a from (Info v) (on_info s bans a from v)
  unfolding on_info
  info-facts z =
      test (conflicts s bans (at a.view from v) a.value)
      (λ c. rw (c, on_info)
      (info-chooses c (check_view s bans no_refuser (updated s a from v))
      ((checks S s bans problem no_refuser (updated s a from v) updated-ready).taken (rw (c, on_info) at z))
      (check-same s bans no_refuser (updated s a from v))))
      (λ c. rw (c, on_info) (info-stays c))

  pub info-ends : (on_info s bans a from v).unsolvable ≡ true → (σ : Assignment) → S σ → ⊥
  unfolding on_info quiet
  info-ends z =
      test (conflicts s bans (at a.view from v) a.value)
      (λ c. (checks S s bans problem no_refuser (updated s a from v) updated-ready).hopeless (rw (c, on_info) at z))
      (λ c. absurd (false≢true (rw (c, on_info) at z)))
