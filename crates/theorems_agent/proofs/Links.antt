-- Whom a step links, of every record and message. Choosing changes neither whom the agent listens to nor whom it informs, and asks nobody for a
-- link; only a refusal that holds makes it listen, and only a link request makes it inform.
use Rattle.std.proofs.Common.{◌≡◌, refl, inl, inr, [], ◌∷◌, ◌++◌, true, ℕ, zero, suc, ◌≤◌, eqb}
use Rattle.model_base.specs.Finite.{at, highest}
use Rattle.model_base.proofs.Tests.{test, opt, or_left, or_right, or_cases, eq_test}
use Rattle.model_base.proofs.Search.{at_same, at_other}
use Rattle.model_base.proofs.Lists.{All, All-append, All-map}
use Rattle.model_agent.specs.Message.{Assignment, known, Message, Info, Back, AddLink, sent_to}
use Rattle.model_agent.specs.Agent.{Self, Bans, Nogoods, Agent, Step, above}
use Rattle.model_agent.specs.Choosing.{choice, no_refuser, chosen, took, union, failed, refusing, forget, after, settle, check_view}
use Rattle.model_agent.specs.Receiving.{
  quiet,
  answer,
  updated,
  conflicts,
  on_info,
  holds,
  unheard,
  add_links,
  accepting,
  outdated,
  on_back,
  informing,
  on_add_link,
  react,
}
use Rattle.model_agent.specs.Sorts.{IsAddLink, Not, OneLink}
use Rattle.model_agent.proofs.Messages.{sent_to-append, one-put}
use Rattle.theorems_agent.specs.Facts.{Requests, Linking}
use Rattle.theorems_agent.proofs.Posts.{Gets, nothing, once, gets-all, infos-get, requests-get, answer-get}
use Rattle.theorems_agent.proofs.LeftSides.{unheard-true}

-- ---- choosing

-- a step that links nobody anew
pub record SameLinks (a : Agent) (t : Step) : Type 0 where
  pub listens : t.agent.listens ≡ a.listens
  pub informs : t.agent.informs ≡ a.informs
  pub plain : (y : ℕ) → All (Not IsAddLink) (sent_to y t.sent)

module _ (s : Self) (bans : Bans) (refuser : ℕ) where
  backs-same : (a : Agent) (k : ℕ) (whole : Assignment) (nogoods : Nogoods) (t : Step) → SameLinks (forget k a nogoods) t
      → SameLinks a (after (refusing k whole ∷ []) t)
  unfolding forget after refusing sent_to
  backs-same a k whole nogoods t T =
      record {
        listens = T.listens;
        informs = T.informs;
        plain = λ y. test (eqb y k) (λ u. rw (u, sent_to) ((λ z. z), T.plain y)) (λ u. rw (u, sent_to) (T.plain y));
      }

  settle-same : (times : ℕ) (a : Agent) → SameLinks a (settle times s bans refuser a)
  unfolding settle took failed chosen sent_to
  settle-same zero a = record { listens = refl; informs = refl; plain = λ y. tt }
  settle-same (suc times) a =
      opt (choice s bans a).value
      (λ e. opt (highest (above s) (λ k. known (union s.domain (choice s bans a).nogoods k)))
      (λ q. rw (e, settle, q) (record { listens = refl; informs = refl; plain = λ y. tt }))
      (λ k q. rw (e, settle, q) (backs-same a k _ (choice s bans a).nogoods _ (settle-same times _))))
      (λ v e. rw (e, settle) (record {
        listens = refl;
        informs = refl;
        plain = λ y. gets-all (infos-get s a refuser v y) (Not IsAddLink) (λ _ _ z. z);
      }))

  pub check-same : (a : Agent) → SameLinks a (check_view s bans refuser a)
  unfolding check_view
  check-same a = settle-same s.number a

-- ---- the three messages

no-request : (a : Agent) (t : Step) (y : ℕ) (m : Message) → Not IsAddLink m → Requests a t y m
no-request a t y (Info v) n = tt
no-request a t y (Back lhs v) n = tt
no-request a t y AddLink n = absurd (n tt)

-- a step from a record b with the links of a, on what is no link request
same-linking : (a b : Agent) (from : ℕ) (m : Message) (t : Step) → b.listens ≡ a.listens → b.informs ≡ a.informs → Not IsAddLink m
    → SameLinks b t → Linking a from m t
same-linking a b from m t l i n T =
    record {
      keeps = λ x q. rw (T.listens, l) q;
      hears = λ x q. inl (rw (T.listens, l) at q);
      informs = λ y q. rw (T.informs, i) q;
      joins = λ q. absurd (n q);
      joined = λ y q. inl (rw (T.informs, i) at q);
      requests = λ y. All-map _ _ (no-request a t y) (sent_to y t.sent) (T.plain y);
      once = λ y. one-put [] (sent_to y t.sent) tt (T.plain y);
    }

still : (a : Agent) → SameLinks a (quiet a [])
unfolding quiet sent_to
still a = record { listens = refl; informs = refl; plain = λ y. tt }

answered : (a : Agent) (from : ℕ) → SameLinks a (quiet a (answer a from))
unfolding quiet
answered a from =
    record { listens = refl; informs = refl; plain = λ y. gets-all (answer-get a from y) (Not IsAddLink) (λ _ _ z. z) }

info-links : (s : Self) (bans : Bans) (a : Agent) (from v : ℕ) → Linking a from (Info v) (on_info s bans a from v)
unfolding on_info updated
info-links s bans a from v =
    test (conflicts s bans (at a.view from v) a.value)
    (λ e. rw (e, on_info) (same-linking a _ from (Info v) _ refl refl (λ z. z) (check-same s bans no_refuser (updated s a from v))))
    (λ e. rw (e, on_info) (same-linking a _ from (Info v) _ refl refl (λ z. z) (still (updated s a from v))))

-- a refusal that holds: its link requests come first
holding-links : (s : Self) (a : Agent) (from : ℕ) (lhs : Assignment) (v : ℕ) (t : Step) → SameLinks (accepting a lhs v) t
    → Linking a from (Back lhs v) (after (add_links s a lhs) t)
unfolding after accepting
holding-links s a from lhs v t T =
    record {
      keeps = λ x q. rw T.listens (or_left _ (known (lhs x)) q);
      hears = λ x q. or_cases (a.listens x) (known (lhs x)) (rw T.listens at q);
      informs = λ y q. rw T.informs q;
      joins = λ q. absurd q;
      joined = λ y q. inl (rw T.informs at q);
      requests = λ y. rw (split y) (All-append _ (sent_to y (add_links s a lhs)) (sent_to y t.sent)
          (gets-all (requests-get s a lhs y) (Requests a (after (add_links s a lhs) t) y)
          (λ _ u. let (n, l) = unheard-true a lhs y u in (rw T.listens (or_right (a.listens y) _ n), l)))
          (All-map _ _ (no-request a (after (add_links s a lhs) t) y) (sent_to y t.sent) (T.plain y)));
      once = λ y. rw (split y) (one y (requests-get s a lhs y));
    }
  where
    split : (y : ℕ) → sent_to y (add_links s a lhs ++ t.sent) ≡ sent_to y (add_links s a lhs) ++ sent_to y t.sent
    split y = sent_to-append y (add_links s a lhs) t.sent

    one : (y : ℕ) → Gets AddLink (unheard a lhs y) ((1 ≤ y) × (y ≤ above s)) (sent_to y (add_links s a lhs))
        → OneLink (sent_to y (add_links s a lhs) ++ sent_to y t.sent)
    one y (nothing e _) = rw e (one-put [] (sent_to y t.sent) tt (T.plain y))
    one y (once e _ _) = rw e (T.plain y)

back-links : (s : Self) (bans : Bans) (a : Agent) (from : ℕ) (lhs : Assignment) (v : ℕ)
    → Linking a from (Back lhs v) (on_back s bans a from lhs v)
unfolding on_back outdated
back-links s bans a from lhs v =
    test (holds s a lhs v)
    (λ e. rw (e, on_back) (holding-links s a from lhs v _ (check-same s bans from (accepting a lhs v))))
    (λ e. rw (e, on_back) (same-linking a a from (Back lhs v) _ refl refl (λ z. z)
    (test (eqb v a.value) (λ q. rw q (answered a from)) (λ q. rw q (still a)))))

add-link-links : (a : Agent) (from : ℕ) → Linking a from AddLink (on_add_link a from)
unfolding on_add_link quiet informing
add-link-links a from =
    record {
      keeps = λ x q. q;
      hears = λ x q. inl q;
      informs = λ y q. eq_test y from
          (λ u. rw u (at_same a.informs from true))
          (λ u. rw (at_other a.informs from true y u) q);
      joins = λ _. at_same a.informs from true;
      joined = λ y q. eq_test y from (λ u. inr (u, tt)) (λ u. inl (rw (at_other a.informs from true y u) at q));
      requests = λ y. gets-all (answer-get a from y) (Requests a (on_add_link a from) y) (λ _ _. tt);
      once = λ y. one-put [] (sent_to y (answer a from)) tt (gets-all (answer-get a from y) (Not IsAddLink) (λ _ _ z. z));
    }

pub react-links : (s : Self) (bans : Bans) (a : Agent) (from : ℕ) (m : Message) → Linking a from m (react s bans a from m)
unfolding react
react-links s bans a from (Info v) = info-links s bans a from v
react-links s bans a from (Back lhs v) = back-links s bans a from lhs v
react-links s bans a from AddLink = add-link-links a from
