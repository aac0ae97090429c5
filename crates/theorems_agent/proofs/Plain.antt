-- A step of a plain record that is handed a plain message leaves a plain record and sends plain messages.
-- What it newly names or keeps was in the view, in a stored left side or in the message, or is the sender; it keeps reasons of own values only.
use Rattle.std.proofs.Common.{Some, ◌≡◌, refl, sym, ap, subst, ◌∙◌, ⊎_elim, [], ◌∷◌, Bool, true, false, ℕ, zero, suc, ◌≤◌, arith, eqb}
use mathlib.Core.Bool.{false≢true}
use Rattle.model_base.specs.Finite.{at, within, highest}
use Rattle.model_base.proofs.Tests.{test, opt, no-some, to-within}
use Rattle.model_base.proofs.Search.{at-cases}
use Rattle.model_base.proofs.Lists.{All-append}
use Rattle.model_sheet.specs.Problem.{max_domain}
use Rattle.model_agent.specs.Message.{Assignment, known, nobody, Message, Info, Back, AddLink, sent_to}
use Rattle.model_agent.specs.Agent.{Self, Bans, Nogoods, Agent, Step, above}
use Rattle.model_agent.specs.Shape.{max_named}
use Rattle.model_agent.specs.Plain.{PlainLhs, PlainReason, PlainAgent, PlainMessage}
use Rattle.model_agent.specs.Choosing.{
  lhs_of,
  only,
  choice,
  no_refuser,
  chosen,
  took,
  join,
  union,
  failed,
  refusing,
  forget,
  after,
  settle,
  check_view,
}
use Rattle.model_agent.specs.Receiving.{
  quiet,
  answer,
  updated,
  conflicts,
  on_info,
  holds,
  unheard,
  add_links,
  accepting,
  outdated,
  on_back,
  informing,
  on_add_link,
  react,
}
use Rattle.model_agent.proofs.Assignments.{known-zero}
use Rattle.model_agent.proofs.Messages.{sent_to-append}
use Rattle.theorems_agent.specs.Facts.{PlainStep}
use Rattle.theorems_agent.proofs.Posts.{gets-all, infos-get, requests-get, answer-get}
use Rattle.theorems_agent.proofs.LeftSides.{agreeing-some, without-some, holds-value}
use Rattle.theorems_agent.proofs.Walk.{walked}

-- ---- sets, assignments and reasons

abbrev PlainSet : (ℕ → Bool) → Type 0
PlainSet f = (k : ℕ) → within max_named k ≡ false → f k ≡ false

-- reasons stand at own values, and their left sides are plain
abbrev PlainNogoods : Nogoods → Type 0
PlainNogoods nogoods = (v : ℕ) (lhs : Assignment) → nogoods v ≡ Some lhs → (within max_domain v ≡ true) × PlainLhs lhs

stored : (a : Agent) → PlainAgent a → PlainNogoods a.nogoods
stored a P v lhs e =
    (test (within max_domain v) (λ t. t) (λ t. no-some (sym (P.nogoods v t) ∙ e)), subst PlainReason e (P.reasons v))

plain-agent : (a : Agent) → PlainSet a.listens → PlainSet a.informs → PlainLhs a.view → PlainNogoods a.nogoods → PlainAgent a
plain-agent a L I W N =
    record {
      listens = L;
      informs = I;
      view = W;
      nogoods = λ v out. opt (a.nogoods v) (λ e. e) (λ lhs e. absurd (false≢true (sym out ∙ (N v lhs e).0)));
      reasons = λ v. opt (a.nogoods v) (λ e. rw e tt) (λ lhs e. rw e (N v lhs e).1);
    }

-- an assignment changed at an agent of 1 to 16, or to unknown
named-plain : (l : Assignment) (from v : ℕ) → within max_named from ≡ true → PlainLhs l → PlainLhs (at l from v)
named-plain l from v inside P k out =
    at-cases (λ u. u ≡ 0) l from v k (λ q. absurd (false≢true (sym out ∙ rw q inside))) (λ _. P k out)

unknown-plain : (l : Assignment) (k : ℕ) → PlainLhs l → PlainLhs (at l k 0)
unknown-plain l k P j out = at-cases (λ u. u ≡ 0) l k 0 j (λ _. refl) (λ _. P j out)

-- ---- choosing

only-plain : (view : Assignment) (k : ℕ) → PlainLhs view → PlainLhs (only k (view k))
unfolding only nobody
only-plain view k P j out = at-cases (λ u. u ≡ 0) nobody k (view k) j (λ q. ap view (sym q) ∙ P j out) (λ _. refl)

union-plain : (m : ℕ) (nogoods : Nogoods) → PlainNogoods nogoods → PlainLhs (union m nogoods)
unfolding union join lhs_of nobody
union-plain zero nogoods N k out = refl
union-plain (suc m) nogoods N k out =
    rw (union-plain m nogoods N k out, known-zero)
    (opt (nogoods (suc m)) (λ e. rw e) (λ lhs e. rw e ((N (suc m) lhs e).1 k out)))

-- a step that sends nothing
silent : (t : Step) → PlainAgent t.agent → t.sent ≡ [] → PlainStep t
unfolding sent_to
silent t P e = record { agent = P; sent = λ y. rw e tt }

module _ (s : Self) (bans : Bans) (refuser : ℕ) (small : s.domain ≤ max_domain) where
  given : (a : Agent) → PlainAgent a → PlainNogoods (choice s bans a).nogoods
  unfolding choice
  given a P w lhs e =
      ⊎_elim
      (λ q. stored a P w lhs q)
      (λ (low, high, k, b, o). (to-within max_domain w low (omega arith), subst PlainLhs o (only-plain a.view k P.view)))
      ((walked s bans a.view s.domain 1 a.nogoods).given w lhs e)

  chosen_plain : (a : Agent) → PlainAgent a → (v : ℕ) → PlainAgent (chosen a v (choice s bans a).nogoods)
  unfolding chosen
  chosen_plain a P v = plain-agent _ P.listens P.informs P.view (given a P)

  failed-plain : (a : Agent) → PlainAgent a → PlainStep (failed a (choice s bans a).nogoods)
  unfolding failed
  failed-plain a P = silent _ (chosen_plain a P 0) refl

  took-plain : (a : Agent) → PlainAgent a → (v : ℕ) → PlainStep (took s refuser a v (choice s bans a).nogoods)
  unfolding took chosen
  took-plain a P v =
      record {
        agent = plain-agent _ P.listens P.informs P.view (given a P);
        sent = λ y. gets-all (infos-get s a refuser v y) PlainMessage (λ _ _. tt);
      }

  forget-plain : (a : Agent) → PlainAgent a → (k : ℕ) → PlainAgent (forget k a (choice s bans a).nogoods)
  unfolding forget
  forget-plain a P k =
      plain-agent _ P.listens P.informs (unknown-plain a.view k P.view)
      (λ v lhs e. given a P v lhs (without-some k ((choice s bans a).nogoods v) lhs e).0)

  backs-plain : (k : ℕ) (whole : Assignment) (t : Step) → PlainLhs whole → PlainStep t → PlainStep (after (refusing k whole ∷ []) t)
  unfolding after refusing sent_to
  backs-plain k whole t W T =
      record {
        agent = T.agent;
        sent = λ y. test (eqb y k) (λ u. rw (u, sent_to) (unknown-plain whole k W, T.sent y)) (λ u. rw (u, sent_to) (T.sent y));
      }

  settle-plain : (times : ℕ) (a : Agent) → PlainAgent a → PlainStep (settle times s bans refuser a)
  unfolding settle
  settle-plain zero a P = failed-plain a P
  settle-plain (suc times) a P =
      opt (choice s bans a).value
      (λ e. opt (highest (above s) (λ k. known (union s.domain (choice s bans a).nogoods k)))
      (λ q. rw (e, settle, q) (failed-plain a P))
      (λ k q. rw (e, settle, q)
      (backs-plain k _ _ (union-plain s.domain _ (given a P)) (settle-plain times _ (forget-plain a P k)))))
      (λ v e. rw (e, settle) (took-plain a P v))

  check-plain : (a : Agent) → PlainAgent a → PlainStep (check_view s bans refuser a)
  unfolding check_view
  check-plain a P = settle-plain s.number a P

-- ---- the three messages

-- an answer
answer-plain : (a b : Agent) (from : ℕ) → PlainAgent b → PlainStep (quiet b (answer a from))
unfolding quiet
answer-plain a b from P = record { agent = P; sent = λ y. gets-all (answer-get a from y) PlainMessage (λ _ _. tt) }

still-plain : (a : Agent) → PlainAgent a → PlainStep (quiet a [])
unfolding quiet
still-plain a P = silent _ P refl

module _ (s : Self) (bans : Bans) (a : Agent) (from : ℕ) (inside : within max_named from ≡ true) (small : s.domain ≤ max_domain)
    (P : PlainAgent a) where
  updated-plain : (v : ℕ) → PlainAgent (updated s a from v)
  unfolding updated
  updated-plain v =
      plain-agent _ P.listens P.informs (named-plain a.view from v inside P.view)
      (λ w lhs e. stored a P w lhs (agreeing-some s (at a.view from v) (a.nogoods w) lhs e).0)

  info-plain : (v : ℕ) → PlainStep (on_info s bans a from v)
  unfolding on_info
  info-plain v =
      test (conflicts s bans (at a.view from v) a.value)
      (λ e. rw (e, on_info) (check-plain s bans no_refuser small (updated s a from v) (updated-plain v)))
      (λ e. rw (e, on_info) (still-plain (updated s a from v) (updated-plain v)))

  module _ (lhs : Assignment) (v : ℕ) (M : PlainLhs lhs) where
    accepting-plain : within max_domain v ≡ true → PlainAgent (accepting a lhs v)
    unfolding accepting
    accepting-plain own =
        plain-agent _
        (λ k out. rw (P.listens k out, M k out) known-zero)
        P.informs
        (λ k out. test (unheard a lhs k) (λ u. rw u (M k out)) (λ u. rw u (P.view k out)))
        (λ w r. at-cases (λ o. o ≡ Some r → (within max_domain w ≡ true) × PlainLhs r) a.nogoods v (Some lhs) w
        (λ q e. let is : lhs ≡ r = cc in (rw q own, subst PlainLhs is M))
        (λ _. stored a P w r))

    linked-plain : (t : Step) → PlainStep t → PlainStep (after (add_links s a lhs) t)
    unfolding after
    linked-plain t T =
        record {
          agent = T.agent;
          sent = λ y. rw (sent_to-append y (add_links s a lhs) t.sent)
              (All-append PlainMessage (sent_to y (add_links s a lhs)) (sent_to y t.sent)
              (gets-all (requests-get s a lhs y) PlainMessage (λ _ _. tt)) (T.sent y));
        }

    back-plain : within max_domain a.value ≡ true → PlainStep (on_back s bans a from lhs v)
    unfolding on_back outdated
    back-plain own =
        test (holds s a lhs v)
        (λ e. rw (e, on_back) (linked-plain _ (check-plain s bans from small (accepting a lhs v)
        (accepting-plain (rw (holds-value s a lhs v e) own)))))
        (λ e. rw (e, on_back) (test (eqb v a.value) (λ q. rw q (answer-plain a a from P)) (λ q. rw q (still-plain a P))))

  add-link-plain : PlainStep (on_add_link a from)
  unfolding on_add_link informing
  add-link-plain =
      answer-plain a _ from
      (plain-agent _ P.listens
      (λ k out. at-cases (λ b. b ≡ false) a.informs from true k
      (λ q. absurd (false≢true (sym out ∙ rw q inside))) (λ _. P.informs k out))
      P.view (stored a P))

  pub react-plain : (m : Message) → within max_domain a.value ≡ true → PlainMessage m → PlainStep (react s bans a from m)
  unfolding react
  react-plain (Info v) own M = info-plain v
  react-plain (Back lhs v) own M = back-plain lhs v M own
  react-plain AddLink own M = add-link-plain
