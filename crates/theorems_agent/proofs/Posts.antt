-- What each channel gets where one message goes to each agent of a range that passes a test: the Infos of a value taken, the link requests, an
-- answer. It gets the message once, or nothing.
use Rattle.std.proofs.Common.{◌≡◌, refl, sym, ◌∙◌, ◌≢◌, List, [], ◌∷◌, Bool, true, false, ℕ, zero, suc, ◌+◌, ◌-◌, ◌≤◌, ◌<◌, arith, length, eqb, eqb-true, eq-eqb, ne_eqb}
use mathlib.Core.Bool.{false≢true}
use borrow.Author.Tests.{eqb-false}
use Rattle.model_base.specs.Finite.{gather}
use Rattle.model_base.proofs.Tests.{test, eq_test}
use Rattle.model_base.proofs.Lists.{All}
use Rattle.model_sheet.specs.Problem.{max_agents}
use Rattle.model_agent.specs.Message.{Assignment, Message, Info, AddLink, Post, sent_to}
use Rattle.model_agent.specs.Agent.{Self, Agent, above}
use Rattle.model_agent.specs.Choosing.{tells, info_to, infos}
use Rattle.model_agent.specs.Receiving.{answer, unheard, add_link_to, add_links}
use Rattle.model_agent.specs.Sorts.{IsInfo, Not}
use Rattle.model_agent.proofs.Messages.{sent_to-append}
use Rattle.theorems_agent.specs.Facts.{TellsSender}

-- a channel gets the message q, where its receiver is one of those gone through and passes; else nothing
pub data Gets (q : Message) (passes : Bool) (Inside : Type 0) (l : List Message) : Type 0 where
  nothing : l ≡ [] → (Inside → passes ≡ false) → Gets q passes Inside l
  once : l ≡ q ∷ [] → Inside → passes ≡ true → Gets q passes Inside l

pub gets-all : {q : Message} {passes : Bool} {Inside : Type 0} {l : List Message} → Gets q passes Inside l
    → (P : Message → Type 0) → (Inside → passes ≡ true → P q) → All P l
gets-all (nothing e f) P h = rw e tt
gets-all (once e i p) P h = rw e (h i p, tt)

pub gets-one : {q : Message} {passes : Bool} {Inside : Type 0} {l : List Message} → Gets q passes Inside l
    → Inside → passes ≡ true → l ≡ q ∷ []
gets-one (nothing e f) i p = absurd (false≢true (sym (f i) ∙ p))
gets-one (once e _ _) i p = e

pub gets_none : {q : Message} {passes : Bool} {Inside : Type 0} {l : List Message} → Gets q passes Inside l → (Inside → passes ≡ false)
    → l ≡ []
gets_none (nothing e f) n = e
gets_none (once e i p) n = absurd (false≢true (sym (n i) ∙ p))

pub gets-few : {q : Message} {passes : Bool} {Inside : Type 0} {l : List Message} → Gets q passes Inside l → length l ≤ 1
gets-few (nothing e f) = rw e (omega arith)
gets-few (once e i p) = rw e (omega arith)

gets-map : {q : Message} {passes : Bool} {I J : Type 0} {l : List Message} → (I → J) → (J → I) → Gets q passes I l → Gets q passes J l
gets-map f g (nothing e n) = nothing e (λ j. n (g j))
gets-map f g (once e i p) = once e (f i) p

-- ---- agents gone through upward

-- the posts to agent k: the message where k passes, else nothing
record Each (passes : ℕ → Bool) (q : Message) (posts : ℕ → List Post) : Type 0 where
  hit : (k : ℕ) → passes k ≡ true → posts k ≡ record { to = k; message = q } ∷ []
  miss : (k : ℕ) → passes k ≡ false → posts k ≡ []

module _ (passes : ℕ → Bool) (q : Message) (posts : ℕ → List Post) (each : Each passes q posts) where
  to-another : (k y : ℕ) → y ≢ k → sent_to y (posts k) ≡ []
  unfolding sent_to
  to-another k y n = test (passes k) (λ e. rw (each.hit k e, ne_eqb y k n, sent_to)) (λ e. rw (each.miss k e))

  to-it : (k : ℕ) → passes k ≡ true → sent_to k (posts k) ≡ q ∷ []
  unfolding sent_to
  to-it k e = rw (each.hit k e, eq-eqb k k refl, sent_to)

  to-lower : (m k y : ℕ) → y < k → sent_to y (gather m k posts) ≡ []
  unfolding gather sent_to
  to-lower zero k y l = refl
  to-lower (suc m) k y l =
      rw (sent_to-append y (posts k) (gather m (suc k) posts), to-another k y (omega arith), to-lower m (suc k) y (omega arith))

  gathered : (m k y : ℕ) → Gets q (passes y) ((k ≤ y) × (y < k + m)) (sent_to y (gather m k posts))
  unfolding gather sent_to
  gathered zero k y = nothing refl (λ i. absurd (omega arith))
  gathered (suc m) k y =
      rw (sent_to-append y (posts k) (gather m (suc k) posts))
      (eq_test y k
      (λ u. rw (to-lower m (suc k) y (omega arith), u)
      (test (passes k) (λ e. once (rw (to-it k e)) (omega arith) e) (λ e. nothing (rw (each.miss k e)) (λ _. e))))
      (λ u. rw (to-another k y u) (gets-map (λ i. omega arith) (λ i. omega arith) (gathered m (suc k) y))))

-- ---- the Infos of a value taken

pub infos-get : (s : Self) (a : Agent) (refuser v y : ℕ)
    → Gets (Info v) (tells s a refuser v y) ((s.number < y) × (y ≤ max_agents)) (sent_to y (infos s a refuser v))
unfolding infos info_to
infos-get s a refuser v y =
    gets-map (λ i. omega arith) (λ i. omega arith)
    (gathered (tells s a refuser v) (Info v) (info_to s a refuser v) (record { hit = λ k e. rw (e, info_to); miss = λ k e. rw (e, info_to) })
    (max_agents - s.number) (suc s.number) y)

-- ---- link requests

pub requests-get : (s : Self) (a : Agent) (lhs : Assignment) (y : ℕ)
    → Gets AddLink (unheard a lhs y) ((1 ≤ y) × (y ≤ above s)) (sent_to y (add_links s a lhs))
unfolding add_links add_link_to
requests-get s a lhs y =
    gets-map (λ i. omega arith) (λ i. omega arith)
    (gathered (unheard a lhs) AddLink (add_link_to a lhs) (record { hit = λ k e. rw (e, add_link_to); miss = λ k e. rw (e, add_link_to) })
    (above s) 1 y)

-- ---- an answer

pub answer-get : (a : Agent) (from y : ℕ) → Gets (Info a.value) true (y ≡ from) (sent_to y (answer a from))
unfolding answer sent_to
answer-get a from y =
    test (eqb y from)
    (λ u. once (rw (u, sent_to)) (eqb-true y from u) refl)
    (λ u. nothing (rw (u, sent_to)) (λ e. absurd (eqb-false y from u e)))

pub answer-sent : (a : Agent) (from : ℕ) (m : Message) → Not IsInfo m → (y : ℕ) → All (TellsSender a from m y) (sent_to y (answer a from))
answer-sent a from m n y = gets-all (answer-get a from y) (TellsSender a from m y) (λ e _. (refl, (e, n)))

pub answer-some : (a : Agent) (from : ℕ) → sent_to from (answer a from) ≢ []
answer-some a from e =
    let q : Info a.value ∷ [] ≡ [] = sym (gets-one (answer-get a from from) refl refl) ∙ e in
    let z : ◌≡◌ {A = ℕ} 0 1 = cc in
    omega arith
