-- The receiver's view of an agent x after a move: what it was or what the message tells; or unknown, and then a Back refuses what it was.
-- And a view with the channel that feeds it: where only right Infos are sent, the view is right once the messages are in that waited before.
use Rattle.std.proofs.Common.{◌≡◌, refl, sym, ◌∙◌, ◌⊎◌, inl, inr, ⊎_elim, List, [], ◌∷◌, ◌++◌, true, false, cond, ℕ, zero, suc, pred, ◌≤◌, length, eqb, eqb-true, eq-eqb}
use mathlib.Core.Bool.{and-true, false≢true}
use borrow.Author.Tests.{eqb-false}
use Rattle.model_base.proofs.Tests.{test}
use Rattle.model_base.proofs.Lists.{All, All-append, Any}
use Rattle.model_sheet.specs.Problem.{Problem}
use Rattle.model_agent.specs.Message.{Assignment, Message, Info, Back, AddLink}
use Rattle.model_agent.specs.Sorts.{Refuses, after_one, seen}
use Rattle.model_agent.proofs.Assignments.{unknown}
use Rattle.theorems_agent.specs.Facts.{quiet_view, busy_view, Names}
use Rattle.model_network.specs.Run.{Line, is_line}
use Rattle.theorems_network.proofs.Steps.{view-sender, view-other, view-listened}
use Rattle.theorems_network.proofs.Windows.{chose, Act, receiver, view_then, sent_in}

-- ---- what messages tell of frozen agents, those up to k, which have the values σ

-- if an Info, of value v
abbrev pub Carries : ℕ → Message → Type 0
Carries v (Info u) = u ≡ v
Carries v (Back lhs u) = Unit {0}
Carries v AddLink = Unit {0}

-- if a Back, with a left side that names frozen agents by their values
abbrev pub TidyMessage : ℕ → Assignment → Message → Type 0
TidyMessage k σ (Info v) = Unit {0}
TidyMessage k σ (Back lhs v) = (x : ℕ) → x ≤ k → (lhs x ≡ 0) ⊎ (lhs x ≡ σ x)
TidyMessage k σ AddLink = Unit {0}

-- ---- a view v and the channel that feeds it: once the first n messages are in, v has T, and all later Infos are of u

abbrev pub Feeds : (ℕ → Type 0) → ℕ → ℕ → ℕ → List Message → Type 0
Feeds T u zero v l = T v × All (Carries u) l
Feeds T u (suc n) v [] = T v
Feeds T u (suc n) v (m ∷ ms) = Feeds T u n (after_one v m) ms

module _ (T : ℕ → Type 0) (u : ℕ) (Tu : T u) where
  pub feeds-all : (v : ℕ) (l : List Message) → T (seen v l) → Feeds T u (length l) v l
  unfolding seen
  feeds-all v [] h = (h, tt)
  feeds-all v (m ∷ ms) h = feeds-all (after_one v m) ms h

  fed : (v : ℕ) (m : Message) → T v → Carries u m → T (after_one v m)
  unfolding after_one
  fed v (Info t) h c = rw c Tu
  fed v (Back lhs t) h c = h
  fed v AddLink h c = h

  feeds-new : (n v : ℕ) (q : List Message) → T v → All (Carries u) q → Feeds T u n v q
  feeds-new zero v q h c = (h, c)
  feeds-new (suc n) v [] h c = h
  feeds-new (suc n) v (m ∷ ms) h c = feeds-new n (after_one v m) ms (fed v m h c.0) c.1

  pub feeds-put : (n v : ℕ) (l q : List Message) → Feeds T u n v l → All (Carries u) q → Feeds T u n v (l ++ q)
  feeds-put zero v l q h c = (h.0, All-append (Carries u) l q h.1 c)
  feeds-put (suc n) v [] q h c = feeds-new (suc n) v q h c
  feeds-put (suc n) v (m ∷ ms) q h c = feeds-put n (after_one v m) ms q h c

  pub feeds-hit : (n v : ℕ) (m : Message) (ms : List Message) → Feeds T u n v (m ∷ ms) → Feeds T u (pred n) (after_one v m) ms
  feeds-hit zero v m ms h = (fed v m h.0 h.1.0, h.1.1)
  feeds-hit (suc n) v m ms h = h

  pub feeds-forget : T 0 → (n v : ℕ) (l : List Message) → Feeds T u n v l → Feeds T u n 0 l
  unfolding after_one
  feeds-forget z zero v l h = (z, h.1)
  feeds-forget z (suc n) v [] h = z
  feeds-forget z (suc n) v (Info t ∷ ms) h = h
  feeds-forget z (suc n) v (Back lhs t ∷ ms) h = feeds-forget z n v ms h
  feeds-forget z (suc n) v (AddLink ∷ ms) h = feeds-forget z n v ms h

-- ---- the receiver's view of x after a move

own_line : (d : Line) (x : ℕ) → is_line x d.to d ≡ eqb x d.from
unfolding is_line
own_line d x = rw (eq-eqb d.to d.to refl) (and-true (eqb x d.from))

module _ (p : Problem) (k : ℕ) (A : Act p k) (x : ℕ) where
  -- it chooses, and refuses what it knew
  abbrev pub Refusing : Type 0
  Refusing = (A.move.step.agent.view x ≡ 0) × (chose A.move ≡ true) × Any (Refuses (view_then A x)) (sent_in A x)

  pub heard-before : (receiver A).listens x ≡ true
      → (A.move.step.agent.view x
      ≡ cond (is_line x A.line.to A.line) (after_one ((receiver A).view x) A.move.message) ((receiver A).view x))
      ⊎ Refusing
  heard-before l =
      rw (own_line A.line x) (test (chose A.move)
      (λ c. ⊎_elim (λ v. inl (v ∙ view-listened (receiver A) A.line.from A.move.message x l ∙ now)) (λ v. inr (v.0, c, v.1)) ((A.move.facts.busy c).view x))
      (λ c. inl ((A.move.facts.quiet c).view x ∙ now)))
    where
      now : quiet_view (receiver A) A.line.from A.move.message x
          ≡ cond (eqb x A.line.from) (after_one ((receiver A).view x) A.move.message) ((receiver A).view x)
      now =
          test (eqb x A.line.from)
          (λ u. let e = eqb-true x A.line.from u in rw (u, e) (view-sender (receiver A) A.line.from A.move.message))
          (λ u. rw u (view-other (receiver A) A.line.from A.move.message x (eqb-false x A.line.from u)))

  -- newly listened to: from a tidy left side
  pub heard-new : (σ : Assignment) → x ≤ k → TidyMessage k σ A.move.message → (receiver A).listens x ≡ false
      → A.move.step.agent.listens x ≡ true → (A.move.step.agent.view x ≡ σ x) ⊎ Refusing
  heard-new σ xl t l l' =
      test (chose A.move) busy (λ c. absurd (false≢true (sym l ∙ rw (A.move.facts.quiet c).listens at l')))
    where
      named : (m : Message) → TidyMessage k σ m → Names m x → busy_view (receiver A) A.line.from m x ≡ σ x
      named (Info v) t n = absurd n
      named (Back lhs v) t n = rw (n, l) (⊎_elim (λ z. unknown (rw z at n)) (λ z. z) (t x xl))
      named AddLink t n = absurd n

      busy : chose A.move ≡ true → (A.move.step.agent.view x ≡ σ x) ⊎ Refusing
      busy c =
          ⊎_elim
          (λ v. inl (v ∙ named A.move.message t
          (⊎_elim (λ z. absurd (false≢true (sym l ∙ z))) (λ z. z) (A.move.handing.links.hears x l'))))
          (λ v. inr (v.0, c, v.1))
          ((A.move.facts.busy c).view x)
