-- A delivery's answer is settled by four tests. On two networks alike in the receiver, with the same message next, each comes out the same where
-- shape, verdict and room agree: numbers are known without n, and room is room on the receiver's own lines.
use Rattle.std.proofs.Common.{ℕ, ◌≡◌, refl, sym, ◌∙◌, Bool, true, false, not, ◌&&◌, cond, List, ◌∷◌, eqb}
use borrow.Author.Tests.{eqb-false, not-true}
use Rattle.model_base.specs.Finite.{within}
use Rattle.model_base.proofs.Tests.{test, both, within-true}
use Rattle.model_base.proofs.Peeling.{all_to-same}
use Rattle.model_sheet.specs.Problem.{max_agents}
use Rattle.model_agent.specs.Message.{Message}
use Rattle.model_network.specs.Network.{Network, step_on, handed}
use Rattle.model_network.specs.Shape.{in_shape}
use Rattle.model_network.specs.Delivery.{
  BadShape,
  BadNumbers,
  VerdictStands,
  NoRoom,
  Answer,
  Accepted,
  Rejected,
  Delivery,
  rejecting,
  numbers_good,
  fits,
  deliver_head,
  deliver,
}
use Rattle.theorems_isolation.specs.Tenants.{NamingAbove, Alike, SameRest}
use Rattle.theorems_isolation.proofs.Acting.{same_self, same-bans}
use Rattle.theorems_isolation.proofs.Room.{fits-mine}
use Rattle.theorems_isolation.proofs.Numbers.{numbers-known}

-- ---- one network

-- in shape, good numbers, a verdict, and what the head of the line is answered
judged : Bool → Bool → Bool → Answer → Answer
judged shape numbers unsolvable head =
    cond shape (cond numbers (cond unsolvable (Rejected VerdictStands) head) (Rejected BadNumbers)) (Rejected BadShape)

by_tests : (w : Network) (i j : ℕ)
    → (deliver w i j).answer ≡ judged (in_shape w) (numbers_good w i j) w.unsolvable (deliver_head w i j (w.channel i j)).answer
unfolding deliver rejecting judged
by_tests w i j =
    test (in_shape w)
    (λ s. test (numbers_good w i j) (λ g. rw (s, deliver, g) (last w.unsolvable)) (λ g. rw (s, deliver, g)))
    (λ s. rw (s, deliver))
  where
    last : (unsolvable : Bool)
        → (elim unsolvable as (λ b. Delivery) [ true ↦ rejecting VerdictStands w | false ↦ deliver_head w i j (w.channel i j) ]).answer
        ≡ cond unsolvable (Rejected VerdictStands) (deliver_head w i j (w.channel i j)).answer
    last true = refl
    last false = refl

-- a test counts only where those before it let it
same-judged : {s s' g g' v v' : Bool} {h h' : Answer} → s ≡ s' → (s' ≡ true → g ≡ g') → v ≡ v' → (s' ≡ true → g' ≡ true → h ≡ h')
    → judged s g v h ≡ judged s' g' v' h'
unfolding judged
same-judged {s' = s'} {g' = g'} shape numbers unsolvable head =
    test s'
    (λ s. test g'
    (λ g. rw (shape, s, numbers s, g, unsolvable, head s g))
    (λ g. rw (shape, s, numbers s, g)))
    (λ s. rw (shape, s))

-- the last test: there is room
head-by-room : (w : Network) (i j : ℕ) (m : Message) (others : List Message)
    → (deliver_head w i j (m ∷ others)).answer ≡ cond (fits (handed w i j m others)) Accepted (Rejected NoRoom)
unfolding deliver_head rejecting
head-by-room w i j m others = test (fits (handed w i j m others)) (λ f. rw (f, deliver_head)) (λ f. rw (f, deliver_head))

-- ---- two networks

module _ (j : ℕ) (w v : Network) (A : Alike NamingAbove j w v) (R : SameRest j w v) (i : ℕ) (m : Message) (after later : List Message)
    (e : w.channel i j ≡ m ∷ after) (f : v.channel i j ≡ m ∷ later) where
  same_step : step_on w i j m ≡ step_on v i j m
  unfolding step_on
  same_step = rw (same_self A, same-bans A, A.agent)

  same-numbers : in_shape v ≡ true → numbers_good w i j ≡ numbers_good v i j
  same-numbers s = numbers-known w (R.shape ∙ s) i j m after e ∙ sym (numbers-known v s i j m later f)

  same-room : in_shape v ≡ true → numbers_good v i j ≡ true → fits (handed w i j m after) ≡ fits (handed v i j m later)
  unfolding numbers_good
  same-room s g =
      let known = rw (numbers-known v s i j m later f) at g in
      let (i₁, i₂) = within-true max_agents i (both (within max_agents i) (within max_agents j) known).0 in
      let (j₁, j₂) = within-true max_agents j (both (within max_agents i) (within max_agents j) known).1 in
      let apart = eqb-false i j (not-true (eqb i j) (both (within v.problem.count i && within v.problem.count j) (not (eqb i j)) g).1) in
      rw
      (fits-mine w (R.shape ∙ s) i j m after e i₁ i₂ j₁ j₂ apart, fits-mine v s i j m later f i₁ i₂ j₁ j₂ apart, same_step)
      (all_to-same max_agents _ _ (λ y y₁ y₂. rw (R.room y y₁ y₂)))

  same_head : in_shape v ≡ true → numbers_good v i j ≡ true
      → (deliver_head w i j (w.channel i j)).answer ≡ (deliver_head v i j (v.channel i j)).answer
  same_head s g = rw (e, f, head-by-room w i j m after, head-by-room v i j m later, same-room s g)

  pub same_answer : (deliver w i j).answer ≡ (deliver v i j).answer
  same_answer =
      by_tests w i j ∙ same-judged R.shape same-numbers R.unsolvable same_head ∙ sym (by_tests v i j)
