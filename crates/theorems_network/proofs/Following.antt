-- In a settled window of k no Back waits that refuses a frozen agent's value; two rounds later agent k + 1 knows those it listens to.
-- A full round would hand such a Back to its receiver, which would choose: so the last round is given up. Then agent k + 1 forgets no one.
use Rattle.std.proofs.Common.{◌≡◌, refl, sym, ◌∙◌, ◌⊎◌, inl, inr, ⊎_elim, List, [], ◌∷◌, true, ℕ, suc, ◌+◌, ◌*◌, ◌≤◌, ◌<◌, arith, eqb, eqb-true}
use mathlib.Core.Bool.{false≢true}
use borrow.Author.Tests.{eqb-false}
use Rattle.model_base.proofs.Tests.{test}
use Rattle.model_base.proofs.Lists.{All, Any, any-right, any-all}
use Rattle.model_sheet.specs.Problem.{Problem}
use Rattle.model_agent.specs.Message.{Assignment, known, Message, Info, Back, AddLink}
use Rattle.model_agent.specs.Sorts.{Not, Refuses}
use Rattle.model_agent.proofs.Assignments.{unknown}
use Rattle.model_network.specs.Network.{Network}
use Rattle.model_network.specs.Run.{Line}
use Rattle.theorems_network.proofs.Moves.{Waits}
use Rattle.theorems_network.proofs.Rounds.{Rounds}
use Rattle.theorems_network.proofs.Windows.{chose, Act, receiver, view_then, sent_in, Busily, busily, Window}
use Rattle.theorems_network.proofs.Bounds.{Bound, never-waits, ahead}
use Rattle.theorems_network.proofs.Views.{TidyMessage}
use Rattle.theorems_network.proofs.Learn.{Frozen, Learnt, Learner, learn}
use Rattle.theorems_network.proofs.Settling.{known-right, Settled, settle}

refused? : (v : ℕ) (l : List Message) → Any (Refuses v) l ⊎ All (Not (Refuses v)) l
refused? v [] = inr tt
refused? v (m ∷ ms) = ⊎_elim (λ h. inl (inr h)) (λ h. ⊎_elim (λ g. inl (inl g)) (λ g. inr (g, h)) (one m)) (refused? v ms)
  where
    one : (m : Message) → Refuses v m ⊎ Not (Refuses v) m
    one (Info u) = inr (λ h. h)
    one (Back lhs u) = test (eqb u v) (λ q. inl (eqb-true u v q)) (λ q. inr (eqb-false u v q))
    one AddLink = inr (λ h. h)

module _ (p : Problem) (k : ℕ) (σ : Assignment) where
  -- ---- no frozen agent is refused

  -- a Back that refuses its value would make a frozen agent choose
  not-refused : (A : Act p k) → Settled p k σ 0 A.old → A.line.to ≤ k → Refuses (σ A.line.to) A.move.message → ⊥
  not-refused A s le = go A.move.message refl waits tidy
    where
      j : ℕ
      j = A.line.to

      waits : Waits p A.old.agents A.line.from j A.move.message
      waits = (rw A.move.handing.head at (s.frozen.invariant.links.waiting A.line.from j)).0

      tidy : TidyMessage k σ A.move.message
      tidy = (rw A.move.handing.head at (s.tidy j A.move.to_in.0 A.move.to_in.1 A.line.from)).0

      view : (x : ℕ) → x ≤ k → (receiver A).listens x ≡ true → (receiver A).view x ≡ σ x
      view x xl l =
          ⊎_elim (λ z. z) (λ z. absurd (omega (arith, z.1))) ((s.clean j A.move.to_in.0 A.move.to_in.1 x xl).1 l)

      go : (m : Message) → A.move.message ≡ m → Waits p A.old.agents A.line.from j m → TidyMessage k σ m → Refuses (σ j) m → ⊥
      go (Info v) q b t h = h
      go AddLink q b t h = h
      go (Back lhs v) q b t h = false≢true (sym (A.still le) ∙ A.move.facts.must lhs v q (h ∙ sym (s.frozen.values j le)) agrees)
        where
          agrees : (x : ℕ) → known (lhs x) ≡ true → (receiver A).listens x ≡ true → lhs x ≡ (receiver A).view x
          agrees x n l =
              let xl : x ≤ k = omega (arith, (b.1 x n).1) in
              ⊎_elim (λ z. unknown (rw z at n)) (λ z. z ∙ sym (view x xl l)) (t x xl)

  pub record Calm (w : Network) : Type 0 where
    pub settled : Settled p k σ 0 w
    pub unrefused : (j : ℕ) → j ≤ k → (i : ℕ) → All (Not (Refuses (σ j))) (w.channel i j)

  calm : (c : ℕ) → Bound p k Calm c → Bound p k (Settled p k σ 0) (suc c)
  calm =
      ahead p k (Settled p k σ 0) (λ w. (j : ℕ) → j ≤ k → (i : ℕ) → All (Not (Refuses (σ j))) (w.channel i j)) Calm
      none (λ w s u. record { settled = s; unrefused = u })
    where
      none : (ds : List Line) (w : Network) (r : ℕ) → Window p k (Settled p k σ 0) ds w → Rounds (suc r) ds w
          → (j : ℕ) → j ≤ k → (i : ℕ) → All (Not (Refuses (σ j))) (w.channel i j)
      none ds w r P R j le i =
          ⊎_elim
          (λ a. absurd (never-waits p k (Settled p k σ 0) i j (Refuses (σ j))
          (λ A s q h. not-refused A s (omega (arith, q)) (rw q at h)) ds w r P R a))
          (λ a. a)
          (refused? (σ j) (w.channel i j))

  -- .. nor is such a Back sent
  pub none-sent : (A : Act p k) → Calm A.old → Calm A.new → chose A.move ≡ true
      → (x : ℕ) → x ≤ k → Any (Refuses (view_then A x)) (sent_in A x) → ⊥
  none-sent A e e' c x xl a = go (known-right p k σ A s.frozen (s.tidy b l h) (s.clean b l h) x xl)
    where
      b : ℕ
      b = A.line.to

      s : Settled p k σ 0 A.old
      s = e.settled

      l : 1 ≤ b
      l = A.move.to_in.0

      h : b ≤ p.count
      h = A.move.to_in.1

      unreal : view_then A x ≡ 0 → (m : Message) → Refuses (view_then A x) m → Busily A x m → ⊥
      unreal z (Info u) r q = r
      unreal z (Back lhs u) r q = unknown (rw (r, z) at q.0.1.real)
      unreal z AddLink r q = r

      go : (view_then A x ≡ 0) ⊎ (view_then A x ≡ σ x) → ⊥
      go (inl z) = any-all (Refuses (view_then A x)) (Busily A x) (unreal z) (sent_in A x) a (busily A c x)
      go (inr z) =
          let n : Any (Refuses (σ x)) (A.new.channel b x) = rw (A.move.handing.sent x) (any-right _ (A.old.channel b x) _ (rw z at a)) in
          any-all (Refuses (σ x)) (Not (Refuses (σ x))) (λ m r n. n r) (A.new.channel b x) n (e'.unrefused x xl b)

  -- ---- the next agent follows

  pub record Following (w : Network) : Type 0 where
    pub calm : Calm w
    pub follows : (x : ℕ) → x ≤ k → Learnt ⊥ σ (suc k) x w

  follower : k < p.count → Learner p k σ Calm (suc k) ⊥
  follower l =
      record {
        frozen = λ w e. e.settled.frozen;
        tidy = λ w e. e.settled.tidy (suc k) (omega arith) l;
        sending = λ A e e' q c. none-sent A e e' c;
        waiting = λ w e x xl _ a.
            any-all (Refuses (σ x)) (Not (Refuses (σ x))) (λ m r n. n r) (w.channel (suc k) x) a (e.unrefused x xl (suc k));
      }

  pub follow : (c : ℕ) → k < p.count → Bound p k Following c → Bound p k (Frozen p k σ) (3 * p.count + suc (suc (suc c)))
  follow c l B =
      settle p k σ (suc (suc (suc c))) (calm (suc (suc c))
      (learn p k σ Calm (suc k) ⊥ (follower l) Following c (λ w e f. record { calm = e; follows = f }) B))
