-- In a window of k stale values die out: after three rounds for each agent, all know the frozen agents by their values or not at all.
-- From the last agent up the order: once all behind b are clean, one round makes the Backs into b tidy, and two more make b clean.
use Rattle.std.proofs.Common.{◌≡◌, refl, sym, ◌∙◌, ◌⊎◌, inl, inr, ⊎_elim, List, ◌∷◌, ◌&&◌, not, ℕ, zero, suc, ◌+◌, ◌*◌, ◌≤◌, ◌<◌, arith, eqb, ltb, leb, eqb-true, ltb-true, ltb-false, leb-true, leb-false}
use mathlib.Core.Bool.{false≢true}
use borrow.Author.Tests.{eqb-false}
use Rattle.model_base.proofs.Tests.{test}
use Rattle.model_base.proofs.Search.{at_same, at_other}
use Rattle.model_base.proofs.Lists.{All, All-map, any-all}
use Rattle.model_sheet.specs.Problem.{Problem}
use Rattle.model_agent.specs.Message.{Assignment, known, Message, Info, Back, AddLink}
use Rattle.model_agent.specs.Sorts.{Refuses}
use Rattle.theorems_agent.specs.Facts.{busy_view}
use Rattle.model_network.specs.Network.{Network}
use Rattle.model_network.specs.Run.{Line}
use Rattle.theorems_network.specs.Calls.{replay}
use Rattle.theorems_network.proofs.Moves.{Waits, Invariant}
use Rattle.theorems_network.proofs.Rounds.{Full}
use Rattle.theorems_network.proofs.Windows.{
  Act,
  receiver,
  view_then,
  sent_in,
  Busily,
  Quietly,
  all-sent,
  all-last,
  Window,
  Stable,
  last,
  along,
  leave,
}
use Rattle.theorems_network.proofs.Bounds.{Bound, weaken, stage}
use Rattle.theorems_network.proofs.Views.{Carries, TidyMessage}
use Rattle.theorems_network.proofs.Learn.{Frozen, Tidy, Late, Learnt, Learner, learn}

-- ---- the frozen agents keep their values

pub freeze : (p : Problem) (k c : ℕ) → ((σ : Assignment) → Bound p k (Frozen p k σ) c) → Bound p k (Invariant p) c
freeze p k c B ds w r P R =
    B σ ds w r (along p k (Invariant p) Values (Frozen p k σ) kept (λ w i v. record { invariant = i; values = v }) ds w P (λ x xl. refl)) R
  where
    σ : Assignment
    σ x = (w.agents x).value

    Values : Network → Type 0
    Values w = (x : ℕ) → x ≤ k → (w.agents x).value ≡ σ x

    kept : Stable p k (Invariant p) Values
    kept A i i' v x xl =
        test (eqb x A.line.to)
        (λ u. let q = eqb-true x A.line.to u in
        rw (q, A.move.handing.mine) ((A.move.facts.quiet (A.still (omega (arith, q)))).value ∙ rw q at (v x xl)))
        (λ u. rw (A.move.handing.others x (eqb-false x A.line.to u)) (v x xl))

module _ (p : Problem) (k : ℕ) (σ : Assignment) where
  -- ---- clean agents

  -- b knows the frozen agents; it may not know one only if it is not frozen itself
  abbrev pub Clean : ℕ → Network → Type 0
  Clean b w = (x : ℕ) → x ≤ k → Learnt (k < b) σ b x w

  cleaner : (E : Network → Type 0) (b : ℕ) → ((w : Network) → E w → Frozen p k σ w × Tidy k σ b w) → Learner p k σ E b (k < b)
  cleaner E b f =
      record {
        frozen = λ w e. (f w e).0;
        tidy = λ w e. (f w e).1;
        sending = λ A e e' q c x xl a. unless (λ le. false≢true (sym (A.still (omega (arith, q))) ∙ c));
        waiting = λ w e x xl l a. unless (λ le. any-all (Refuses (σ x)) (Late k b) (early le x) (w.channel b x) a l);
      }
    where
      unless : (b ≤ k → ⊥) → k < b
      unless f = test (leb b k) (λ u. absurd (f (leb-true b k u))) (λ u. leb-false b k u)

      early : b ≤ k → (x : ℕ) (m : Message) → Refuses (σ x) m → Late k b m → ⊥
      early le x (Info v) r l = r
      early le x (Back lhs v) r l = omega arith
      early le x AddLink r l = r

  -- what a clean agent with tidy Backs knows of a frozen one, right after the message
  module _ (A : Act p k) (f : Frozen p k σ A.old) (t : Tidy k σ A.line.to A.old) (c : Clean A.line.to A.old) where
    known-before : (x : ℕ) → x ≤ k → ((receiver A).view x ≡ 0) ⊎ ((receiver A).view x ≡ σ x)
    unfolding known
    known-before x xl =
        test ((receiver A).listens x)
        (λ l. ⊎_elim (λ q. inr q) (λ q. inl q.0) ((c x xl).1 l))
        (λ l. test (known ((receiver A).view x))
        (λ q. absurd (false≢true (sym l ∙ (f.invariant.good A.line.to A.move.to_in.0 A.move.to_in.1).viewed x q)))
        (λ q. inl (omega (arith, ltb-false 0 ((receiver A).view x) q))))

    pub known-right : (x : ℕ) → x ≤ k → (view_then A x ≡ 0) ⊎ (view_then A x ≡ σ x)
    known-right x xl = go A.move.message (rw A.move.handing.head at (t A.line.from)).0 told
      where
        told : x ≡ A.line.from → Carries (σ x) A.move.message
        told q =
            let h : A.old.channel x A.line.to ≡ A.move.message ∷ A.new.channel x A.line.to = rw q A.move.handing.head in
            (rw h at (c x xl).0).0

        go : (m : Message) → TidyMessage k σ m → (x ≡ A.line.from → Carries (σ x) m)
            → (busy_view (receiver A) A.line.from m x ≡ 0) ⊎ (busy_view (receiver A) A.line.from m x ≡ σ x)
        go (Info v) h z =
            test (eqb x A.line.from)
            (λ u. let q = eqb-true x A.line.from u in inr (rw (q, at_same) (rw q at (z q))))
            (λ u. rw (at_other (receiver A).view A.line.from v x (eqb-false x A.line.from u)) (known-before x xl))
        go (Back lhs v) h z =
            test (known (lhs x) && not ((receiver A).listens x)) (λ u. rw u (h x xl)) (λ u. rw u (known-before x xl))
        go AddLink h z = known-before x xl

    -- what it sends is tidy
    send-tidy : (y : ℕ) → All (TidyMessage k σ) (sent_in A y)
    send-tidy y = all-sent A y (TidyMessage k σ) (λ q. busy) quiet
      where
        busy : (m : Message) → Busily A y m → TidyMessage k σ m
        busy (Info v) h = tt
        busy (Back lhs v) h = λ x xl. ⊎_elim (λ q. inl q) (λ q. rw q (known-right x xl)) (h.0.1.inside x)
        busy AddLink h = tt

        quiet : (m : Message) → Quietly A y m → TidyMessage k σ m
        quiet (Info v) h = tt
        quiet (Back lhs v) h = absurd h
        quiet AddLink h = tt

  -- down the order no Back goes
  down-tidy : (w : Network) → Invariant p w → (i b : ℕ) → i ≤ b → All (TidyMessage k σ) (w.channel i b)
  down-tidy w I i b le = All-map _ _ none (w.channel i b) (I.links.waiting i b)
    where
      none : (m : Message) → Waits p w.agents i b m → TidyMessage k σ m
      none (Info v) h = tt
      none (Back lhs v) h = absurd (omega (arith, (I.links.lower i b h.0).1))
      none AddLink h = tt

  -- ---- from the last agent up the order

  -- the agents behind b
  pub record Settled (b : ℕ) (w : Network) : Type 0 where
    pub frozen : Frozen p k σ w
    pub tidy : (c : ℕ) → b < c → c ≤ p.count → Tidy k σ c w
    pub clean : (c : ℕ) → b < c → c ≤ p.count → Clean c w

  -- .. send tidy Backs
  tidy-sent : (b : ℕ) (A : Act p k) → Settled b A.old → b < A.line.to → (y : ℕ) → All (TidyMessage k σ) (sent_in A y)
  tidy-sent b A s l =
      send-tidy A s.frozen (s.tidy A.line.to l A.move.to_in.1) (s.clean A.line.to l A.move.to_in.1)

  tidy-lasts : (b : ℕ) → Stable p k (Settled b) (Tidy k σ b)
  tidy-lasts b A s s' t i =
      test (ltb b i)
      (λ u. all-last A i b (TidyMessage k σ) (λ q. tidy-sent b A s (omega (arith, q, ltb-true b i u)) b) (t i))
      (λ u. down-tidy A.new s'.frozen.invariant i b (ltb-false b i u))

  tidy-round : (b : ℕ) (a : List Line) (w : Network) → Window p k (Settled b) a w → Full a w → Tidy k σ b (replay a w)
  tidy-round b a w P F i =
      test (ltb b i)
      (λ u. leave p k (Settled b) i b (TidyMessage k σ) (λ A s q. tidy-sent b A s (omega (arith, q, ltb-true b i u)) b) a w P F)
      (λ u. down-tidy (replay a w) (last p k (Settled b) a w P).frozen.invariant i b (ltb-false b i u))

  settle-one : (b c : ℕ) → Bound p k (Settled b) c → Bound p k (Settled (suc b)) (suc (suc (suc c)))
  settle-one b c B =
      stage p k (Settled (suc b)) (Tidy k σ (suc b)) E (suc (suc c)) (tidy-lasts (suc b)) (tidy-round (suc b)) (λ w s t. (s, t))
      (learn p k σ E (suc b) (k < suc b) (cleaner E (suc b) (λ w e. (e.0.frozen, e.1))) (Settled b) c with-one B)
    where
      E : Network → Type 0
      E w = Settled (suc b) w × Tidy k σ (suc b) w

      -- agent b + 1 or one behind it
      either : (T : ℕ → Type 0) → T (suc b) → ((c : ℕ) → suc b < c → c ≤ p.count → T c) → (c : ℕ) → b < c → c ≤ p.count → T c
      either T t f c l le =
          test (eqb c (suc b)) (λ u. rw (eqb-true c (suc b) u) t) (λ u. f c (omega (arith, eqb-false c (suc b) u)) le)

      with-one : (w : Network) → E w → Clean (suc b) w → Settled b w
      with-one w e q =
          record {
            frozen = e.0.frozen;
            tidy = either (λ c. Tidy k σ c w) e.1 e.0.tidy;
            clean = either (λ c. Clean c w) q e.0.clean;
          }

  settle-all : (c b : ℕ) → Bound p k (Settled 0) c → Bound p k (Settled b) (3 * b + c)
  settle-all c zero B ds w r P R = omega (arith, B ds w r P R)
  settle-all c (suc b) B ds w r P R = omega (arith, settle-one b (3 * b + c) (settle-all c b B) ds w r P R)

  pub settle : (c : ℕ) → Bound p k (Settled 0) c → Bound p k (Frozen p k σ) (3 * p.count + c)
  settle c B = weaken p k (Frozen p k σ) (Settled p.count) (3 * p.count + c) none (settle-all c p.count B)
    where
      none : (w : Network) → Frozen p k σ w → Settled p.count w
      none w f = record { frozen = f; tidy = λ c l le. absurd (omega arith); clean = λ c l le. absurd (omega arith) }
