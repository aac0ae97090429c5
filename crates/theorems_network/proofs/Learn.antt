-- Two full rounds bring what an agent b knows of the frozen agents, those up to k, up to date, as long as the Backs into b are tidy.
-- In the first its AddLinks are handled, so that it is informed; in the second the Infos that waited before. What is learnt lasts.
use Rattle.std.proofs.Common.{◌≡◌, refl, sym, ◌∙◌, ◌⊎◌, inl, inr, ⊎_elim, List, Bool, true, false, cond, ℕ, suc, pred, ◌≤◌, ◌<◌, arith, eqb, leb, eqb-true, leb-true, leb-false}
use mathlib.Core.Bool.{and-false, false≢true}
use borrow.Author.Tests.{eqb-false}
use Rattle.model_base.proofs.Tests.{test}
use Rattle.model_base.proofs.Lists.{All, All-map, Any, any-all}
use Rattle.model_sheet.specs.Problem.{Problem}
use Rattle.model_agent.specs.Message.{Assignment, Message, Info, Back, AddLink}
use Rattle.model_agent.specs.Sorts.{IsAddLink, Refuses, after_one, seen}
use Rattle.model_network.specs.Network.{Network}
use Rattle.model_network.specs.Run.{Line, is_line}
use Rattle.theorems_network.specs.Calls.{replay}
use Rattle.theorems_shape.proofs.Handing.{hit, put, rest}
use Rattle.theorems_network.proofs.Moves.{Waits, Linked, Invariant}
use Rattle.theorems_network.proofs.Rounds.{Full}
use Rattle.theorems_network.proofs.Windows.{
  chose,
  Act,
  view_then,
  sent_in,
  Busily,
  Quietly,
  all-sent,
  On,
  on,
  all-last,
  Window,
  Stable,
  Awaits,
  first,
  last,
  along,
  lasts,
  served,
  leave,
}
use Rattle.theorems_network.proofs.Bounds.{Bound, stage}
use Rattle.theorems_network.proofs.Views.{
  Carries,
  TidyMessage,
  Feeds,
  feeds-all,
  feeds-put,
  feeds-hit,
  feeds-forget,
  heard-before,
  heard-new,
}

-- ---- what is frozen, and what is known of it

pub record Frozen (p : Problem) (k : ℕ) (σ : Assignment) (w : Network) : Type 0 where
  pub invariant : Invariant p w
  pub values : (x : ℕ) → x ≤ k → (w.agents x).value ≡ σ x

abbrev pub Tidy : ℕ → Assignment → ℕ → Network → Type 0
Tidy k σ b w = (i : ℕ) → All (TidyMessage k σ) (w.channel i b)

-- what b sends to an agent that it listens to: no AddLink, and a Back only if b is not frozen itself
abbrev pub Late : ℕ → ℕ → Message → Type 0
Late k b (Info v) = Unit {0}
Late k b (Back lhs v) = k < b
Late k b AddLink = ⊥

-- x is known by its value or, where there may be doubt, unknown
abbrev pub Knows : Type 0 → Assignment → ℕ → ℕ → Type 0
Knows Doubt σ x v = (v ≡ σ x) ⊎ ((v ≡ 0) × Doubt)

-- b is up to date of x
abbrev pub Learnt : Type 0 → Assignment → ℕ → ℕ → Network → Type 0
Learnt Doubt σ b x w =
    All (Carries (σ x)) (w.channel x b) × ((w.agents b).listens x ≡ true → Knows Doubt σ x ((w.agents b).view x))

-- ---- the agent that learns

pub record Learner (p : Problem) (k : ℕ) (σ : Assignment) (E : Network → Type 0) (b : ℕ) (Doubt : Type 0) : Type 0 where
  pub frozen : (w : Network) → E w → Frozen p k σ w
  pub tidy : (w : Network) → E w → Tidy k σ b w
  -- doubt comes only from a Back to x that refuses what b knew: as b sends it, and while it waits
  pub sending : (A : Act p k) → E A.old → E A.new → b ≡ A.line.to → chose A.move ≡ true
      → (x : ℕ) → x ≤ k → Any (Refuses (view_then A x)) (sent_in A x) → Doubt
  pub waiting : (w : Network) → E w → (x : ℕ) → x ≤ k → All (Late k b) (w.channel b x) → Any (Refuses (σ x)) (w.channel b x) → Doubt

module _ (p : Problem) (k : ℕ) (σ : Assignment) (E : Network → Type 0) (b : ℕ) (Doubt : Type 0) (L : Learner p k σ E b Doubt) where
  -- a frozen agent sends Infos of its value only
  tells : (A : Act p k) → E A.old → (x : ℕ) → x ≤ k → x ≡ A.line.to → (y : ℕ) → All (Carries (σ x)) (sent_in A y)
  tells A e x xl q y = all-sent A y (Carries (σ x)) (λ c. absurd (false≢true (sym (A.still (omega (arith, q))) ∙ c))) quiet
    where
      quiet : (m : Message) → Quietly A y m → Carries (σ x) m
      quiet (Info v) h = h.0 ∙ rw (← q) ((L.frozen A.old e).values x xl)
      quiet (Back lhs v) h = tt
      quiet AddLink h = tt

  late : (A : Act p k) → b ≡ A.line.to → (x : ℕ) → (A.old.agents b).listens x ≡ true → All (Late k b) (sent_in A x)
  late A q x l = all-sent A x (Late k b) busy quiet
    where
      busy : chose A.move ≡ true → (m : Message) → Busily A x m → Late k b m
      busy c (Info v) h = tt
      busy c (Back lhs v) h =
          test (leb b k)
          (λ u. absurd (false≢true (sym (A.still (omega (arith, q, leb-true b k u))) ∙ c)))
          (λ u. leb-false b k u)
      busy c AddLink h = absurd (false≢true (sym h.1.1 ∙ rw q at l))

      quiet : (m : Message) → Quietly A x m → Late k b m
      quiet (Info v) h = tt
      quiet (Back lhs v) h = absurd h
      quiet AddLink h = absurd h

  -- b's view of x after a move, where b listened to x before
  abbrev Heard : Act p k → ℕ → Type 0
  Heard A x =
      ((A.new.agents b).view x
      ≡ cond (is_line x b A.line) (after_one ((A.old.agents b).view x) A.move.message) ((A.old.agents b).view x))
      ⊎ (((A.new.agents b).view x ≡ 0) × Doubt)

  heard : (A : Act p k) → E A.old → E A.new → (x : ℕ) → x ≤ k → (A.old.agents b).listens x ≡ true
      → Heard A x × ((A.new.agents b).listens x ≡ true)
  unfolding is_line
  heard A e e' x xl l = go (eqb b A.line.to) refl
    where
      go : (t : Bool) → eqb b A.line.to ≡ t → Heard A x × ((A.new.agents b).listens x ≡ true)
      go true u =
          let q = eqb-true b A.line.to u in
          let v = heard-before p k A x (rw q at l) in
          rw (q, A.move.handing.mine) (
            ⊎_elim (λ z. inl z) (λ z. inr (z.0, L.sending A e e' q z.1 x xl z.2)) v,
            A.move.handing.links.keeps x (rw q at l),
          )
      go false u = rw (u, and-false, A.move.handing.others b (eqb-false b A.line.to u)) (inl refl, l)

  joined : (A : Act p k) → E A.old → E A.new → (x : ℕ) → x ≤ k → (A.old.agents b).listens x ≡ false
      → (A.new.agents b).listens x ≡ true → Knows Doubt σ x ((A.new.agents b).view x)
  joined A e e' x xl l l' = go (eqb b A.line.to) refl
    where
      go : (t : Bool) → eqb b A.line.to ≡ t → Knows Doubt σ x ((A.new.agents b).view x)
      go true u =
          let q = eqb-true b A.line.to u in
          let t = (rw A.move.handing.head at (rw q at (L.tidy A.old e A.line.from))).0 in
          let v = heard-new p k A x σ xl t (rw q at l) (rw (q, A.move.handing.mine) at l') in
          rw (q, A.move.handing.mine) (⊎_elim (λ z. inl z) (λ z. inr (z.0, L.sending A e e' q z.1 x xl z.2)) v)
      go false u = absurd (false≢true (sym l ∙ rw (A.move.handing.others b (eqb-false b A.line.to u)) at l'))

  -- once n more messages of x are in, b is up to date of it
  abbrev Hears : ℕ → ℕ → Network → Type 0
  Hears x n w = ((w.agents b).listens x ≡ true) × Feeds (Knows Doubt σ x) (σ x) n ((w.agents b).view x) (w.channel x b)

  awaits : (x : ℕ) → x ≤ k → Awaits p k E x b (Hears x)
  awaits x xl A e e' n (l, f) = let (v, l') = heard A e e' x xl l in (l', go (on A x b) v)
    where
      T : ℕ → Type 0
      T = Knows Doubt σ x

      become : (n v : ℕ) (ms : List Message) → Feeds T (σ x) n v ms
          → ((A.new.agents b).view x ≡ v) ⊎ (((A.new.agents b).view x ≡ 0) × Doubt) → Feeds T (σ x) n ((A.new.agents b).view x) ms
      become n v ms f (inl q) = rw q f
      become n v ms f (inr (q, z)) = rw q (feeds-forget T (σ x) (inl refl) (inr (refl, z)) n v ms f)

      go : On A x b → Heard A x → Feeds T (σ x) (cond (is_line x b A.line) (pred n) n) ((A.new.agents b).view x) (A.new.channel x b)
      go (hit h ex ey c) v =
          rw h (become (pred n) _ (A.new.channel x b) (feeds-hit T (σ x) (inl refl) n _ A.move.message _ (rw c at f)) (rw h at v))
      go (put h ex c) v =
          let f' = feeds-put T (σ x) (inl refl) n _ (A.old.channel x b) _ f (tells A e x xl ex b) in
          rw (h, c) (become n ((A.old.agents b).view x) _ f' (rw h at v))
      go (rest h ex c) v = rw (h, c) (become n ((A.old.agents b).view x) (A.old.channel x b) f (rw h at v))

  -- ---- what is learnt lasts

  learnt-lasts : (x : ℕ) → x ≤ k → Stable p k E (Learnt Doubt σ b x)
  learnt-lasts x xl A e e' K = (all-last A x b (Carries (σ x)) (λ q. tells A e x xl q b) K.0, view)
    where
      still : (t : Bool) → Hears x (cond t 0 0) A.new → Knows Doubt σ x ((A.new.agents b).view x)
      still true h = h.1.0
      still false h = h.1.0

      view : (A.new.agents b).listens x ≡ true → Knows Doubt σ x ((A.new.agents b).view x)
      view l' =
          test ((A.old.agents b).listens x)
          (λ l. still (is_line x b A.line) (awaits x xl A e e' 0 (l, (K.1 l, K.0))))
          (λ l. joined A e e' x xl l l')

  -- not listened to: no Info of x waits
  not-heard : (w : Network) → E w → (x : ℕ) → (w.agents b).listens x ≡ false → Learnt Doubt σ b x w
  not-heard w e x l =
      (All-map _ _ none (w.channel x b) ((L.frozen w e).invariant.links.waiting x b), λ q. absurd (false≢true (sym l ∙ q)))
    where
      none : (m : Message) → Waits p w.agents x b m → Carries (σ x) m
      none (Info v) q = absurd (false≢true (sym l ∙ q))
      none (Back lhs v) q = tt
      none AddLink q = tt

  -- ---- the first round

  abbrev Enrolled : ℕ → Network → Type 0
  Enrolled x w = ((w.agents b).listens x ≡ true) × All (Late k b) (w.channel b x)

  enrolled-lasts : (x : ℕ) → x ≤ k → Stable p k E (Enrolled x)
  enrolled-lasts x xl A e e' (l, h) = ((heard A e e' x xl l).1, all-last A b x (Late k b) (λ q. late A q x l) h)

  abbrev Halfway : Network → Type 0
  Halfway w = (x : ℕ) → x ≤ k → Learnt Doubt σ b x w ⊎ Enrolled x w

  halfway-lasts : Stable p k E Halfway
  halfway-lasts A e e' h x xl =
      ⊎_elim (λ q. inl (learnt-lasts x xl A e e' q)) (λ q. inr (enrolled-lasts x xl A e e' q)) (h x xl)

  halfway : (a : List Line) (w : Network) → Window p k E a w → Full a w → Halfway (replay a w)
  halfway a w P F x xl =
      test ((w.agents b).listens x)
      (λ l. inr (enrolled l))
      (λ l. inl (lasts p k E (Learnt Doubt σ b x) (learnt-lasts x xl) a w P (not-heard w (first p k E a w P) x l)))
    where
      Listens : Network → Type 0
      Listens w = (w.agents b).listens x ≡ true

      E' : Network → Type 0
      E' w = E w × Listens w

      enrolled : Listens w → Enrolled x (replay a w)
      enrolled l =
          let P' = along p k E Listens E' (λ A e e' l. (heard A e e' x xl l).1) (λ w e l. (e, l)) a w P l in
          ((last p k E' a w P').1, leave p k E' b x (Late k b) (λ A e q. late A q x e.1) a w P' F)

  -- ---- the second

  abbrev pub Learns : Network → Type 0
  Learns w = (x : ℕ) → x ≤ k → Learnt Doubt σ b x w

  -- the Infos that wait bring the view up to date
  informed : (w : Network) → E w → (x : ℕ) → x ≤ k → Enrolled x w → Knows Doubt σ x (seen ((w.agents b).view x) (w.channel x b))
  informed w e x xl (l, h) = go ((L.frozen w e).invariant.links.pair x b l)
    where
      not-asking : (m : Message) → IsAddLink m → Late k b m → ⊥
      not-asking (Info v) a h = a
      not-asking (Back lhs v) a h = a
      not-asking AddLink a h = h

      go : Linked ((w.agents x).informs b) ((w.agents b).view x) (w.agents x).value (w.channel x b) (w.channel b x)
          → Knows Doubt σ x (seen ((w.agents b).view x) (w.channel x b))
      go (inl a) = absurd (any-all IsAddLink (Late k b) not-asking (w.channel b x) a h)
      go (inr (_, inl s)) = inl (s ∙ (L.frozen w e).values x xl)
      go (inr (_, inr (s, a))) = inr (s, L.waiting w e x xl h (rw ((L.frozen w e).values x xl) at a))

  abbrev E₁ : Network → Type 0
  E₁ w = E w × Halfway w

  learns : (a : List Line) (w : Network) → Window p k E₁ a w → Full a w → Learns (replay a w)
  learns a w P F x xl = go ((first p k E₁ a w P).1 x xl)
    where
      go : Learnt Doubt σ b x w ⊎ Enrolled x w → Learnt Doubt σ b x (replay a w)
      go (inl q) = lasts p k E₁ (Learnt Doubt σ b x) (λ A e e'. learnt-lasts x xl A e.0 e'.0) a w P q
      go (inr q) =
          let f = feeds-all (Knows Doubt σ x) (σ x) (inl refl) _ (w.channel x b) (informed w (first p k E₁ a w P).0 x xl q) in
          let h = served p k E₁ x b (Hears x) (λ A e e'. awaits x xl A e.0 e'.0) a w _ P (F.delivers x b) (q.0, f) in
          (h.1.1, λ _. h.1.0)

  -- two full rounds
  pub learn : (G : Network → Type 0) (c : ℕ) → ((w : Network) → E w → Learns w → G w) → Bound p k G c → Bound p k E (suc (suc c))
  learn G c g B =
      stage p k E Halfway E₁ (suc c) halfway-lasts halfway (λ w e h. (e, h))
      (stage p k E₁ Learns G c (λ A e e' h x xl. learnt-lasts x xl A e.0 e'.0 (h x xl)) learns (λ w e h. g w e.0 h) B)
