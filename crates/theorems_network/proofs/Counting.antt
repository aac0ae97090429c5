-- In a window of k where agent k + 1 follows, it chooses at most once for each of its values; so windows nest, and rounds are counted.
-- It chooses on Backs only and sends none itself, so each choice adds a nogood and takes none away; its own value never has one.
use Rattle.std.proofs.Common.{None, ◌≡◌, refl, sym, ap, ◌∙◌, subst, ◌⊎◌, inl, inr, ⊎_elim, List, [], ◌∷◌, Bool, true, false, ℕ, zero, suc, ◌+◌, ◌*◌, ◌≤◌, ◌<◌, arith, length, eqb, leb, eqb-true, leb-true, leb-false}
use mathlib.Core.Bool.{false≢true}
use borrow.Author.Tests.{eqb-false}
use Rattle.model_base.specs.Finite.{is_some}
use Rattle.model_base.proofs.Tests.{test}
use Rattle.model_base.proofs.Search.{at_same, at_other}
use Rattle.model_base.proofs.Lists.{All, All-map, all_but}
use Rattle.model_base.proofs.Counting.{misses, misses-most, misses-le, misses-lt}
use Rattle.model_sheet.specs.Problem.{Problem, domain}
use Rattle.model_agent.specs.Message.{Assignment, Message, Info, Back, AddLink}
use Rattle.model_agent.specs.Agent.{Agent}
use Rattle.model_agent.specs.Sorts.{IsInfo, IsBack, Not, Refuses}
use Rattle.theorems_agent.specs.Facts.{quiet_view, Why}
use Rattle.model_network.specs.Network.{Network, self_of, bans_of}
use Rattle.model_network.specs.Run.{Line}
use Rattle.theorems_network.specs.Calls.{attempt_of, replay}
use Rattle.theorems_network.proofs.Moves.{Invariant}
use Rattle.theorems_network.proofs.Rounds.{Full, Rounds}
use Rattle.theorems_network.proofs.Windows.{
  chose,
  Act,
  receiver,
  view_then,
  sent_in,
  Busily,
  busily,
  Quietly,
  all-sent,
  Turn,
  stay,
  act,
  Window,
  Stable,
  first,
  lasts,
}
use Rattle.theorems_network.proofs.Bounds.{Bound, Event, Until, weaken, flush, over, onward, rounds-until}
use Rattle.theorems_network.proofs.Settling.{freeze}
use Rattle.theorems_network.proofs.Following.{none-sent, Following, follow}

-- ---- of the values 1 to d, those that have no nogood

bare : ℕ → Agent → ℕ
bare d a = misses d (λ v. is_some (a.nogoods v))

bare-most : (d : ℕ) (a : Agent) → bare d a ≤ d
unfolding bare
bare-most d a = misses-most d _

bare-le : (d : ℕ) (a a' : Agent) → ((v : ℕ) → is_some (a.nogoods v) ≡ true → is_some (a'.nogoods v) ≡ true) → bare d a' ≤ bare d a
unfolding bare
bare-le d a a' h = misses-le d _ _ h

bare-lt : (d : ℕ) (a a' : Agent) → ((v : ℕ) → is_some (a.nogoods v) ≡ true → is_some (a'.nogoods v) ≡ true)
    → (v : ℕ) → 1 ≤ v → v ≤ d → a.nogoods v ≡ None → is_some (a'.nogoods v) ≡ true → bare d a' < bare d a
unfolding bare is_some
bare-lt d a a' h v l u f g = misses-lt d _ _ h v l u (ap is_some f) g

module _ (p : Problem) (k : ℕ) (σ : Assignment) where
  abbrev E : Network → Type 0
  E = Following p k σ

  invariant : (w : Network) → E w → Invariant p w
  invariant w e = e.calm.settled.frozen.invariant

  -- ---- a step of agent k + 1

  module _ (A : Act p k) (e : E A.old) (e' : E A.new) (q : suc k ≡ A.line.to) where
    abbrev i : ℕ
    i = A.line.from

    abbrev b : ℕ
    b = A.line.to

    -- no message changes its view
    view-same : (m : Message) → A.old.channel i b ≡ m ∷ A.new.channel i b → (x : ℕ) → quiet_view (receiver A) i m x ≡ (receiver A).view x
    view-same (Back lhs v) h x = refl
    view-same AddLink h x = refl
    view-same (Info v) h x =
        test (eqb x i)
        (λ u. rw (eqb-true x i u, at_same) (told ∙ sym seen))
        (λ u. at_other (receiver A).view i v x (eqb-false x i u))
      where
        listens : (receiver A).listens i ≡ true
        listens = (rw h at ((invariant A.old e).links.waiting i b)).0

        le : i ≤ k
        le = omega (arith, q, ((invariant A.old e).links.lower b i listens).1)

        told : v ≡ σ i
        told = (rw h at (rw q at (e.follows i le).0)).0

        seen : (receiver A).view i ≡ σ i
        seen = ⊎_elim (λ z. z) (λ z. absurd z.1) (rw q at ((e.follows i le).1 (rw q listens)))

    -- it chooses on a Back only
    on-back : (m : Message) → A.old.channel i b ≡ m ∷ A.new.channel i b → Why (bans_of p b) (receiver A) i m → IsBack m
    on-back (Back lhs v) h y = tt
    on-back AddLink h y = y
    on-back (Info v) h (x, y) =
        ((invariant A.old e).good b A.move.to_in.0 A.move.to_in.1).free x (rw (view-same (Info v) h x) at y)

    -- it sends no Back: it listens to frozen agents only, and no Back that refuses one is sent
    no-back : chose A.move ≡ true → (y : ℕ) → All (Not IsBack) (sent_in A y)
    no-back c y =
        test (leb y k)
        (λ u. all_but (Refuses (view_then A y)) (Not IsBack) (sent_in A y) (All-map _ _ refuses (sent_in A y) (busily A c y))
        (none-sent p k σ A e.calm e'.calm c y (leb-true y k u)))
        (λ u. All-map _ _ (unheard (leb-false y k u)) (sent_in A y) (busily A c y))
      where
        refuses : (m : Message) → Busily A y m → Refuses (view_then A y) m ⊎ Not IsBack m
        refuses (Info v) h = inr (λ z. z)
        refuses (Back lhs v) h = inl h.0.1.of-view
        refuses AddLink h = inr (λ z. z)

        unheard : k < y → (m : Message) → Busily A y m → Not IsBack m
        unheard l (Info v) h = λ z. z
        unheard l (Back lhs v) h = λ z. omega (arith, q, ((invariant A.new e').links.lower b y (rw A.move.handing.mine h.0.0)).1)
        unheard l AddLink h = λ z. z

    gains : chose A.move ≡ true
        → ((v : ℕ) → is_some ((receiver A).nogoods v) ≡ true → is_some (A.move.step.agent.nogoods v) ≡ true)
        × (is_some (A.move.step.agent.nogoods (receiver A).value) ≡ true)
    gains c = (A.move.facts.busy c).grows (on-back A.move.message A.move.handing.head (A.move.facts.busy c).why) (no-back c)

    loses-none : (v : ℕ) → is_some ((receiver A).nogoods v) ≡ true → is_some (A.move.step.agent.nogoods v) ≡ true
    loses-none =
        test (chose A.move)
        (λ c. (gains c).0)
        (λ c. (A.move.facts.quiet c).nogoods (λ x. (A.move.facts.quiet c).view x ∙ view-same A.move.message A.move.handing.head x))

  -- ---- each choice leaves it fewer values with no nogood

  abbrev left : Network → ℕ
  left w = bare (domain p (suc k)) (w.agents (suc k))

  fewer : (A : Act p k) → E A.old → E A.new → suc k ≡ A.line.to → chose A.move ≡ true → left A.new < left A.old
  unfolding self_of
  fewer A e e' q c =
      let G = (invariant A.old e).good A.line.to A.move.to_in.0 A.move.to_in.1 in
      let g = gains A e e' q c in
      let f = bare-lt (domain p A.line.to) (receiver A) A.move.step.agent g.0 _ G.low G.high G.fresh g.1 in
      rw (q, A.move.handing.mine) f

  left-lasts : (c : ℕ) → Stable p (suc k) E (λ w. left w ≤ c)
  left-lasts c A e e' h = go (eqb (suc k) A.line.to) refl
    where
      A' : Act p k
      A' = record { line = A.line; old = A.old; new = A.new; move = A.move; still = λ l. A.still (omega arith) }

      go : (t : Bool) → eqb (suc k) A.line.to ≡ t → left A.new ≤ c
      go true u =
          let q = eqb-true (suc k) A.line.to u in
          let f = bare-le (domain p A.line.to) (receiver A) A.move.step.agent (loses-none A' e e' q) in
          rw (q, A.move.handing.mine) (omega (arith, f, rw q at h))
      go false u = rw (A.move.handing.others (suc k) (eqb-false (suc k) A.line.to u)) h

  -- ---- up to its first choice the window is one of k + 1

  abbrev Chooses : Event
  Chooses d ds w = (left (attempt_of d w).network < left w) × Window p k E ds (attempt_of d w).network

  choice : (ds : List Line) (w : Network) → Window p k E ds w → Window p (suc k) E ds w ⊎ Until p (suc k) E Chooses ds w
  unfolding replay
  choice [] w P = inl P
  choice (d ∷ ds) w P = go P.1 (choice ds _ P.2)
    where
      w' : Network
      w' = (attempt_of d w).network

      go : Turn p k d w w' (attempt_of d w).answer → Window p (suc k) E ds w' ⊎ Until p (suc k) E Chooses ds w'
          → Window p (suc k) E (d ∷ ds) w ⊎ Until p (suc k) E Chooses (d ∷ ds) w
      go (stay q f) I = onward p (suc k) E Chooses d ds w P.0 (stay q f) I
      go (act M s) I = mine (eqb (suc k) d.to) refl (chose M) refl
        where
          mine : (t : Bool) → eqb (suc k) d.to ≡ t → (c : Bool) → chose M ≡ c
              → Window p (suc k) E (d ∷ ds) w ⊎ Until p (suc k) E Chooses (d ∷ ds) w
          mine true u true c =
              let A : Act p k = record { line = d; old = w; new = w'; move = M; still = s } in
              let l = fewer A P.0 (first p k E ds w' P.2) (eqb-true (suc k) d.to u) c in
              inr record { a = []; d = d; b = ds; cuts = refl; before = P.0; event = (l, P.2) }
          mine true u false c = onward p (suc k) E Chooses d ds w P.0 (act M (λ _. c)) I
          mine false u t c = onward p (suc k) E Chooses d ds w P.0 (act M (λ l. s (omega (arith, eqb-false (suc k) d.to u)))) I

  -- fewer than n choices
  between : (T : ℕ) → Bound p (suc k) E T → (n : ℕ) (ds : List Line) (w : Network) (r : ℕ) → left w < n
      → Window p k E ds w → Rounds r ds w → r ≤ n * (T + 1)
  between T B zero ds w r l P R = absurd (omega arith)
  between T B (suc n) ds w r l P R = go (choice ds w P) (λ b v t. between T B n b v t)
    where
      go : Window p (suc k) E ds w ⊎ Until p (suc k) E Chooses ds w
          → ((b : List Line) (v : Network) (t : ℕ) → left v < n → Window p k E b v → Rounds t b v → t ≤ n * (T + 1)) → r ≤ suc n * (T + 1)
      go (inl Q) ih = omega (arith, B ds w r Q R)
      go (inr U) ih =
          let (t, Rb, le) = rounds-until p (suc k) E Chooses T B ds w r R U in
          let z = lasts p (suc k) E (λ v. left v ≤ left w) (left-lasts (left w)) U.a w U.before (omega arith) in
          omega (arith, le, ih U.b _ t (omega (arith, z, U.event.0)) U.event.1 Rb)

  middle : (d T : ℕ) → domain p (suc k) ≤ d → Bound p (suc k) (Invariant p) T → Bound p k E (suc d * (T + 1))
  middle d T le B ds w r =
      between T (weaken p (suc k) E (Invariant p) T invariant B) (suc d) ds w r
      (omega (arith, bare-most (domain p (suc k)) (w.agents (suc k)), le))

-- ---- a window of all agents: after one full round only answers wait, after two nothing does

abbrev Only : (Message → Type 0) → Network → Type 0
Only G w = (x y : ℕ) → All G (w.channel x y)

abbrev Never : Message → Type 0
Never m = ⊥

module _ (p : Problem) where
  abbrev n : ℕ
  n = p.count

  all_quiet : (A : Act p n) (y : ℕ) (G : Message → Type 0) → ((m : Message) → Quietly A y m → G m) → All G (sent_in A y)
  all_quiet A y G = all-sent A y G (λ c. absurd (false≢true (sym (A.still A.move.to_in.1) ∙ c)))

  answers : (A : Act p n) → Invariant p A.old → (y : ℕ) → All IsInfo (sent_in A y)
  answers A e y = all_quiet A y IsInfo one
    where
      one : (m : Message) → Quietly A y m → IsInfo m
      one (Info v) h = tt
      one (Back lhs v) h = h
      one AddLink h = h

  nothing : (A : Act p n) → Only IsInfo A.old → (y : ℕ) → All Never (sent_in A y)
  nothing A e y = all_quiet A y Never one
    where
      one : (m : Message) → Quietly A y m → ⊥
      one (Info v) h = h.1.1 (rw A.move.handing.head at (e A.line.from A.line.to)).0
      one (Back lhs v) h = h
      one AddLink h = h

  at_rest : Bound p n (Only Never) 0
  at_rest ds w r P R = omega (arith, over p n (Only Never) (Only Never) (λ A e e' _. e') waits ds w r P R (first p n (Only Never) ds w P))
    where
      empty : (l : List Message) → All Never l → 1 ≤ length l → ⊥
      empty [] h l = omega arith
      empty (m ∷ ms) h l = h.0

      waits : (a : List Line) (w : Network) → Window p n (Only Never) a w → Full a w → Only Never w → ⊥
      waits a w P F e = let (i, j, l) = F.waits in empty (w.channel i j) (e i j) l

  all_frozen : Bound p n (Invariant p) 2
  all_frozen = flush p n (Invariant p) IsInfo 1 answers (flush p n (Only IsInfo) Never 0 nothing at_rest)

-- ---- the recurrence

-- rounds in a window of all but the last j agents, of n agents with domains up to d
unfoldable pub most : ℕ → ℕ → ℕ → ℕ
most n d zero = 2
most n d (suc j) = 3 * n + 3 + suc d * (most n d j + 1)

pub windows : (p : Problem) (d : ℕ) → ((i : ℕ) → 1 ≤ i → i ≤ p.count → domain p i ≤ d)
    → (j k : ℕ) → k + j ≡ p.count → Bound p k (Invariant p) (most p.count d j)
unfolding most
windows p d h zero k e = let q : p.count ≡ k = omega arith in subst (λ (n : ℕ). Bound p n (Invariant p) 2) q (all_frozen p)
windows p d h (suc j) k e =
    let T = most p.count d j in
    let c = suc d * (T + 1) in
    let B = windows p d h j (suc k) (omega arith) in
    let M : (σ : Assignment) → Bound p k (Following p k σ) c = λ σ. middle p k σ d T (h (suc k) (omega arith) (omega arith)) B in
    let C = freeze p k _ (λ σ. follow p k σ c (omega arith) (M σ)) in
    λ ds w r P R. omega (arith, C ds w r P R)
