-- A window of k is a list of tries in which no agent up to k chooses. In a full round of it old messages leave, and waiting ones are handled.
-- Both are one countdown: what awaits n deliveries of a channel has come when a stretch has n of them.
use Rattle.std.proofs.Common.{◌≡◌, refl, subst, ◌⊎◌, inl, inr, List, [], ◌∷◌, ◌++◌, Bool, true, false, ◌&&◌, cond, ℕ, zero, suc, pred, ◌≤◌, arith, length, drop}
use mathlib.Core.Bool.{and-false}
use Rattle.model_base.proofs.Tests.{test}
use Rattle.model_base.proofs.Lists.{All, All-append, All-both, All-map, Any}
use Rattle.model_sheet.specs.Problem.{Problem, Obeys}
use Rattle.model_agent.specs.Message.{Assignment, Message, sent_to}
use Rattle.model_agent.specs.Agent.{Agent}
use Rattle.theorems_agent.specs.Facts.{Requests, busy_view, TellsSender, Sends}
use Rattle.model_network.specs.Network.{Network}
use Rattle.model_network.specs.Delivery.{Answer, Accepted, Rejected, is_accepted}
use Rattle.model_network.specs.Run.{Line, one_if, is_line}
use Rattle.model_network.proofs.Rounds.{one_at_most}
use Rattle.theorems_network.specs.Calls.{attempt_of, replay, accepted_now, accepted_on}
use Rattle.theorems_shape.proofs.Handing.{OnChannel, hit, put, rest, on-channel}
use Rattle.theorems_network.proofs.Moves.{Move}
use Rattle.theorems_network.proofs.Rounds.{Full}

-- ---- one move of a window

-- the receiver chooses
abbrev pub chose : {p : Problem} {d : Line} {w w' : Network} → Move p d w w' → Bool
chose M = M.facts.chooses

pub record Act (p : Problem) (k : ℕ) : Type 0 where
  pub line : Line
  pub old : Network
  pub new : Network
  pub move : Move p line old new
  pub still : line.to ≤ k → chose move ≡ false

abbrev pub receiver : {p : Problem} {k : ℕ} → Act p k → Agent
receiver A = A.old.agents A.line.to

-- the receiver's view right after the message, where it chooses
abbrev pub view_then : {p : Problem} {k : ℕ} → Act p k → Assignment
view_then A x = busy_view (receiver A) A.line.from A.move.message x

-- what the receiver sends to y
abbrev pub sent_in : {p : Problem} {k : ℕ} → Act p k → ℕ → List Message
sent_in A y = sent_to y A.move.step.sent

-- .. is one of these, where it chooses and where it does not
abbrev pub Busily : {p : Problem} {k : ℕ} → Act p k → ℕ → Message → Type 0
Busily {p} A y m =
    Sends (Obeys p) (receiver A) A.line.from A.move.message A.move.step y m × Requests (receiver A) A.move.step y m

abbrev pub Quietly : {p : Problem} {k : ℕ} → Act p k → ℕ → Message → Type 0
Quietly A y m = TellsSender (receiver A) A.line.from A.move.message y m

pub busily : {p : Problem} {k : ℕ} (A : Act p k) → chose A.move ≡ true → (y : ℕ) → All (Busily A y) (sent_in A y)
busily A c y = All-both _ _ (sent_in A y) ((A.move.facts.busy c).sent y) (A.move.handing.links.requests y)

pub all-sent : {p : Problem} {k : ℕ} (A : Act p k) (y : ℕ) (G : Message → Type 0)
    → (chose A.move ≡ true → (m : Message) → Busily A y m → G m) → ((m : Message) → Quietly A y m → G m) → All G (sent_in A y)
all-sent A y G b q =
    test (chose A.move)
    (λ c. All-map _ G (b c) (sent_in A y) (busily A c y))
    (λ c. All-map _ G q (sent_in A y) ((A.move.facts.quiet c).sent y))

-- what the move does to the channel from x to y
abbrev pub On : {p : Problem} {k : ℕ} → Act p k → ℕ → ℕ → Type 0
On A x y = OnChannel A.line A.move.message A.move.step A.old A.new x y

pub on : {p : Problem} {k : ℕ} (A : Act p k) (x y : ℕ) → On A x y
on A x y = on-channel A.move.handing x y

pub all-last : {p : Problem} {k : ℕ} (A : Act p k) (x y : ℕ) (G : Message → Type 0)
    → (x ≡ A.line.to → All G (sent_in A y)) → All G (A.old.channel x y) → All G (A.new.channel x y)
all-last A x y G g h = go (on A x y)
  where
    go : On A x y → All G (A.new.channel x y)
    go (hit b ex ey q) = (rw q at h).1
    go (put b ex q) = rw q (All-append G (A.old.channel x y) _ h (g ex))
    go (rest b ex q) = rw q h

-- ---- windows

pub data Turn (p : Problem) (k : ℕ) (d : Line) (w w' : Network) (a : Answer) : Type 0 where
  stay : w' ≡ w → (a ≡ Accepted → ⊥) → Turn p k d w w' a
  act : (M : Move p d w w') → (d.to ≤ k → chose M ≡ false) → Turn p k d w w' a

-- a window of k with E in each of its networks
abbrev pub Window : Problem → ℕ → (Network → Type 0) → List Line → Network → Type 0
Window p k E [] w = E w
Window p k E (d ∷ ds) w =
    E w × Turn p k d w (attempt_of d w).network (attempt_of d w).answer × Window p k E ds (attempt_of d w).network

-- I lasts
abbrev pub Stable : Problem → ℕ → (Network → Type 0) → (Network → Type 0) → Type 0
Stable p k E I = (A : Act p k) → E A.old → E A.new → I A.old → I A.new

-- Q n: n more deliveries of the channel from x to y are awaited
abbrev pub Awaits : Problem → ℕ → (Network → Type 0) → ℕ → ℕ → (ℕ → Network → Type 0) → Type 0
Awaits p k E x y Q =
    (A : Act p k) → E A.old → E A.new → (n : ℕ) → Q n A.old → Q (cond (is_line x y A.line) (pred n) n) A.new

not-accepted : (a : Answer) → (a ≡ Accepted → ⊥) → is_accepted a ≡ false
unfolding is_accepted
not-accepted Accepted h = absurd (h refl)
not-accepted (Rejected r) h = refl

module _ (p : Problem) (k : ℕ) (E : Network → Type 0) where
  pub first : (ds : List Line) (w : Network) → Window p k E ds w → E w
  first [] w P = P
  first (d ∷ ds) w P = P.0

  pub split : (a b : List Line) (w : Network) → Window p k E (a ++ b) w → Window p k E a w × Window p k E b (replay a w)
  unfolding replay
  split [] b w P = (first b w P, P)
  split (d ∷ a) b w P = let (Pa, Pb) = split a b _ P.2 in ((P.0, P.1, Pa), Pb)

  pub keeps : (I : Network → Type 0) → Stable p k E I
      → {d : Line} {w w' : Network} {a : Answer} → Turn p k d w w' a → E w → E w' → I w → I w'
  keeps I s (stay q _) e e' i = rw q i
  keeps I s {d} {w} {w'} (act M t) e e' i = s record { line = d; old = w; new = w'; move = M; still = t } e e' i

  -- what lasts holds from the first network on
  pub along : (I F : Network → Type 0) → Stable p k E I → ((w : Network) → E w → I w → F w)
      → (ds : List Line) (w : Network) → Window p k E ds w → I w → Window p k F ds w
  along I F s f [] w P i = f w P i
  along I F s f (d ∷ ds) w P i =
      (f w P.0 i, P.1, along I F s f ds _ P.2 (keeps I s P.1 P.0 (first ds _ P.2) i))

  -- .. to the last
  pub lasts : (I : Network → Type 0) → Stable p k E I → (ds : List Line) (w : Network) → Window p k E ds w → I w → I (replay ds w)
  unfolding replay
  lasts I s [] w P i = i
  lasts I s (d ∷ ds) w P i = lasts I s ds _ P.2 (keeps I s P.1 P.0 (first ds _ P.2) i)

  pub last : (ds : List Line) (w : Network) → Window p k E ds w → E (replay ds w)
  last ds w P = lasts E (λ A e e' i. e') ds w P (first ds w P)

  -- ---- what is served

  -- a stretch with n deliveries of the channel brings what awaits n of them
  pub served : (x y : ℕ) (Q : ℕ → Network → Type 0) → Awaits p k E x y Q
      → (ds : List Line) (w : Network) (n : ℕ) → Window p k E ds w → n ≤ accepted_on x y ds w → Q n w → Q 0 (replay ds w)
  unfolding replay accepted_on accepted_now one_if
  served x y Q s [] w n P h q = let e : n ≡ 0 = omega arith in subst (λ (n : ℕ). Q n w) e q
  served x y Q s (d ∷ ds) w n P h q =
      let (n', h', q') = go P.1 (first ds _ P.2) in served x y Q s ds _ n' P.2 h' q'
    where
      w' : Network
      w' = (attempt_of d w).network

      taken : Bool
      taken = is_accepted (attempt_of d w).answer

      go : Turn p k d w w' (attempt_of d w).answer → E w' → (n' : ℕ) × (n' ≤ accepted_on x y ds w') × Q n' w'
      go (stay e f) e' =
          let z : accepted_now x y d w ≡ 0 = rw (not-accepted (attempt_of d w).answer f, one_if) in
          (n, omega (arith, z, h), rw e q)
      go (act M t) e' = counted (is_line x y d) refl
        where
          q' : Q (cond (is_line x y d) (pred n) n) w'
          q' = s record { line = d; old = w; new = w'; move = M; still = t } P.0 e' n q

          counted : (b : Bool) → is_line x y d ≡ b → (n' : ℕ) × (n' ≤ accepted_on x y ds w') × Q n' w'
          counted true u = (pred n, omega (arith, one_at_most (taken && is_line x y d), h), rw u at q')
          counted false u =
              let z : accepted_now x y d w ≡ 0 = rw (u, and-false taken, one_if) in
              (n, omega (arith, z, h), rw u at q')

  -- old messages leave: after a full round, what waits on a channel was sent in it
  pub leave : (x y : ℕ) (G : Message → Type 0) → ((A : Act p k) → E A.old → x ≡ A.line.to → All G (sent_in A y))
      → (ds : List Line) (w : Network) → Window p k E ds w → Full ds w → All G ((replay ds w).channel x y)
  leave x y G g ds w P F =
      served x y (λ n w. All G (drop n (w.channel x y))) awaits ds w _ P (F.delivers x y) (all_left (w.channel x y))
    where
      all_left : (l : List Message) → All G (drop (length l) l)
      all_left [] = tt
      all_left (m ∷ ms) = all_left ms

      all_drop : (n : ℕ) (l : List Message) → All G l → All G (drop n l)
      all_drop zero l h = h
      all_drop (suc n) [] h = tt
      all_drop (suc n) (m ∷ ms) h = all_drop n ms h.1

      added : (n : ℕ) (l q : List Message) → All G (drop n l) → All G q → All G (drop n (l ++ q))
      added zero l q h a = All-append G l q h a
      added (suc n) [] q h a = all_drop (suc n) q a
      added (suc n) (m ∷ ms) q h a = added n ms q h a

      taken : (n : ℕ) (m : Message) (ms : List Message) → All G (drop n (m ∷ ms)) → All G (drop (pred n) ms)
      taken zero m ms h = h.1
      taken (suc n) m ms h = h

      awaits : Awaits p k E x y (λ n w. All G (drop n (w.channel x y)))
      awaits A e e' n q = go (on A x y)
        where
          go : On A x y → All G (drop (cond (is_line x y A.line) (pred n) n) (A.new.channel x y))
          go (hit b ex ey c) = rw b (taken n A.move.message (A.new.channel x y) (rw c at q))
          go (put b ex c) = rw (b, c) (added n (A.old.channel x y) _ q (g A e ex))
          go (rest b ex c) = rw (b, c) q

  -- a waiting message is handled in a full round: one that cannot be handled does not wait
  pub handled : (x y : ℕ) (W : Message → Type 0) → ((A : Act p k) → E A.old → y ≡ A.line.to → W A.move.message → ⊥)
      → (ds : List Line) (w : Network) → Window p k E ds w → Full ds w → Any W (w.channel x y) → ⊥
  handled x y W f ds w P F a =
      served x y (λ n w. Among n (w.channel x y)) awaits ds w _ P (F.delivers x y) (begin (w.channel x y) a)
    where
      -- one of the first n has W
      Among : ℕ → List Message → Type 0
      Among zero l = ⊥
      Among (suc n) [] = ⊥
      Among (suc n) (m ∷ ms) = W m ⊎ Among n ms

      begin : (l : List Message) → Any W l → Among (length l) l
      begin [] h = h
      begin (m ∷ ms) (inl h) = inl h
      begin (m ∷ ms) (inr h) = inr (begin ms h)

      added : (n : ℕ) (l q : List Message) → Among n l → Among n (l ++ q)
      added zero l q h = h
      added (suc n) [] q h = absurd h
      added (suc n) (m ∷ ms) q (inl h) = inl h
      added (suc n) (m ∷ ms) q (inr h) = inr (added n ms q h)

      taken : (n : ℕ) (m : Message) (ms : List Message) → (W m → ⊥) → Among n (m ∷ ms) → Among (pred n) ms
      taken zero m ms f h = h
      taken (suc n) m ms f (inl h) = absurd (f h)
      taken (suc n) m ms f (inr h) = h

      awaits : Awaits p k E x y (λ n w. Among n (w.channel x y))
      awaits A e e' n q = go (on A x y)
        where
          go : On A x y → Among (cond (is_line x y A.line) (pred n) n) (A.new.channel x y)
          go (hit b ex ey c) = rw b (taken n A.move.message (A.new.channel x y) (f A e ey) (rw c at q))
          go (put b ex c) = rw (b, c) (added n (A.old.channel x y) _ q)
          go (rest b ex c) = rw (b, c) q
