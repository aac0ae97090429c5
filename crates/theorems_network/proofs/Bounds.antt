-- Bounds on the rounds marked in windows of k.
-- A lasting fact that one full round brings about costs one round, so bounds compose stage by stage and no round is counted along the way.
use Rattle.std.proofs.Common.{◌≡◌, refl, ap, subst, ◌⊎◌, inl, inr, List, [], ◌∷◌, ◌++◌, ℕ, zero, suc, ◌+◌, ◌≤◌, arith}
use Rattle.model_base.proofs.Lists.{All, Any, any_left, any-tail}
use Rattle.model_sheet.specs.Problem.{Problem}
use Rattle.model_agent.specs.Message.{Message}
use Rattle.model_network.specs.Network.{Network}
use Rattle.model_network.specs.Run.{Line}
use Rattle.theorems_network.specs.Calls.{attempt_of, replay}
use Rattle.theorems_shape.proofs.Handing.{hit, put, rest}
use Rattle.theorems_network.proofs.Rounds.{Full, Rounds, done, skip, full, skips, cut}
use Rattle.theorems_network.proofs.Windows.{
  Act,
  sent_in,
  On,
  on,
  all-last,
  Turn,
  Window,
  Stable,
  first,
  split,
  keeps,
  along,
  leave,
  handled,
}

-- at most c rounds are marked in any window of k with E
abbrev pub Bound : Problem → ℕ → (Network → Type 0) → ℕ → Type 0
Bound p k E c = (ds : List Line) (w : Network) (r : ℕ) → Window p k E ds w → Rounds r ds w → r ≤ c

-- a kind of event: a try, the tries after it, and the network before it
abbrev pub Event : Type 1
Event = Line → List Line → Network → Type 0

-- a window of k with E up to an event
pub record Until (p : Problem) (k : ℕ) (E : Network → Type 0) (X : Event) (ds : List Line) (w : Network) : Type 0 where
  pub a : List Line
  pub d : Line
  pub b : List Line
  pub cuts : ds ≡ a ++ (d ∷ b)
  pub before : Window p k E a w
  pub event : X d b (replay a w)

module _ (p : Problem) (k : ℕ) (E : Network → Type 0) where
  pub weaken : (F : Network → Type 0) (c : ℕ) → ((w : Network) → E w → F w) → Bound p k F c → Bound p k E c
  weaken F c f B ds w r P R = B ds w r (along p k E E F (λ A e e' _. e') (λ w e _. f w e) ds w P (first p k E ds w P)) R

  -- one full round brings I
  pub stage : (I F : Network → Type 0) (c : ℕ) → Stable p k E I
      → ((a : List Line) (w : Network) → Window p k E a w → Full a w → I (replay a w))
      → ((w : Network) → E w → I w → F w) → Bound p k F c → Bound p k E (suc c)
  stage I F c s f g B ds w r P done = omega arith
  stage I F c s f g B ds w r P (skip R) = stage I F c s f g B _ _ r P.2 R
  stage I F c s f g B ds w r P (full {r = r'} {w = w'} a b q L R) =
      let (Pa, Pb) = split p k E a b w' (rw q at P) in
      let h = B b (replay a w') r' (along p k E I F s g b _ Pb (f a w' Pa L)) R in
      omega arith

  -- one full round leaves on all channels only what was sent in it
  pub flush : (G : Message → Type 0) (c : ℕ) → ((A : Act p k) → E A.old → (y : ℕ) → All G (sent_in A y))
      → Bound p k (λ w. (x y : ℕ) → All G (w.channel x y)) c → Bound p k E (suc c)
  flush G c g =
      stage Only Only c
      (λ A e e' h x y. all-last A x y G (λ _. g A e y) (h x y))
      (λ a w P L x y. leave p k E x y G (λ A e _. g A e y) a w P L)
      (λ w e h. h)
    where
      Only : Network → Type 0
      Only w = (x y : ℕ) → All G (w.channel x y)

  -- where I holds no full round can begin
  pub over : (I : Network → Type 0) → Stable p k E I → ((a : List Line) (w : Network) → Window p k E a w → Full a w → I w → ⊥)
      → (ds : List Line) (w : Network) (r : ℕ) → Window p k E ds w → Rounds r ds w → I w → r ≡ 0
  over I s f ds w r P done i = refl
  over I s f ds w r P (skip {r = r'} {ds = ds'} R) i =
      over I s f ds' _ r' P.2 R (keeps p k E I s P.1 P.0 (first p k E ds' _ P.2) i)
  over I s f ds w r P (full {w = w'} a b q L R) i = absurd (f a w' (split p k E a b w' (rw q at P)).0 L i)

  -- a message that cannot be handled does not wait ahead of a full round
  pub never-waits : (x y : ℕ) (W : Message → Type 0) → ((A : Act p k) → E A.old → y ≡ A.line.to → W A.move.message → ⊥)
      → (ds : List Line) (w : Network) (r : ℕ) → Window p k E ds w → Rounds (suc r) ds w → Any W (w.channel x y) → ⊥
  never-waits x y W f ds w r P R h = omega (arith, over (λ w. Any W (w.channel x y)) waits (handled p k E x y W f) ds w (suc r) P R h)
    where
      waits : Stable p k E (λ w. Any W (w.channel x y))
      waits A e e' h = go (on A x y)
        where
          go : On A x y → Any W (A.new.channel x y)
          go (hit b ex ey q) = any-tail W A.move.message (A.new.channel x y) (f A e ey) (rw q at h)
          go (put b ex q) = rw q (any_left W (A.old.channel x y) _ h)
          go (rest b ex q) = rw q h

  -- N holds in every network with a full round ahead: the last round is given up
  module _ (N F : Network → Type 0)
      (n : (ds : List Line) (w : Network) (r : ℕ) → Window p k E ds w → Rounds (suc r) ds w → N w)
      (f : (w : Network) → E w → N w → F w) where
    within : (u v a : List Line) (w : Network) (r : ℕ) → Window p k E (u ++ v) w → Rounds (suc r) v (replay u w)
        → Window p k F a (replay u w) → Window p k F (u ++ a) w
    unfolding replay
    within [] v a w r P R Pa = Pa
    within (d ∷ u) v a w r P R Pa =
        (f w P.0 (n (d ∷ u ++ v) w r P (skips (suc r) (d ∷ u) v w R)), P.1, within u v a _ r P.2 R Pa)

    but_last : (ds : List Line) (w : Network) (r s : ℕ) → s ≡ suc r → Window p k E ds w → Rounds s ds w
        → (a : List Line) × Window p k F a w × Rounds r a w
    but_last ds w r s e P done = absurd (omega arith)
    but_last ds w r s e P (skip {r = s'} {d = d} {ds = ds'} {w = w'} R) =
        let (a, Pa, Ra) = but_last ds' _ r s' e P.2 R in
        let R' : Rounds (suc r) (d ∷ ds') w' = subst (λ (n : ℕ). Rounds n (d ∷ ds') w') e (skip R) in
        (d ∷ a, (f w' P.0 (n (d ∷ ds') w' r P R'), P.1, Pa), skip Ra)
    but_last ds w zero s e P (full {r = s'} {ds = ds'} {w = w'} u v q L R) =
        let R' : Rounds 1 ds' w' = subst (λ (n : ℕ). Rounds n ds' w') e (full u v q L R) in
        ([], f w' (first p k E ds' w' P) (n ds' w' 0 P R'), done)
    but_last ds w (suc r) s e P (full {r = s'} {w = w'} u v q L R) =
        let z : s' ≡ suc r = omega arith in
        let P' = rw q at P in
        let (a, Pa, Ra) = but_last v (replay u w') r s' z (split p k E u v w' P').1 R in
        (u ++ a, within u v a w' r P' (subst (λ (n : ℕ). Rounds n v (replay u w')) z R) Pa, full u a refl L Ra)

    pub ahead : (c : ℕ) → Bound p k F c → Bound p k E (suc c)
    ahead c B ds w zero P R = omega arith
    ahead c B ds w (suc r) P R = let (a, Pa, Ra) = but_last ds w r (suc r) refl P R in let h = B a w r Pa Ra in omega arith

  -- ---- up to an event

  module _ (X : Event) where
    pub onward : (d : Line) (ds : List Line) (w : Network) → E w → Turn p k d w (attempt_of d w).network (attempt_of d w).answer
        → Window p k E ds (attempt_of d w).network ⊎ Until p k E X ds (attempt_of d w).network
        → Window p k E (d ∷ ds) w ⊎ Until p k E X (d ∷ ds) w
    unfolding replay
    onward d ds w e t (inl P) = inl (e, t, P)
    onward d ds w e t (inr U) =
        inr record {
          a = d ∷ U.a;
          d = U.d;
          b = U.b;
          cuts = ap (λ (l : List Line). d ∷ l) U.cuts;
          before = (e, t, U.before);
          event = U.event;
        }

    pub rounds-until : (c : ℕ) → Bound p k E c → (ds : List Line) (w : Network) (r : ℕ) → Rounds r ds w → (U : Until p k E X ds w)
        → (t : ℕ) × Rounds t U.b (attempt_of U.d (replay U.a w)).network × (r ≤ c + t + 1)
    rounds-until c B ds w r R U =
        let (s, t, Ra, Rb, le) = cut r ds w R U.a U.d U.b U.cuts in
        (t, Rb, omega (arith, le, B U.a w s U.before Ra))
