-- Full rounds marked off in a list of tries, with gaps or none, from any network. The claims' markings are such.
-- Taking one try out of the list costs at most one round: a round that does not hold the try stands whole on one side of it.
use Rattle.std.proofs.Common.{◌≡◌, refl, sym, ◌∙◌, ◌⊎◌, inl, inr, ⊎_elim, List, [], ◌∷◌, ◌++◌, ℕ, suc, ◌+◌, ◌≤◌, arith, length}
use mathlib.Core.List.{head-eq_of_cons-eq, tail-eq_of_cons-eq}
use Rattle.model_network.specs.Network.{Network}
use Rattle.model_network.specs.Run.{Line}
use Rattle.theorems_network.specs.Calls.{attempt_of, replay, accepted_on}
use Rattle.theorems_network.proofs.Tries.{replay-append}

-- a stretch of tries from a network is full
pub record Full (ds : List Line) (w : Network) : Type 0 where
  pub waits : (i : ℕ) × (j : ℕ) × (1 ≤ length (w.channel i j))
  pub delivers : (i j : ℕ) → length (w.channel i j) ≤ accepted_on i j ds w

-- r full rounds are marked off in a list of tries
pub data Rounds : ℕ → List Line → Network → Type 0 where
  done : {w : Network} → Rounds 0 [] w
  skip : {r : ℕ} {d : Line} {ds : List Line} {w : Network} → Rounds r ds (attempt_of d w).network → Rounds r (d ∷ ds) w
  full : {r : ℕ} {ds : List Line} {w : Network} (a b : List Line) → ds ≡ a ++ b → Full a w → Rounds r b (replay a w) → Rounds (suc r) ds w

-- ---- tries before and after

-- no round at all
pub unmarked : (ds : List Line) (w : Network) → Rounds 0 ds w
unmarked [] w = done
unmarked (d ∷ ds) w = skip (unmarked ds (attempt_of d w).network)

pub skips : (r : ℕ) (a b : List Line) (w : Network) → Rounds r b (replay a w) → Rounds r (a ++ b) w
unfolding replay
skips r [] b w R = R
skips r (d ∷ a) b w R = skip (skips r a b (attempt_of d w).network R)

-- ---- one try taken out

cons-eq : {x y : Line} {a b : List Line} → x ≡ y → a ≡ b → x ∷ a ≡ y ∷ b
cons-eq e f = cc

-- a stretch at the front of a list, and a try in the list: the try stands behind the stretch, or in it
place : (u v a : List Line) (d : Line) (b : List Line) → u ++ v ≡ a ++ (d ∷ b)
    → ((g : List Line) × (a ≡ u ++ g) × (v ≡ g ++ (d ∷ b))) ⊎ ((g : List Line) × (u ≡ a ++ (d ∷ g)) × (b ≡ g ++ v))
place [] v a d b e = inl (a, refl, e)
place (x ∷ u) v [] d b e = inr (u, cons-eq (head-eq_of_cons-eq e) refl, sym (tail-eq_of_cons-eq e))
place (x ∷ u) v (y ∷ a) d b e =
    ⊎_elim
    (λ q. inl (q.0, cons-eq (sym (head-eq_of_cons-eq e)) q.1, q.2))
    (λ q. inr (q.0, cons-eq (head-eq_of_cons-eq e) q.1, q.2))
    (place u v a d b (tail-eq_of_cons-eq e))

pub cut : (r : ℕ) (ds : List Line) (w : Network) → Rounds r ds w → (a : List Line) (d : Line) (b : List Line) → ds ≡ a ++ (d ∷ b)
    → (s : ℕ) × (t : ℕ) × Rounds s a w × Rounds t b (attempt_of d (replay a w)).network × (r ≤ s + t + 1)
unfolding replay
cut r ds w done a d b e = (0, 0, unmarked a w, unmarked b _, omega arith)
cut r ds w (skip {r = r'} {d = x} {ds = ds'} {w = w'} R) [] d b e =
    (0, r', done, rw (← head-eq_of_cons-eq e, ← tail-eq_of_cons-eq e) R, omega arith)
cut r ds w (skip {r = r'} {ds = ds'} {w = w'} R) (x ∷ a) d b e =
    let (s, t, Ra, Rb, le) = cut r' ds' _ R a d b (tail-eq_of_cons-eq e) in
    rw (← head-eq_of_cons-eq e) (s, t, skip Ra, Rb, le)
cut r ds w (full {r = r'} {w = w'} u v f F R) a d b e = go (place u v a d b (sym f ∙ e)) (λ g q. cut r' v _ R g d b q)
  where
    go : ((g : List Line) × (a ≡ u ++ g) × (v ≡ g ++ (d ∷ b))) ⊎ ((g : List Line) × (u ≡ a ++ (d ∷ g)) × (b ≡ g ++ v))
        → ((g : List Line) → v ≡ g ++ (d ∷ b)
        → (s : ℕ) × (t : ℕ) × Rounds s g (replay u w') × Rounds t b (attempt_of d (replay g (replay u w'))).network × (r' ≤ s + t + 1))
        → (s : ℕ) × (t : ℕ) × Rounds s a w' × Rounds t b (attempt_of d (replay a w')).network × (suc r' ≤ s + t + 1)
    go (inl (g, q, z)) ih =
        let (s, t, Rg, Rb, le) = ih g z in
        (suc s, t, full u g q F Rg, rw (q, replay-append) Rb, omega arith)
    go (inr (g, q, z)) ih = (0, r', unmarked a w', rw z (skips r' g v _ (rw (q, replay-append) at R)), omega arith)
