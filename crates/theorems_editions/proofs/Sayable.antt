-- A table is sayable in gaps exactly if no two agents have two owned pairs of slots with equal gap, one banned and one free.
-- A search over pairs of slots finds one exactly if there is one; the place of a pair is its gap.
use Rattle.std.proofs.Common.{ℕ, zero, suc, pred, ◌≤◌, ◌<◌, ◌≡◌, refl, sym, ◌∙◌, ◌⊎◌, inl, inr, Bool, true, false, not, ◌||◌, arith, eqb, eqb-true, eq-eqb}
use mathlib.Core.Bool.{false≢true}
use borrow.Author.Tests.{not-false}
use Rattle.model_base.specs.Finite.{lowest, all_to, is_some}
use Rattle.model_base.proofs.Tests.{test, eq_test, or_left, or_right, or_cases, both, to_both, within-true, to-within, is_some-true, not-true}
use Rattle.model_base.proofs.Search.{lowest-some, lowest-range, all_to-at}
use Rattle.model_base.proofs.Peeling.{same_test}
use Rattle.model_base.proofs.Searches.{is_some-passes}
use Rattle.model_sheet.specs.Problem.{Problem, domain, owns, banned}
use Rattle.model_sheet.proofs.Range.{Ranged, domain-small}
use Rattle.model_editions.specs.Gaps.{gap_places, place_of, some_to, has_gap, banned_gap, free_gap, mixed_gap, sayable}
use Rattle.theorems_editions.specs.Claims.{Mixed}
use Rattle.theorems_editions.proofs.Places.{Slots, place_inside, same_gap, same_place}

-- ---- searches

some-true : (m : ℕ) (p : ℕ → Bool) → some_to m p ≡ true → (k : ℕ) × (1 ≤ k) × (k ≤ m) × (p k ≡ true)
unfolding some_to
some-true m p e =
    let (k, f) = is_some-true (lowest m 1 p) e in
    let r = lowest-range m 1 p k f in
    (k, r.0, omega arith, lowest-some m 1 p k f)

to_some : (m : ℕ) (p : ℕ → Bool) (k : ℕ) → 1 ≤ k → k ≤ m → p k ≡ true → some_to m p ≡ true
unfolding some_to
to_some m p k l h t = is_some-passes m 1 p k l (omega arith) t

-- one number further
pub some-none : (p : ℕ → Bool) → some_to 0 p ≡ false
unfolding some_to lowest is_some
some-none p = refl

pub some-last : (m : ℕ) (p : ℕ → Bool) → some_to (suc m) p ≡ some_to m p || p (suc m)
some-last m p =
    same_test _ _
    (λ t.
    let (k, l, u, f) = some-true (suc m) p t in
    eq_test k (suc m)
    (λ e. or_right (some_to m p) _ (rw (← e) f))
    (λ n. or_left _ _ (to_some m p k l (omega (arith, n)) f)))
    (λ t. further (or_cases _ _ t))
  where
    further : (some_to m p ≡ true) ⊎ (p (suc m) ≡ true) → some_to (suc m) p ≡ true
    further (inl t) = let (k, l, u, f) = some-true m p t in to_some (suc m) p k l (omega arith) f
    further (inr t) = to_some (suc m) p (suc m) (omega arith) (omega arith) t

failing : (m : ℕ) (q : ℕ → Bool) → all_to m q ≡ false → (k : ℕ) × (1 ≤ k) × (k ≤ m) × (q k ≡ false)
unfolding all_to
failing zero q e = absurd (false≢true (sym e))
failing (suc m) q e =
    test (q (suc m))
    (λ h. let (k, l, u, f) = failing m q (rw h at e) in (k, l, omega arith, f))
    (λ h. (suc m, omega arith, omega arith, h))

-- a pair of slots that h names, with the gap at place k
pub record Has (d e : ℕ) (h : ℕ → ℕ → Bool) (k : ℕ) : Type 0 where
  pub low : ℕ
  pub high : ℕ
  pub owned : (1 ≤ low) × (low ≤ d) × (1 ≤ high) × (high ≤ e)
  pub place : place_of low high ≡ k
  pub named : h low high ≡ true

pub has : (d e : ℕ) (h : ℕ → ℕ → Bool) (k : ℕ) → has_gap d e h k ≡ true → Has d e h k
unfolding has_gap
has d e h k t =
    let (v, lv, uv, r) = some-true d _ t in
    let (w, lw, uw, s) = some-true e _ r in
    let b = both (eqb (place_of v w) k) _ s in
    record { low = v; high = w; owned = (lv, uv, lw, uw); place = eqb-true _ _ b.0; named = b.1 }

pub to-has : (d e : ℕ) (h : ℕ → ℕ → Bool) (k : ℕ) → Has d e h k → has_gap d e h k ≡ true
unfolding has_gap
to-has d e h k r =
    let o = r.owned in
    to_some d _ r.low o.0 o.1 (to_some e _ r.high o.2 o.3 (to_both _ _ (eq-eqb _ _ r.place) r.named))

-- ---- owned slots

module _ (p : Problem) (r : Ranged p) where
  pub slots : (i j v w : ℕ) → owns p i v ≡ true → owns p j w ≡ true → Slots v w
  unfolding owns
  slots i j v w a b =
      let x = within-true _ _ a in
      let y = within-true _ _ b in
      record { low = x.0; most = omega (arith, x.1, domain-small p r i); low' = y.0; most' = omega (arith, y.1, domain-small p r j) }

  -- a pair of owned slots that h names has its gap
  pub gap-had : (h : ℕ → ℕ → Bool) (i j v w : ℕ) → owns p i v ≡ true → owns p j w ≡ true → h v w ≡ true
      → has_gap (domain p i) (domain p j) h (place_of v w) ≡ true
  unfolding owns
  gap-had h i j v w a b t =
      let x = within-true _ _ a in
      let y = within-true _ _ b in
      to-has (domain p i) (domain p j) h (place_of v w) (record { low = v; high = w; owned = (x.0, x.1, y.0, y.1); place = refl; named = t })

  -- ---- sayable

  unmixed : sayable p ≡ true → (i j k : ℕ) → 1 ≤ i → i < j → j ≤ p.count → k < 15 → mixed_gap p i j k ≡ false
  unfolding sayable gap_places
  unmixed s i j k l o u h =
      let row = all_to-at _ _ s j (omega arith) u in
      let one = all_to-at _ _ row i l (omega arith) in
      not-true _ (all_to-at 15 _ one (suc k) (omega arith) h)

  -- all owned pairs with a banned gap are banned
  pub gap-bans : sayable p ≡ true → (i j v w : ℕ) → 1 ≤ i → i < j → j ≤ p.count → owns p i v ≡ true → owns p j w ≡ true
      → banned_gap p i j (place_of v w) ≡ true → banned p i j v w ≡ true
  unfolding mixed_gap free_gap
  gap-bans s i j v w l o u a b g =
      test (banned p i j v w)
      (λ t. t)
      (λ t. absurd (false≢true
      (sym (unmixed s i j (place_of v w) l o u (place_inside v w (slots i j v w a b)))
      ∙ to_both _ _ g (gap-had (λ v w. not (banned p i j v w)) i j v w a b (rw t)))))

  -- ---- the two pairs

  mixed-at : (i j k : ℕ) → 1 ≤ i → i < j → j ≤ p.count → mixed_gap p i j k ≡ true → Mixed p
  unfolding owns mixed_gap banned_gap free_gap
  mixed-at i j k l o u t =
      let d = domain p i in
      let e = domain p j in
      let m = both (banned_gap p i j k) _ t in
      let b = has d e (banned p i j) k m.0 in
      let f = has d e (λ v w. not (banned p i j v w)) k m.1 in
      let ob = b.owned in
      let of = f.owned in
      let own : (owns p i b.low ≡ true) × (owns p j b.high ≡ true) =
      (to-within d b.low ob.0 ob.1, to-within e b.high ob.2 ob.3) in
      let own' : (owns p i f.low ≡ true) × (owns p j f.high ≡ true) =
      (to-within d f.low of.0 of.1, to-within e f.high of.2 of.3) in
      record {
        lower = i;
        higher = j;
        agents = (l, o, u);
        low = b.low;
        high = b.high;
        owned = own;
        ban = b.named;
        low' = f.low;
        high' = f.high;
        owned' = own';
        free = not-true _ f.named;
        equal =
            same_gap b.low b.high f.low f.high (slots i j b.low b.high own.0 own.1)
            (slots i j f.low f.high own'.0 own'.1) (b.place ∙ sym f.place);
      }

  -- not sayable: there is such a gap
  pub unsayable : sayable p ≡ false → Mixed p
  unfolding sayable gap_places
  unsayable s =
      let (j, lj, uj, a) = failing p.count _ s in
      let (i, li, ui, b) = failing (pred j) _ a in
      let (k, lk, uk, c) = failing 15 _ b in
      mixed-at i j (pred k) li (omega arith) uj (not-false _ c)

  -- and where there is, it is not sayable
  pub mixed-refuses : Mixed p → sayable p ≡ false
  unfolding banned_gap
  mixed-refuses x =
      test (sayable p)
      (λ s.
      let i = x.lower in
      let j = x.higher in
      let o = x.owned in
      let o' = x.owned' in
      let a = x.agents in
      let same : place_of x.low x.high ≡ place_of x.low' x.high' =
      same_place x.low x.high x.low' x.high' (slots i j x.low x.high o.0 o.1) (slots i j x.low' x.high' o'.0 o'.1) x.equal in
      let g = gap-had (banned p i j) i j x.low x.high o.0 o.1 x.ban in
      let b = gap-bans s i j x.low' x.high' a.0 a.1 a.2 o'.0 o'.1 (rw same at g) in
      absurd (false≢true (sym x.free ∙ b)))
      (λ s. s)
