-- A channel's messages in its ring of eight places: the head is taken off by moving the head on, a message is put at the end by a store, and no
-- other channel is touched.
use Rattle.std.proofs.Common.{ℕ, zero, suc, ◌+◌, ◌-◌, ◌*◌, ◌%◌, ◌≤◌, ◌<◌, ◌≡◌, refl, sym, ap, ◌∙◌, ◌≢◌, List, [], ◌∷◌, ◌++◌, arith, add-one, get_or, set, length, get_or-set_same, get_or-set_other}
use Rattle.model_base.proofs.Arrays.{get_or-below}
use Rattle.abt_record.specs.declared.Place.{Place}
use Rattle.abt_record.specs.Abstract.{place_of, no_place, ring}
use Rattle.abt_record.proofs.Rings.{ring-snoc}

-- a head counts modulo eight
ring-cong : (ps : List Place) (b h j k : ℕ) → h % 8 ≡ j % 8 → ring ps b h k ≡ ring ps b j k
unfolding ring
ring-cong ps b h j zero e = refl
ring-cong ps b h j (suc k) e = rw (e, ring-cong ps b (suc h) (suc j) k (omega arith))

-- other places that hold the same
pub ring-same : (ps qs : List Place) (b h k : ℕ) → ((j : ℕ) → get_or ps (b + j % 8) no_place ≡ get_or qs (b + j % 8) no_place)
    → ring ps b h k ≡ ring qs b h k
unfolding ring
ring-same ps qs b h zero e = refl
ring-same ps qs b h (suc k) e = rw (e h, ring-same ps qs b (suc h) k e)

-- a store outside
ring-set : (ps : List Place) (b h k x : ℕ) (v : Place) → ((j : ℕ) → j < k → b + (h + j) % 8 ≢ x)
    → ring (set ps x v) b h k ≡ ring ps b h k
unfolding ring
ring-set ps b h zero x v n = refl
ring-set ps b h (suc k) x v n =
    let e : b + h % 8 ≢ x = λ q. n 0 (omega arith) (let z : h + 0 ≡ h = omega arith in rw z q) in
    rw (
      get_or-set_other ps x (b + h % 8) v no_place e,
      ring-set ps b (suc h) k x v (λ j l q. n (suc j) (omega arith) (let z : h + suc j ≡ suc h + j = omega arith in rw z q)),
    )

module _ (ps : List Place) (l h c : ℕ) where
  -- the head, and what is left
  pub ring-head : (d : Place) (x : ℕ) → x ≡ 8 * l + (h + 0) % 8 → 8 * l + 8 ≤ length ps → 0 < c
      → ring ps (8 * l) h c ≡ place_of (get_or ps x d) ∷ ring ps (8 * l) (suc h) (c - 1)
  unfolding ring
  ring-head d x e fits k =
      let n : c ≡ suc (c - 1) = omega arith in
      let m : x ≡ 8 * l + h % 8 = let z : h + 0 ≡ h = omega arith in rw z at e in
      ap (ring ps (8 * l) h) n
      ∙ ap (λ (p : Place). place_of p ∷ ring ps (8 * l) (suc h) (c - 1))
      (get_or-below ps (8 * l + h % 8) no_place d (omega arith) ∙ ap (λ (y : ℕ). get_or ps y d) (sym m))

  pub ring-moved : ring ps (8 * l) ((h + 1) % 8) (c - 1) ≡ ring ps (8 * l) (suc h) (c - 1)
  ring-moved = ring-cong ps (8 * l) ((h + 1) % 8) (suc h) (c - 1) (omega arith)

  -- one more at the end
  pub ring-put : (v : Place) (x : ℕ) → x ≡ 8 * l + (h + c) % 8 → 8 * l + 8 ≤ length ps → c < 8
      → ring (set ps x v) (8 * l) h (c + 1) ≡ ring ps (8 * l) h c ++ (place_of v ∷ [])
  ring-put v x e fits k =
      rw (e, add-one, ring-snoc)
      (rw (
        ring-set ps (8 * l) h c (8 * l + (h + c) % 8) v (λ j q r. absurd (omega arith)),
        get_or-set_same ps (8 * l + (h + c) % 8) v no_place (omega arith),
      ))

  -- behind the last of fewer
  pub ring-spared : (n : ℕ) (v : Place) (x : ℕ) → x ≡ 8 * l + (h + n) % 8 → c ≤ n → n < 8
      → ring (set ps x v) (8 * l) h c ≡ ring ps (8 * l) h c
  ring-spared n v x e k f = ring-set ps (8 * l) h c x v (λ j q r. absurd (omega arith))

  -- in another ring
  pub ring-apart : (k : ℕ) (g n : ℕ) (v : Place) (x : ℕ) → x ≡ 8 * l + (h + c) % 8 → k ≢ l
      → ring (set ps x v) (8 * k) g n ≡ ring ps (8 * k) g n
  ring-apart k g n v x e d = ring-set ps (8 * k) g n x v (λ j q r. d (omega arith))
