-- Records laid by place and laid by place again stand as they stood, for every count and width; and records changed one by one, and back.
-- What stands at place × count + r is byte `place` of record r; and a list is its stretches, one behind the other.
use Rattle.std.proofs.Common.{ℕ, zero, suc, ◌+◌, ◌*◌, ◌≤◌, ◌<◌, ◌≡◌, refl, ap, ◌∙◌, List, [], ◌∷◌, ◌++◌, add-zero, add-suc, zero-add, mul-zero, mul_comm, mul-le-mul_left, arith, length, get_or, take, drop, take-add, drop-cons, drop-drop}
use native.Mathlib.Nat.{sub-zero}
use lib.Seq.{take-length}
use Rattle.model_base.specs.Finite.{gather}
use Rattle.model_base.proofs.Gathers.{gather-same}
use Rattle.model_image.specs.Bytes.{stretch}
use Rattle.model_image.proofs.Stretches.{Stands, stands-whole, stands_one, stands_read, stands-stretch, same-lengths}
use Rattle.model_image_forms.specs.Places.{by_place, each_record}
use Rattle.model_image_forms.specs.Claims.{LaidBack}

-- ---- a list, byte by byte and record by record

-- so many bytes from a place on, one by one
pub bytes-stretch : (m a k : ℕ) (s : List ℕ) → a + k + m ≤ length s → gather m k (λ i. get_or s (a + i) 0 ∷ []) ≡ stretch (a + k) m s
unfolding gather stretch
bytes-stretch zero a k s h = refl
bytes-stretch (suc m) a k s h =
    rw (drop-cons s (a + k) 0 (omega arith))
    (ap (λ (l : List ℕ). get_or s (a + k) 0 ∷ l) (rw (add-suc a k) at (bytes-stretch m a (suc k) s (omega arith))))

-- so many records from a number on
records-stretch : (m w k : ℕ) (s : List ℕ) → gather m k (λ r. stretch (w * r) w s) ≡ stretch (w * k) (w * m) s
unfolding gather stretch
records-stretch zero w k s = rw mul-zero
records-stretch (suc m) w k s =
    let p : w * suc m ≡ w + w * m = omega arith in
    let q : w * suc k ≡ w * k + w = omega arith in
    rw (p, take-add w (w * m) (drop (w * k) s), drop-drop w (w * k) s, ← q)
    (ap (λ (l : List ℕ). take w (drop (w * k) s) ++ l) (records-stretch m w (suc k) s))

records-all : (count width : ℕ) (s : List ℕ) → length s ≡ width * count → gather count 0 (λ r. stretch (width * r) width s) ≡ s
unfolding stretch
records-all count width s e = records-stretch count width 0 s ∙ rw (mul-zero, ← e) (take-length s)

-- ---- laid by place

one_each : (count : ℕ) (f : ℕ → ℕ) → length (gather count 0 (λ r. f r ∷ [])) ≡ count
one_each count f = omega (arith, same-lengths count 0 1 (λ r. f r ∷ []) (λ _ _ _. refl))

each-place : (count width : ℕ) (f : ℕ → ℕ → ℕ) → length (gather width 0 (λ place. gather count 0 (λ r. f place r ∷ []))) ≡ width * count
each-place count width f =
    same-lengths width 0 count (λ place. gather count 0 (λ r. f place r ∷ [])) (λ place _ _. one_each count (f place)) ∙ mul_comm count width

pub laid-length : (count width : ℕ) (s : List ℕ) → length (by_place count width s) ≡ width * count
unfolding by_place
laid-length count width s = each-place count width _

-- the bytes of one place, of all records
place-stands : (count width : ℕ) (s : List ℕ) (place : ℕ) → place < width
    → Stands (by_place count width s) (count * place) (gather count 0 (λ r. get_or s (width * r + place) 0 ∷ []))
unfolding by_place
place-stands count width s place v =
    stands_one width 0 place count (λ p. gather count 0 (λ r. get_or s (width * r + p) 0 ∷ [])) (count * place)
    (λ p _ _. one_each count (λ r. get_or s (width * r + p) 0)) (omega arith) (omega arith)
    (rw sub-zero (zero-add (count * place))) (stands-whole (by_place count width s))

pub laid-at : (count width : ℕ) (s : List ℕ) (r place : ℕ) → r < count → place < width
    → get_or (by_place count width s) (count * place + r) 0 ≡ get_or s (width * r + place) 0
laid-at count width s r place u v =
    stands_read (get_or s (width * r + place) 0) 0
    (stands_one count 0 r 1 (λ r. get_or s (width * r + place) 0 ∷ []) (count * place + r) (λ _ _ _. refl) (omega arith) (omega arith) (omega arith)
    (place-stands count width s place v))

pub laid-back : LaidBack
unfolding by_place
laid-back count width s e =
    gather-same count 0 _ (λ r. stretch (width * r) width s) (λ r _ u. record-back r (omega arith)) ∙ records-all count width s e
  where
    record-back : (r : ℕ) → r < count
        → gather width 0 (λ place. get_or (by_place count width s) (count * place + r) 0 ∷ []) ≡ stretch (width * r) width s
    record-back r u =
        gather-same width 0 _ (λ place. get_or s (width * r + place) 0 ∷ [])
        (λ place _ v. ap (λ (x : ℕ). x ∷ []) (laid-at count width s r place u (omega arith)))
        ∙ rw add-zero at (bytes-stretch width (width * r) 0 s (omega (arith, mul-le-mul_left width u)))

-- ---- each record changed by itself, and back

-- f makes records of width w into such of width v, and g makes them what they were
module _ (count w v : ℕ) (f g : List ℕ → List ℕ) (s : List ℕ) (long : (r : ℕ) → r < count → length (f (stretch (w * r) w s)) ≡ v) where
  pub each-length : length (each_record count w f s) ≡ v * count
  unfolding each_record
  each-length = same-lengths count 0 v (λ r. f (stretch (w * r) w s)) (λ r _ u. long r (omega arith))

  each_at : (r : ℕ) → r < count → stretch (v * r) v (each_record count w f s) ≡ f (stretch (w * r) w s)
  unfolding each_record
  each_at r u =
      stands-stretch v (long r u)
      (stands_one count 0 r v (λ r. f (stretch (w * r) w s)) (v * r) (λ r _ u. long r (omega arith)) (omega arith) (omega arith)
      (rw sub-zero (zero-add (v * r))) (stands-whole (each_record count w f s)))

  pub each_back : length s ≡ w * count → ((r : ℕ) → r < count → g (f (stretch (w * r) w s)) ≡ stretch (w * r) w s)
      → each_record count v g (each_record count w f s) ≡ s
  unfolding each_record
  each_back e back =
      gather-same count 0 _ (λ r. stretch (w * r) w s) (λ r _ u. ap g (each_at r (omega arith)) ∙ back r (omega arith)) ∙ records-all count w s e
