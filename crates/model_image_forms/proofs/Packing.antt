-- A message's record packed and unpacked is what it was, where its left-side bytes are below 16.
-- Byte i of the six is the two slots of scanners 2 i + 1 and 2 i + 2, so that remainder and quotient by 16 are these.
use Rattle.std.proofs.Common.{ℕ, suc, ◌+◌, ◌*◌, ◌/◌, ◌%◌, ◌<◌, ◌≡◌, refl, sym, ap, ap₂, ◌∙◌, List, [], ◌∷◌, ◌++◌, arith, length, get_or, take, length-append, length-take-le, take_at, take-add, take_all}
use Rattle.model_base.specs.Finite.{gather}
use Rattle.model_base.proofs.Gathers.{gather-same}
use Rattle.model_image.specs.Bytes.{stretch}
use Rattle.model_image.specs.Reading.{message_length}
use Rattle.model_image.proofs.Stretches.{stands-whole, stands-right, stands_one, stands_read}
use Rattle.model_image_forms.specs.Packing.{front_length, packed_length, packed, unpacked}
use Rattle.model_image_forms.proofs.Places.{bytes-stretch}

-- a record of a message, its left-side slots below 16
pub record Packs (m : List ℕ) : Type 0 where
  pub long : length m ≡ message_length
  pub low : (i : ℕ) → i < 12 → get_or m (front_length + i) 0 < 16

-- ---- lengths

pub packed-length : (m : List ℕ) → length m ≡ message_length → length (packed m) ≡ packed_length
unfolding packed packed_length front_length gather message_length
packed-length m e = rw (length-append, length-take-le 4 m (omega arith))

pub unpacked-length : (m : List ℕ) → length m ≡ packed_length → length (unpacked m) ≡ message_length
unfolding unpacked packed_length front_length gather message_length
unpacked-length m e = rw (length-append, length-take-le 4 m (omega arith))

-- ---- the two halves of a byte

low_half : (x y : ℕ) → x < 16 → (x + 16 * y) % 16 ≡ x
low_half x y h = omega arith

high_half : (x y : ℕ) → x < 16 → (x + 16 * y) / 16 ≡ y
high_half x y h = omega arith

module _ (m : List ℕ) (p : Packs m) where
  front : take 4 (packed m) ≡ take 4 m
  unfolding packed front_length message_length
  front = take_at (take 4 m) _ 4 (length-take-le 4 m (omega (arith, p.long)))

  byte : (i : ℕ) → i < 6 → get_or (packed m) (4 + i) 0 ≡ get_or m (4 + 2 * i) 0 + 16 * get_or m (4 + suc (2 * i)) 0
  unfolding packed front_length message_length
  byte i u =
      let two : ℕ → List ℕ = λ i. (get_or m (4 + 2 * i) 0 + 16 * get_or m (4 + suc (2 * i)) 0) ∷ [] in
      let long = length-take-le 4 m (omega (arith, p.long)) in
      let six = stands-right (take 4 m) (gather 6 0 two) 4 4 long refl (stands-whole (packed m)) in
      stands_read _ 0 (stands_one 6 0 i 1 two (4 + i) (λ _ _ _. refl) (omega arith) (omega arith) (omega arith) six)

  halves : (i : ℕ) → i < 6
      → (get_or (packed m) (4 + i) 0 % 16 ∷ get_or (packed m) (4 + i) 0 / 16 ∷ []) ≡ get_or m (4 + 2 * i) 0 ∷ get_or m (4 + suc (2 * i)) 0 ∷ []
  unfolding front_length
  halves i u =
      let low = p.low (2 * i) (omega arith) in
      rw (byte i u)
      (ap₂ (λ (x y : ℕ). x ∷ y ∷ [])
      (low_half (get_or m (4 + 2 * i) 0) (get_or m (4 + suc (2 * i)) 0) low)
      (high_half (get_or m (4 + 2 * i) 0) (get_or m (4 + suc (2 * i)) 0) low))

  pub unpacked-packed : unpacked (packed m) ≡ m
  unfolding unpacked front_length message_length gather stretch
  unpacked-packed =
      ap₂ (λ (l r : List ℕ). l ++ r) front
      (gather-same 6 0 _ (λ i. get_or m (4 + 2 * i) 0 ∷ get_or m (4 + suc (2 * i)) 0 ∷ []) (λ i _ u. halves i u))
      ∙ ap (λ (l : List ℕ). take 4 m ++ l) (bytes-stretch 12 4 0 m (omega (arith, p.long)))
      ∙ sym (take-add 4 12 m)
      ∙ take_all 16 m (omega (arith, p.long))
