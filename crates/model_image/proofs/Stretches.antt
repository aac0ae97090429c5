-- What stands in a list from a place on: the parts of what is appended or gathered there stand at their own places, and are what is read there.
-- What follows is not looked at, so that nothing is said of it.
use Rattle.std.proofs.Common.{ℕ, zero, suc, ◌+◌, ◌-◌, ◌*◌, ◌≤◌, ◌<◌, ◌≡◌, refl, sym, ap, ◌∙◌, List, [], ◌∷◌, ◌++◌, append-nil, append_assoc, add-zero, arith, length, get_or, take, drop, length-append, take_at, drop_at, drop-drop, get_or-drop}
use Rattle.model_base.specs.Finite.{gather}
use Rattle.model_base.proofs.Gathers.{gather-split}
use Rattle.model_image.specs.Bytes.{stretch}

-- l stands in s from place a on
pub record Stands {A : Type 0} (s : List A) (a : ℕ) (l : List A) : Type 0 where
  pub rest : List A
  pub is : drop a s ≡ l ++ rest

module _ {A : Type 0} where
  -- the whole list, in any form
  pub stands-as : {s l : List A} → s ≡ l → Stands s 0 l
  stands-as {l = l} e = record { rest = []; is = e ∙ sym (append-nil l) }

  pub stands-whole : (l : List A) → Stands l 0 l
  stands-whole l = stands-as refl

  pub stands-first : (l r : List A) → Stands (l ++ r) 0 l
  stands-first l r = record { rest = r; is = refl }

  -- ---- the parts of what is appended

  pub stands-left : {s : List A} {a : ℕ} (l r : List A) → Stands s a (l ++ r) → Stands s a l
  stands-left l r h = record { rest = r ++ h.rest; is = h.is ∙ append_assoc l r h.rest }

  pub stands-right : {s : List A} {a : ℕ} (l r : List A) (n b : ℕ) → length l ≡ n → a + n ≡ b → Stands s a (l ++ r) → Stands s b r
  stands-right {s} {a} l r n b e p h =
      record {
        rest = h.rest;
        is = ap (λ (k : ℕ). drop k s) (sym p)
            ∙ sym (drop-drop n a s)
            ∙ ap (drop n) (h.is ∙ append_assoc l r h.rest)
            ∙ drop_at l (r ++ h.rest) n e;
      }

  -- ---- the parts of what is gathered

  -- behind those before it
  pub stands-part : {s : List A} {a : ℕ} (m k i : ℕ) (f : ℕ → List A) (b : ℕ) → k ≤ i → i < k + m
      → a + length (gather (i - k) k f) ≡ b → Stands s a (gather m k f) → Stands s b (f i)
  unfolding gather
  stands-part {s} {a} m k i f b l u p h =
      let d = i - k in
      let e : m ≡ d + suc (m - suc d) = omega arith in
      let q : k + d ≡ i = omega arith in
      let g : Stands s a (gather d k f ++ (f i ++ gather (m - suc d) (suc i) f)) = rw (e, gather-split d (suc (m - suc d)) k f, q) at h in
      let after = gather (m - suc d) (suc i) f in
      stands-left (f i) after (stands-right (gather d k f) (f i ++ after) (length (gather d k f)) b refl p g)

  -- each of the same length
  pub same-lengths : (m k w : ℕ) (f : ℕ → List A) → ((j : ℕ) → k ≤ j → j < k + m → length (f j) ≡ w) → length (gather m k f) ≡ w * m
  unfolding gather
  same-lengths zero k w f e = omega arith
  same-lengths (suc m) k w f e =
      let rest = same-lengths m (suc k) w f (λ j l u. e j (omega arith) (omega arith)) in
      omega (arith, length-append (f k) (gather m (suc k) f), e k (omega arith) (omega arith), rest)

  pub stands_one : {s : List A} {a : ℕ} (m k i w : ℕ) (f : ℕ → List A) (b : ℕ) → ((j : ℕ) → k ≤ j → j < k + m → length (f j) ≡ w)
      → k ≤ i → i < k + m → a + w * (i - k) ≡ b → Stands s a (gather m k f) → Stands s b (f i)
  stands_one m k i w f b e l u p h =
      stands-part m k i f b l u (rw (same-lengths (i - k) k w f (λ j x y. e j x (omega arith))) p) h

  -- ---- what is read there

  pub stands_read : {s l : List A} {a : ℕ} (x d : A) → Stands s a (x ∷ l) → get_or s a d ≡ x
  stands_read {s} {a = a} x d h = ap (λ (k : ℕ). get_or s k d) (sym (add-zero a)) ∙ sym (get_or-drop a s 0 d) ∙ ap (λ (r : List A). get_or r 0 d) h.is

pub stands-stretch : {s l : List ℕ} {a : ℕ} (n : ℕ) → length l ≡ n → Stands s a l → stretch a n s ≡ l
unfolding stretch
stands-stretch {l = l} n e h = ap (take n) h.is ∙ take_at l h.rest n e
