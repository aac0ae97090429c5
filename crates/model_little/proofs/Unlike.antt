-- Lists with no element twice: what is gathered, where a key tells the parts apart, and what is mapped by a function that tells its arguments
-- apart. Each element differs from all behind it.
use Rattle.std.proofs.Common.{ℕ, zero, suc, ◌+◌, ◌≤◌, ◌<◌, ◌≡◌, sym, ap, ◌∙◌, ◌≢◌, inl, inr, List, [], ◌∷◌, ◌++◌, map, arith}
use Rattle.model_base.specs.Finite.{gather}
use Rattle.model_base.proofs.Tests.{eq_test}
use Rattle.model_base.proofs.Lists.{All, Any, All-append, All-map, gather-all, any_left, any-right}

abbrev pub Unlike : {A : Type 0} → List A → Type 0
Unlike [] = Unit {0}
Unlike (x ∷ xs) = All (λ y. x ≢ y) xs × Unlike xs

module _ {A : Type 0} where
  unlike-append : (l r : List A) → Unlike l → Unlike r → All (λ x. All (λ y. x ≢ y) r) l → Unlike (l ++ r)
  unlike-append [] r a b apart = b
  unlike-append (x ∷ xs) r a b apart = (All-append (λ y. x ≢ y) xs r a.0 apart.0, unlike-append xs r a.1 b apart.1)

  -- of the m numbers from k on, where the elements of f j have the key j
  pub gather-unlike : (key : A → ℕ) (f : ℕ → List A) → ((j : ℕ) → All (λ x. key x ≡ j) (f j)) → ((j : ℕ) → Unlike (f j))
      → (m k : ℕ) → Unlike (gather m k f)
  unfolding gather
  gather-unlike key f keyed one zero k = tt
  gather-unlike key f keyed one (suc m) k =
      unlike-append (f k) (gather m (suc k) f) (one k) (gather-unlike key f keyed one m (suc k))
      (All-map (λ x. key x ≡ k) _ (λ x e. gather-all _ f m (suc k) (λ j l u. All-map (λ y. key y ≡ j) _ (λ y e'. differs x y j e e' l) (f j) (keyed j)))
      (f k) (keyed k))
    where
      differs : (x y : A) (j : ℕ) → key x ≡ k → key y ≡ j → suc k ≤ j → x ≢ y
      differs x y j e e' l same = let q : k ≡ j = sym e ∙ ap key same ∙ e' in omega arith

  -- one of the parts has it
  pub any-gather : (P : A → Type 0) (f : ℕ → List A) (j m k : ℕ) → k ≤ j → j < k + m → Any P (f j) → Any P (gather m k f)
  unfolding gather
  any-gather P f j zero k l u h = absurd (omega arith)
  any-gather P f j (suc m) k l u h =
      eq_test j k
      (λ e. any_left P (f k) _ (rw e at h))
      (λ n. any-right P (f k) _ (any-gather P f j m (suc k) (omega (arith, n)) (omega arith) h))

module _ {A B : Type 0} (f : A → B) where
  pub all_of_map : (P : B → Type 0) (l : List A) → All (λ x. P (f x)) l → All P (map f l)
  all_of_map P [] h = tt
  all_of_map P (x ∷ xs) h = (h.0, all_of_map P xs h.1)

  pub any-of-map : (P : B → Type 0) (l : List A) → Any (λ x. P (f x)) l → Any P (map f l)
  any-of-map P [] h = absurd h
  any-of-map P (x ∷ xs) (inl h) = inl h
  any-of-map P (x ∷ xs) (inr h) = inr (any-of-map P xs h)

  pub map-unlike : ((x y : A) → f x ≡ f y → x ≡ y) → (l : List A) → Unlike l → Unlike (map f l)
  map-unlike apart [] h = tt
  map-unlike apart (x ∷ xs) h =
      (all_of_map (λ y. f x ≢ y) xs (All-map (λ y. x ≢ y) _ (λ y n e. n (apart x y e)) xs h.0), map-unlike apart xs h.1)
