-- What is gathered where most of the numbers have nothing: from none, from one, from the low or the high ones; and a list, element by element.
use Rattle.std.proofs.Common.{ℕ, zero, suc, pred, ◌+◌, ◌-◌, ◌≤◌, ◌<◌, ◌≡◌, refl, sym, ap, ap₂, ◌∙◌, ◌≢◌, List, [], ◌∷◌, ◌++◌, append-nil, append_assoc, add-zero, add-suc, suc-add, zero-add, arith, length, get_or, drop, drop_of_length-le, drop-cons}
use Rattle.model_base.specs.Finite.{gather}
use Rattle.model_base.proofs.Tests.{eq_test}

pub gather-same : {A : Type 0} (m k : ℕ) (f g : ℕ → List A) → ((j : ℕ) → k ≤ j → j < k + m → f j ≡ g j) → gather m k f ≡ gather m k g
unfolding gather
gather-same zero k f g h = refl
gather-same (suc m) k f g h =
    ap₂ (λ (l r : List _). l ++ r) (h k (omega arith) (omega arith))
    (gather-same m (suc k) f g (λ j l u. h j (omega arith) (omega arith)))

pub gather_none : {A : Type 0} (m k : ℕ) (f : ℕ → List A) → ((j : ℕ) → k ≤ j → j < k + m → f j ≡ []) → gather m k f ≡ []
unfolding gather
gather_none zero k f h = refl
gather_none (suc m) k f h =
    rw (h k (omega arith) (omega arith)) (gather_none m (suc k) f (λ j l u. h j (omega arith) (omega arith)))

pub gather-one : {A : Type 0} (m k i : ℕ) (f : ℕ → List A) → k ≤ i → i < k + m → ((j : ℕ) → j ≢ i → f j ≡ []) → gather m k f ≡ f i
unfolding gather
gather-one zero k i f l u h = absurd (omega arith)
gather-one (suc m) k i f l u h =
    eq_test k i
    (λ e.
    rw (gather_none m (suc k) f (λ j a b. h j (λ q. omega arith)), ← e) (append-nil (f k)))
    (λ n. rw (h k n) (gather-one m (suc k) i f (omega (arith, n)) (omega arith) h))

pub gather-split : {A : Type 0} (m n k : ℕ) (f : ℕ → List A) → gather (m + n) k f ≡ gather m k f ++ gather n (k + m) f
unfolding gather
gather-split zero n k f = rw (add-zero, zero-add)
gather-split (suc m) n k f =
    rw (suc-add m n, add-suc k m, ← suc-add k m, append_assoc (f k) (gather m (suc k) f) (gather n (suc k + m) f))
    (ap (λ (l : List _). f k ++ l) (gather-split m n (suc k) f))

-- nothing above m
pub gather-low : {A : Type 0} (m n : ℕ) (f : ℕ → List A) → m ≤ n → ((j : ℕ) → m < j → j ≤ n → f j ≡ []) → gather n 1 f ≡ gather m 1 f
gather-low m n f l h =
    let e : n ≡ m + (n - m) = omega arith in
    ap (λ (x : ℕ). gather x 1 f) e
    ∙ gather-split m (n - m) 1 f
    ∙ rw (gather_none (n - m) (1 + m) f (λ j a b. h j (omega arith) (omega arith))) (append-nil (gather m 1 f))

-- nothing up to m
pub gather-high : {A : Type 0} (m n : ℕ) (f : ℕ → List A) → m ≤ n → ((j : ℕ) → 1 ≤ j → j ≤ m → f j ≡ [])
    → gather n 1 f ≡ gather (n - m) (suc m) f
gather-high m n f l h =
    let e : n ≡ m + (n - m) = omega arith in
    let q : 1 + m ≡ suc m = omega arith in
    ap (λ (x : ℕ). gather x 1 f) e
    ∙ gather-split m (n - m) 1 f
    ∙ rw (gather_none m 1 f (λ j a b. h j a (omega arith)), q)

-- what a list holds from place c on
gather-rest : {A : Type 0} (n c : ℕ) (t : List A) (d : A) → length t ≡ c + n → gather n (suc c) (λ k. get_or t (pred k) d ∷ []) ≡ drop c t
unfolding gather
gather-rest zero c t d e = sym (drop_of_length-le t {i = c} (omega arith))
gather-rest (suc n) c t d e =
    ap (λ (l : List _). get_or t c d ∷ l) (gather-rest n (suc c) t d (omega arith)) ∙ sym (drop-cons t c d (omega arith))

pub gather-list : {A : Type 0} (n : ℕ) (t : List A) (d : A) → length t ≡ n → gather n 1 (λ k. get_or t (pred k) d ∷ []) ≡ t
gather-list n t d e = gather-rest n 0 t d (omega arith)
