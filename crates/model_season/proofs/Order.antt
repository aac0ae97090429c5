-- The order of the sheets does not matter.
-- Two sheets more are counted alike in either order; so a sheet can be moved to the front of a list, and what is left is by induction.
use Rattle.std.proofs.Common.{None, Option, Some, ℕ, min, max, ◌≡◌, refl, sym, ap, ◌∙◌, true, false, List, [], ◌∷◌, ◌++◌, append-nil, add_comm, arith, eqb}
use mathlib.Core.Path.{fun_ext}
use native.Mathlib.Nat.{add_left_comm, min_comm, max_comm}
use Rattle.model_base.proofs.Tests.{test}
use Rattle.model_network.specs.Run.{Ending, one_if}
use Rattle.model_season.specs.Season.{Outcome, Refused, Ended, outcome, Rounds, Figures, place, has_rounds, one_more, with_rounds, counting, with_outcome, figures_of}
use Rattle.model_season.specs.Claims.{AnyOrder, OneMoreSheet}

-- ---- two more, in either order

more-swaps : (f : ℕ → ℕ) (a b : ℕ) → one_more (one_more f a) b ≡ one_more (one_more f b) a
unfolding one_more
more-swaps f a b = fun_ext (λ j. let x : ℕ = f j in let y : ℕ = one_if (eqb j a) in let z : ℕ = one_if (eqb j b) in omega arith)

low-swaps : (a b c : ℕ) → min a (min b c) ≡ min b (min a c)
low-swaps a b c = omega arith

high-swaps : (a b c : ℕ) → max a (max b c) ≡ max b (max a c)
high-swaps a b c = omega arith

rounds-swap : (a b : ℕ) (r : Option Rounds) → with_rounds a (with_rounds b r) ≡ with_rounds b (with_rounds a r)
unfolding with_rounds
rounds-swap a b None = rw (min_comm a b, max_comm a b, add_comm a b)
rounds-swap a b (Some r) = rw (low-swaps a b r.fewest, high-swaps a b r.most, add_left_comm a b r.sum)

pub counts-rounds : (e : Ending) (n : ℕ) (r : Option Rounds) → has_rounds e ≡ true → counting e n r ≡ with_rounds n r
unfolding counting
counts-rounds e n r t = rw (t, counting)

pub counts-none : (e : Ending) (n : ℕ) (r : Option Rounds) → has_rounds e ≡ false → counting e n r ≡ r
unfolding counting
counts-none e n r t = rw (t, counting)

counting-swaps : (d e : Ending) (a b : ℕ) (r : Option Rounds) → counting d a (counting e b r) ≡ counting e b (counting d a r)
counting-swaps d e a b r =
    test (has_rounds d)
    (λ t. test (has_rounds e)
    (λ u. counts-rounds d a _ t ∙ ap (with_rounds a) (counts-rounds e b r u) ∙ rounds-swap a b r
    ∙ sym (counts-rounds e b _ u ∙ ap (with_rounds b) (counts-rounds d a r t)))
    (λ u. ap (counting d a) (counts-none e b r u) ∙ sym (counts-none e b _ u)))
    (λ t. counts-none d a _ t ∙ sym (ap (counting e b) (counts-none d a r t)))

pub outcomes-swap : (x y : Outcome) (f : Figures) → with_outcome x (with_outcome y f) ≡ with_outcome y (with_outcome x f)
unfolding with_outcome
outcomes-swap (Refused a) (Refused b) f = rw (more-swaps f.refused b a)
outcomes-swap (Refused a) (Ended e n) f = refl
outcomes-swap (Ended e n) (Refused a) f = refl
outcomes-swap (Ended d a) (Ended e b) f = rw (more-swaps f.words (place e) (place d), counting-swaps d e a b f.rounds)

-- ---- a sheet anywhere in a list

pub inserted : (before : List (List ℕ)) (sheet : List ℕ) (after : List (List ℕ))
    → figures_of (before ++ (sheet ∷ after)) ≡ with_outcome (outcome sheet) (figures_of (before ++ after))
unfolding figures_of
inserted [] sheet after = refl
inserted (x ∷ before) sheet after =
    ap (with_outcome (outcome x)) (inserted before sheet after) ∙ outcomes-swap (outcome x) (outcome sheet) (figures_of (before ++ after))

pub one-more-sheet : OneMoreSheet
one-more-sheet sheets sheet =
    inserted sheets sheet [] ∙ ap (λ (l : List (List ℕ)). with_outcome (outcome sheet) (figures_of l)) (append-nil sheets)

pub any_order : AnyOrder
unfolding figures_of
any_order [] ys e = ap figures_of (sym e)
any_order (x ∷ xs) ys (before, after, e, rest) =
    ap (with_outcome (outcome x)) (any_order xs (before ++ after) rest) ∙ sym (inserted before x after) ∙ ap figures_of (sym e)
