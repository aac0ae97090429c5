-- Where an element stands in a list: a list that has one that passes is split there, and two lists end to end are split at an element of the one or
-- of the other.
use Rattle.std.proofs.Common.{◌≡◌, refl, sym, ap, Bool, true, false, List, [], ◌∷◌, ◌++◌, ◌≤◌, arith}
use mathlib.Core.List.{head-eq_of_cons-eq, tail-eq_of_cons-eq}
use Rattle.model_base.specs.Lists.{All}
use Rattle.model_base.proofs.Tests.{test}
use Rattle.model_base.proofs.Counting.{count_if}

-- ---- end to end

pub data Split {A : Type 0} (xs ys before : List A) (x : A) (after : List A) : Type 0 where
  in_first : (zs : List A) → xs ≡ before ++ (x ∷ zs) → after ≡ zs ++ ys → Split xs ys before x after
  in_second : (zs : List A) → before ≡ xs ++ zs → ys ≡ zs ++ (x ∷ after) → Split xs ys before x after

pub split : {A : Type 0} (xs ys before : List A) (x : A) (after : List A) → xs ++ ys ≡ before ++ (x ∷ after) → Split xs ys before x after
split [] ys before x after e = in_second before refl e
split (u ∷ xs) ys [] x after e = in_first xs (rw (head-eq_of_cons-eq e)) (sym (tail-eq_of_cons-eq e))
split (u ∷ xs) ys (v ∷ before) x after e = go (split xs ys before x after (tail-eq_of_cons-eq e))
  where
    go : Split xs ys before x after → Split (u ∷ xs) ys (v ∷ before) x after
    go (in_first zs a b) = in_first zs (rw (head-eq_of_cons-eq e, a)) b
    go (in_second zs a b) = in_second zs (rw (head-eq_of_cons-eq e, a)) b

-- ---- by count

-- where some pass, the list is split at one of them
pub record SplitAt {A : Type 0} (p : A → Bool) (l : List A) : Type 0 where
  pub before : List A
  pub here : A
  pub after : List A
  pub passes : p here ≡ true
  pub whole : l ≡ before ++ (here ∷ after)

pub split_at : {A : Type 0} (p : A → Bool) (l : List A) → 1 ≤ count_if p l → SplitAt p l
unfolding count_if
split_at p [] h = absurd (omega arith)
split_at p (x ∷ xs) h =
    test (p x)
    (λ e. record { before = []; here = x; after = xs; passes = e; whole = refl })
    (λ e. longer (split_at p xs (omega (arith, rw e at h))))
  where
    longer : SplitAt p xs → SplitAt p (x ∷ xs)
    longer s =
        record {
          before = x ∷ s.before;
          here = s.here;
          after = s.after;
          passes = s.passes;
          whole = ap (λ (l : List _). x ∷ l) s.whole;
        }

pub count_none : {A : Type 0} (p : A → Bool) (l : List A) → count_if p l ≡ 0 → All (λ x. p x ≡ false) l
unfolding count_if
count_none p [] h = tt
count_none p (x ∷ xs) h =
    test (p x)
    (λ e. absurd (omega (arith, rw e at h)))
    (λ e. (e, count_none p xs (omega (arith, rw e at h))))
