-- What is gathered over all pairs of agents: what all of it has, what some of it has, and how much it is.
-- Lower agent by lower agent; each has so many agents below it.
use Rattle.std.proofs.Common.{ℕ, zero, suc, ◌+◌, ◌-◌, ◌*◌, ◌≤◌, ◌<◌, ◌≡◌, ap, List, add-mul, arith, length, length-append}
use Rattle.model_base.specs.Finite.{gather}
use Rattle.model_base.proofs.Tests.{eq_test}
use Rattle.model_base.proofs.Lists.{All, Any, gather-all, gather-length, any_left, any-right}
use Rattle.model_sheet.specs.Problem.{max_agents, pairs_before}
use Rattle.model_sheet.specs.Row.{Row}
use Rattle.model_editions.specs.Bans.{over_pairs}

-- one of the parts has it
pub any-gather : {A : Type 0} (P : A → Type 0) (f : ℕ → List A) (j m k : ℕ) → k ≤ j → j < k + m → Any P (f j) → Any P (gather m k f)
unfolding gather
any-gather P f j zero k l u h = absurd (omega arith)
any-gather P f j (suc m) k l u h =
    eq_test j k
    (λ e. any_left P (f k) _ (rw e at h))
    (λ n. any-right P (f k) _ (any-gather P f j m (suc k) (omega (arith, n)) (omega arith) h))

module _ (n : ℕ) (f : ℕ → ℕ → List Row) where
  pub pairs-all : (P : Row → Type 0) → ((i j : ℕ) → 1 ≤ i → i < j → j ≤ n → All P (f i j)) → All P (over_pairs n f)
  unfolding over_pairs
  pairs-all P h =
      gather-all P _ n 1
      (λ i li ui. gather-all P (f i) (n - i) (suc i) (λ j lj uj. h i j li (omega arith) (omega arith)))

  pub pairs-any : (P : Row → Type 0) (i j : ℕ) → 1 ≤ i → i < j → j ≤ n → Any P (f i j) → Any P (over_pairs n f)
  unfolding over_pairs
  pairs-any P i j l o u h =
      any-gather P _ i n 1 l (omega arith) (any-gather P (f i) j (n - i) (suc i) o (omega arith) h)

  -- ---- how much

  -- where no pair has more than c, and m agents are behind agent k
  module _ (c : ℕ) (most : (i j : ℕ) → 1 ≤ i → i < j → j ≤ n → length (f i j) ≤ c) where
    behind : (m k : ℕ) → k + m ≡ n → length (gather m (suc k) (λ i. gather (n - i) (suc i) (f i))) ≤ pairs_before m * c
    unfolding gather pairs_before
    behind zero k e = omega arith
    behind (suc m) k e =
        let left : (n - suc k) * c ≡ m * c = ap (λ (x : ℕ). x * c) (omega arith) in
        let here = gather-length c (n - suc k) (suc (suc k)) (f (suc k)) (λ j l u. most (suc k) j (omega arith) (omega arith) (omega arith)) in
        rw length-append (omega (arith, here, add-mul m (pairs_before m) c, behind m (suc k) (omega arith)))

    pub pairs-length : length (over_pairs n f) ≤ pairs_before n * c
    unfolding over_pairs
    pairs-length = behind n 0 (omega arith)

-- 66 pairs at most
pub pairs-most : (n : ℕ) → n ≤ max_agents → pairs_before n ≤ 66
unfolding max_agents pairs_before
pairs-most n h = up 12 n h
  where
    up : (m n : ℕ) → n ≤ m → pairs_before n ≤ pairs_before m
    up zero n h = let z : n ≡ 0 = omega arith in rw z (omega arith)
    up (suc m) n h = eq_test n (suc m) (λ e. rw e (omega arith)) (λ d. omega (arith, up m n (omega (arith, d))))
