-- Runs: one that begins at a place holds banned places only, and every banned place lies in one that begins at or below it.
-- Upward along the run, and downward to where it begins.
use Rattle.std.proofs.Common.{ℕ, zero, suc, pred, ◌+◌, ◌-◌, ◌≤◌, ◌<◌, ◌≡◌, refl, Bool, true, false, arith}
use Rattle.model_base.specs.Finite.{from_one}
use Rattle.model_base.proofs.Tests.{test, eq_test, both, to_both}
use Rattle.model_editions.specs.Gaps.{gap_places, begins, last_from, last_of}

module _ (g : ℕ → Bool) where
  -- ---- from its first place up

  last-range : (m k : ℕ) → (k ≤ last_from m k g) × (last_from m k g ≤ k + m)
  unfolding last_from
  last-range zero k = (omega arith, omega arith)
  last-range (suc m) k =
      test (g (suc k))
      (λ e. let r = last-range m (suc k) in rw (e, last_from) (omega arith, omega arith))
      (λ e. rw (e, last_from) (omega arith, omega arith))

  held : (m k x : ℕ) → g k ≡ true → k ≤ x → x ≤ last_from m k g → g x ≡ true
  unfolding last_from
  held zero k x b l u = let e : x ≡ k = omega arith in rw e b
  held (suc m) k x b l u =
      eq_test x k
      (λ e. rw e b)
      (λ n. test (g (suc k))
      (λ e. held m (suc k) x e (omega (arith, n)) (rw (e, last_from) at u))
      (λ e. let h : x ≤ k = rw (e, last_from) at u in absurd (omega (arith, n))))

  reaches : (m k x : ℕ) → k ≤ x → x ≤ k + m → ((y : ℕ) → k ≤ y → y ≤ x → g y ≡ true) → x ≤ last_from m k g
  unfolding last_from
  reaches zero k x l u all = omega arith
  reaches (suc m) k x l u all =
      eq_test x k
      (λ e. omega (arith, last-range (suc m) k))
      (λ n. rw (all (suc k) (omega arith) (omega (arith, n)), last_from)
      (reaches m (suc k) x (omega (arith, n)) (omega arith) (λ y a b. all y (omega arith) b)))

  -- ---- of all places

  pub last-least : (k : ℕ) → k ≤ last_of g k
  unfolding last_of
  last-least k = (last-range (pred gap_places - k) k).0

  pub last-most : (k : ℕ) → k < 15 → last_of g k < 15
  unfolding last_of gap_places
  last-most k h = omega (arith, (last-range (14 - k) k).1)

  pub run_holds : (k x : ℕ) → begins g k ≡ true → k ≤ x → x ≤ last_of g k → g x ≡ true
  unfolding last_of begins
  run_holds k x b l u = held (pred gap_places - k) k x (both (g k) _ b).0 l u

  -- ---- the run that a banned place lies in

  record Begun (x : ℕ) : Type 0 where
    first : ℕ
    low : first ≤ x
    begin : begins g first ≡ true
    all : (y : ℕ) → first ≤ y → y ≤ x → g y ≡ true

  begun : (x : ℕ) → g x ≡ true → Begun x
  unfolding begins from_one
  begun zero b =
      record { first = 0; low = omega arith; begin = to_both _ _ b refl; all = λ y l u. let e : y ≡ 0 = omega arith in rw e b }
  begun (suc x) b = test (g x) (λ e. further (begun x e)) here
    where
      further : Begun x → Begun (suc x)
      further r =
          record {
            first = r.first;
            low = omega (arith, r.low);
            begin = r.begin;
            all = λ y l u. eq_test y (suc x) (λ q. rw q b) (λ n. r.all y l (omega (arith, n)));
          }

      here : g x ≡ false → Begun (suc x)
      here e =
          record {
            first = suc x;
            low = omega arith;
            begin = to_both _ _ b (rw e);
            all = λ y l u. let q : y ≡ suc x = omega arith in rw q b;
          }

  pub record InRun (x : ℕ) : Type 0 where
    pub first : ℕ
    pub low : first ≤ x
    pub begin : begins g first ≡ true
    pub high : x ≤ last_of g first

  pub in-run : (x : ℕ) → x < 15 → g x ≡ true → InRun x
  unfolding last_of gap_places
  in-run x h b =
      let r = begun x b in
      record {
        first = r.first;
        low = r.low;
        begin = r.begin;
        high = reaches (14 - r.first) r.first x r.low (omega (arith, r.low)) r.all;
      }
