-- The pairs of slots that could be banned: each is good, none stands twice, and every good row is one of them.
-- By agent, agent, value and value, each of which tells the parts of its loop apart.
use Rattle.std.proofs.Common.{ℕ, suc, ◌+◌, ◌-◌, ◌≤◌, ◌<◌, ◌≡◌, refl, inl, true, List, [], ◌∷◌, arith, lt-ltb, le-leb}
use Rattle.model_base.specs.Finite.{within, gather, every}
use Rattle.model_base.proofs.Tests.{both, to_both, within-true, to-within}
use Rattle.model_base.proofs.Lists.{All, Any, gather-all, to-every}
use Rattle.model_sheet.specs.Problem.{Problem, domain, owns}
use Rattle.model_sheet.specs.Row.{Row, agents_good, values_good, fields_good, row_good}
use Rattle.model_sheet.proofs.Fields.{row-agents, row-fields}
use Rattle.model_little.specs.Little.{pairs_of, places}
use Rattle.model_little.proofs.Unlike.{Unlike, gather-unlike, any-gather}

module _ (p : Problem) where
  -- value v of agent i with the values of agent j
  across : ℕ → ℕ → ℕ → List Row
  across i j v = gather (domain p j) 1 (λ w. record { lower = i; higher = j; low = v; high = w } ∷ [])

  -- agent i with the agents below it
  downward : ℕ → List Row
  downward i = gather (p.count - i) (suc i) (pairs_of p i)

  -- what holds of all rows across, of all rows of two agents, and of all rows downward
  module _ (P : Row → Type 0) where
    across-all : (i j v : ℕ) → ((w : ℕ) → 1 ≤ w → w < 1 + domain p j → P (record { lower = i; higher = j; low = v; high = w })) → All P (across i j v)
    unfolding across
    across-all i j v h = gather-all P _ (domain p j) 1 (λ w l u. (h w l u, tt))

    pairs-all : (i j : ℕ)
        → ((v w : ℕ) → 1 ≤ v → v < 1 + domain p i → 1 ≤ w → w < 1 + domain p j → P (record { lower = i; higher = j; low = v; high = w }))
        → All P (pairs_of p i j)
    unfolding pairs_of across
    pairs-all i j h = gather-all P _ (domain p i) 1 (λ v l u. across-all i j v (λ w. h v w l u))

    downward-all : (i : ℕ)
        → ((j v w : ℕ) → suc i ≤ j → j < suc i + (p.count - i) → 1 ≤ v → v < 1 + domain p i → 1 ≤ w → w < 1 + domain p j
        → P (record { lower = i; higher = j; low = v; high = w }))
        → All P (downward i)
    unfolding downward
    downward-all i h = gather-all P (pairs_of p i) (p.count - i) (suc i) (λ j l u. pairs-all i j (λ v w. h j v w l u))

  -- ---- each is good

  good : (i j v w : ℕ) → 1 ≤ i → i < j → j ≤ p.count → 1 ≤ v → v ≤ domain p i → 1 ≤ w → w ≤ domain p j
      → row_good 1 p (record { lower = i; higher = j; low = v; high = w }) ≡ true
  unfolding row_good agents_good fields_good values_good owns
  good i j v w li lj uj lv uv lw uw =
      to_both _ _
      (to_both _ _ (to_both _ _ (lt-ltb 0 i li) (lt-ltb i j lj)) (le-leb j p.count uj))
      (to_both _ _ (to-within (domain p i) v lv uv) (to-within (domain p j) w lw uw))

  pub places-good : every (row_good 1 p) (places p) ≡ true
  unfolding places downward
  places-good =
      to-every (row_good 1 p) (places p)
      (gather-all _ downward p.count 1
      (λ i li ui. downward-all _ i
      (λ j v w lj uj lv uv lw uw. good i j v w li (omega arith) (omega arith) lv (omega arith) lw (omega arith))))

  -- ---- none stands twice

  across-unlike : (i j v : ℕ) → Unlike (across i j v)
  unfolding across
  across-unlike i j v = gather-unlike (λ (row : Row). row.high) _ (λ w. (refl, tt)) (λ w. (tt, tt)) (domain p j) 1

  pairs-unlike : (i j : ℕ) → Unlike (pairs_of p i j)
  unfolding pairs_of across
  pairs-unlike i j =
      gather-unlike (λ (row : Row). row.low) (across i j) (λ v. across-all _ i j v (λ w l u. refl)) (across-unlike i j) (domain p i) 1

  downward-unlike : (i : ℕ) → Unlike (downward i)
  unfolding downward
  downward-unlike i =
      gather-unlike (λ (row : Row). row.higher) (pairs_of p i) (λ j. pairs-all _ i j (λ v w lv uv lw uw. refl)) (pairs-unlike i) (p.count - i) (suc i)

  pub places-unlike : Unlike (places p)
  unfolding places downward
  places-unlike =
      gather-unlike (λ (row : Row). row.lower) downward
      (λ i. downward-all _ i (λ j v w lj uj lv uv lw uw. refl)) downward-unlike p.count 1

  -- ---- every good row is one of them

  pub places-listed : (row : Row) → row_good 1 p row ≡ true → Any (λ b. row ≡ b) (places p)
  unfolding places pairs_of fields_good values_good owns
  places-listed row g =
      let a = row-agents 1 p row g in
      let f = both (within (domain p row.lower) row.low) _ (row-fields 1 p row g) in
      let v = within-true _ _ f.0 in
      let w = within-true _ _ f.1 in
      any-gather _ _ row.lower p.count 1 a.lower (omega (arith, a.order, a.higher))
      (any-gather _ _ row.higher (p.count - row.lower) (suc row.lower) a.order (omega (arith, a.order, a.higher))
      (any-gather _ _ row.low (domain p row.lower) 1 v.0 (omega (arith, v.1))
      (any-gather _ _ row.high (domain p row.higher) 1 w.0 (omega (arith, w.1)) (inl refl))))
