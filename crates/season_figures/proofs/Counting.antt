-- One more of a kind, and the rounds of one sheet more, as the definitions say, each number capped.
-- A place of four holds the kind behind it; a number of 64 bits that is not touched is at most the greatest one.
use Rattle.std.proofs.Common.{ℕ, zero, suc, ◌+◌, ◌-◌, ◌^◌, ◌≤◌, ◌<◌, min, max, ◌≡◌, refl, sym, subst, ◌∙◌, ◌≢◌, List, [], ◌∷◌, Option, None, Some, arith, length, get_or, set, get_or-set_same, get_or-set_other, eq-eqb, ne_eqb}
use mathlib.Core.Path.{fun_ext}
use Rattle.model_base.proofs.Tests.{eq_test}
use Rattle.model_agent.specs.Traffic.{top, raised}
use Rattle.model_agent.proofs.Traffic.{Raised, exact, full, raises}
use Rattle.model_network.specs.Run.{one_if}
use Rattle.model_season.specs.Season.{one_more, with_rounds}
use Rattle.model_season.specs.Capped.{capped_rounds, capped_kinds}
use Rattle.model_season.proofs.Capped.{raised_stays, stays_kinds}
use Rattle.season_figures.specs.declared.figures.Rounds.{Rounds}
use Rattle.season_figures.specs.Abstract.{kinds, rounds_from, rounds_of}

-- ---- numbers

-- a sum that stops at the greatest number is a count raised
pub raised-sum : (s n : ℕ) → s ≡ min n (2 ^ 64 - 1) → s ≡ raised 0 n
unfolding top
raised-sum s n h = go (raises 0 n)
  where
    go : Raised 0 n → s ≡ raised 0 n
    go (exact l e) = omega (arith, h)
    go (full l e) = omega (arith, h)

-- ---- kinds

more-at : (f : ℕ → ℕ) (k : ℕ) → one_more f k k ≡ f k + 1
unfolding one_more one_if
more-at f k = rw (eq-eqb k k refl)

more-else : (f : ℕ → ℕ) (k j : ℕ) → j ≢ k → one_more f k j ≡ f j
unfolding one_more one_if
more-else f k j n = rw (ne_eqb j k n) (omega arith)

-- each place holds a number of 64 bits
abbrev pub Small : List ℕ → Type 0
Small four = (i : ℕ) → get_or four i 0 < 2 ^ 64

pub small_kinds : (four : List ℕ) → Small four → (k : ℕ) → kinds four k ≤ top
unfolding kinds top
small_kinds four h zero = omega arith
small_kinds four h (suc k) = omega (arith, h k)

pub kept_kinds : (four : List ℕ) → Small four → capped_kinds (kinds four) ≡ kinds four
kept_kinds four h = stays_kinds (kinds four) (small_kinds four h)

kinds-same : (four : List ℕ) → Small four → (k j : ℕ) → j ≢ k → kinds four j ≡ capped_kinds (one_more (kinds four) k) j
unfolding capped_kinds
kinds-same four h k j n = sym (raised_stays (kinds four j) (small_kinds four h j)) ∙ sym (rw (more-else (kinds four) k j n) refl)

kinds-set : (four : List ℕ) (i v : ℕ) → i < length four → Small four → v ≡ raised 0 (get_or four i 0 + 1) → (j : ℕ)
    → kinds (set four i v) j ≡ capped_kinds (one_more (kinds four) (suc i)) j
unfolding kinds capped_kinds
kinds-set four i v h S e zero = kinds-same four S (suc i) zero (λ z. omega arith)
kinds-set four i v h S e (suc j) =
    eq_test j i
    (λ s. rw s (get_or-set_same four i v 0 h ∙ e ∙ sym (rw (more-at (kinds four) (suc i)) refl)))
    (λ n. get_or-set_other four i j v 0 n ∙ kinds-same four S (suc i) (suc j) (λ z. n (omega arith)))

pub counts_one : (four : List ℕ) (k v : ℕ) → 1 ≤ k → k - 1 < length four → Small four → v ≡ min (get_or four (k - 1) 0 + 1) (2 ^ 64 - 1)
    → kinds (set four (k - 1) v) ≡ capped_kinds (one_more (kinds four) k)
counts_one four k v l h S e =
    let s : suc (k - 1) ≡ k = omega arith in
    fun_ext
    (λ j. subst (λ (m : ℕ). kinds (set four (k - 1) v) j ≡ capped_kinds (one_more (kinds four) m) j) s
    (kinds-set four (k - 1) v h S (raised-sum v _ e) j))

nothing : (k : ℕ) → kinds (0 ∷ 0 ∷ 0 ∷ 0 ∷ []) k ≡ 0
unfolding kinds
nothing zero = refl
nothing (suc zero) = refl
nothing (suc (suc zero)) = refl
nothing (suc (suc (suc zero))) = refl
nothing (suc (suc (suc (suc zero)))) = refl
nothing (suc (suc (suc (suc (suc k))))) = refl

pub no_kinds : kinds (0 ∷ 0 ∷ 0 ∷ 0 ∷ []) ≡ (λ k. 0)
no_kinds = fun_ext nothing

-- ---- rounds

pub first_rounds : (n : ℕ) → n < 2 ^ 64
    → rounds_of (Some (record { count = 1; fewest = n; most = n; sum = n })) ≡ capped_rounds (with_rounds n (rounds_of None))
unfolding capped_rounds with_rounds rounds_from rounds_of top
first_rounds n h = rw (raised_stays 1 (omega arith), raised_stays n (omega arith)) refl

pub more_rounds : (o : Option Rounds) (r : Rounds) (n c f m s : ℕ) → o ≡ Some r
    → c ≡ min (r.count + 1) (2 ^ 64 - 1) → f ≡ min n r.fewest → m ≡ max n r.most → s ≡ min (n + r.sum) (2 ^ 64 - 1)
    → rounds_of (Some (record { count = c; fewest = f; most = m; sum = s })) ≡ capped_rounds (with_rounds n (rounds_of o))
unfolding capped_rounds with_rounds rounds_from rounds_of
more_rounds o r n c f m s e ce fe me se =
    let k : c ≡ raised 0 (suc r.count) = raised-sum c (suc r.count) (omega arith) in
    rw (e, k, fe, me, raised-sum s (n + r.sum) se) refl

-- numbers of 64 bits, all of them
abbrev pub SmallRounds : Option Rounds → Type 0
SmallRounds o = (r : Rounds) → o ≡ Some r → (r.count < 2 ^ 64) × (r.sum < 2 ^ 64)

pub kept_rounds : (o : Option Rounds) → SmallRounds o → capped_rounds (rounds_of o) ≡ rounds_of o
unfolding capped_rounds rounds_from rounds_of top
kept_rounds None h = refl
kept_rounds (Some r) h =
    let k = h r refl in rw (raised_stays r.count (omega (arith, k.0)), raised_stays r.sum (omega (arith, k.1))) refl
