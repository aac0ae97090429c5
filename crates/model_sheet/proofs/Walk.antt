-- A walk that does not look whether it met a record before comes to the same: where the chain comes back, it goes round until its steps
-- are used up. The records met are good and each leads to one that was met or to where the walk stands; once that was met too, they are closed.
use Rattle.std.proofs.Common.{◌≡◌, refl, sym, ◌∙◌, ◌⊎◌, inl, inr, Bool, true, false, List, ℕ, zero, suc, ◌-◌, ◌≤◌, ◌<◌, arith, eqb, eq-eqb, ne_eqb}
use mathlib.Core.Bool.{false≢true}
use borrow.Author.Tests.{eqb-false}
use Rattle.model_base.specs.Finite.{at}
use Rattle.model_base.proofs.Tests.{test, eq_test}
use Rattle.model_base.proofs.Search.{at_same, at_other, at-cases}
use Rattle.model_sheet.specs.Problem.{Problem, owns, with_table, with_bans, no_bans}
use Rattle.model_sheet.specs.Row.{Row, agents_good, values_good, fields_good, row_good, with_row}
use Rattle.model_sheet.specs.Sheet.{Decoded, Valid, Invalid, BadRecord, Cycle, edition_in, without_bans, row_of, next_of, record_good, walk}
use Rattle.model_sheet.proofs.Range.{domain-same}

unfoldable pub free_walk : ℕ → List ℕ → ℕ → Problem → Decoded
free_walk zero s r p = Invalid Cycle
free_walk (suc steps) s r p =
    elim (eqb r 0) [
      | true ↦ Valid p
      | false ↦ elim (record_good s p r) [
        | true ↦ free_walk steps s (next_of s r) (with_row (edition_in s) (row_of s r) p)
        | false ↦ Invalid BadRecord
      ]
    ]

-- ---- one step of it, by what is found at the record

module _ (s : List ℕ) (r : ℕ) (p : Problem) where
  pub free-none : (left : ℕ) → left ≤ 0 → free_walk left s r p ≡ Invalid Cycle
  unfolding free_walk
  free-none zero h = refl
  free-none (suc left) h = absurd (omega arith)

  pub free-ends : (left : ℕ) → 0 < left → r ≡ 0 → free_walk left s r p ≡ Valid p
  unfolding free_walk
  free-ends zero h e = absurd (omega arith)
  free-ends (suc left) h e = rw (eq-eqb r 0 e, free_walk)

  pub free-fails : (left : ℕ) → 0 < left → (r ≡ 0 → ⊥) → record_good s p r ≡ false → free_walk left s r p ≡ Invalid BadRecord
  unfolding free_walk
  free-fails zero h e g = absurd (omega arith)
  free-fails (suc left) h e g = rw (ne_eqb r 0 e, free_walk, g)

  pub free-goes : (left : ℕ) → 0 < left → (r ≡ 0 → ⊥) → record_good s p r ≡ true
      → free_walk left s r p ≡ free_walk (left - 1) s (next_of s r) (with_row (edition_in s) (row_of s r) p)
  unfolding free_walk
  free-goes zero h e g = absurd (omega arith)
  free-goes (suc left) h e g = let l : suc left - 1 ≡ left = omega arith in rw (ne_eqb r 0 e, free_walk, g, l)

-- ---- the table is nothing to a record

pub row_same : (edition : ℕ) (p : Problem) (t : List ℕ) (row : Row) → row_good edition (with_table p t) row ≡ row_good edition p row
unfolding with_table owns agents_good values_good fields_good row_good
row_same edition p t row = rw (domain-same p t row.lower, domain-same p t row.higher)

pub record_same : (s : List ℕ) (p : Problem) (t : List ℕ) (r : ℕ) → record_good s (with_table p t) r ≡ record_good s p r
unfolding record_good
record_same s p t r = rw row_same

-- ---- the records met

module _ (s : List ℕ) (p : Problem) where
  record Good (k : ℕ) : Type 0 where
    one : k ≡ 0 → ⊥
    good : record_good s p k ≡ true

  abbrev Closed : (ℕ → Bool) → Type 0
  Closed met = (k : ℕ) → met k ≡ true → Good k × (met (next_of s k) ≡ true)

  -- each leads to one that was met or to r, where the walk stands
  abbrev Led : (ℕ → Bool) → ℕ → Type 0
  Led met r = (k : ℕ) → met k ≡ true → Good k × ((met (next_of s k) ≡ true) ⊎ (next_of s k ≡ r))

  closes : (met : ℕ → Bool) (r : ℕ) → Led met r → met r ≡ true → Closed met
  closes met r f m k h = ((f k h).0, there (f k h).1)
    where
      there : (met (next_of s k) ≡ true) ⊎ (next_of s k ≡ r) → met (next_of s k) ≡ true
      there (inl q) = q
      there (inr q) = rw q m

  -- one more record met, from r to the one that it names
  leads : (met : ℕ → Bool) (r : ℕ) → Led met r → Good r → Led (at met r true) (next_of s r)
  leads met r f g k h =
      eq_test k r
      (λ e. (rw e g, inr (rw e)))
      (λ e. let w = f k (rw (at_other met r true k e) at h) in (w.0, inl (on w.1)))
    where
      on : (met (next_of s k) ≡ true) ⊎ (next_of s k ≡ r) → at met r true (next_of s k) ≡ true
      on (inl q) = at-cases (λ (b : Bool). b ≡ true) met r true (next_of s k) (λ e. refl) (λ e. q)
      on (inr q) = rw q (at_same met r true)

  -- in closed records the walk never ends
  goes-round : (steps : ℕ) (r : ℕ) (met : ℕ → Bool) (t : List ℕ) → Closed met → met r ≡ true
      → free_walk steps s r (with_table p t) ≡ Invalid Cycle
  unfolding with_table with_bans free_walk with_row
  goes-round zero r met t f m = refl
  goes-round (suc steps) r met t f m =
      let g = f r m in
      rw (ne_eqb r 0 g.0.one, free_walk, record_same s p t r ∙ g.0.good) (goes-round steps (next_of s r) met _ f g.1)

  same-walk : (steps : ℕ) (r : ℕ) (met : ℕ → Bool) (t : List ℕ) → Led met r
      → walk steps s r met (with_table p t) ≡ free_walk steps s r (with_table p t)
  unfolding with_table with_bans walk free_walk with_row
  same-walk zero r met t f = refl
  same-walk (suc steps) r met t f =
      test (eqb r 0)
      (λ z. rw (z, walk, free_walk))
      (λ z. test (met r)
      (λ m. rw (z, walk, m) (sym (goes-round (suc steps) r met t (closes met r f m) m)))
      (λ m. test (record_good s (with_table p t) r)
      (λ g. rw (z, walk, free_walk, m, g)
      (same-walk steps (next_of s r) (at met r true) _
      (leads met r f (record { one = eqb-false r 0 z; good = sym (record_same s p t r) ∙ g }))))
      (λ g. rw (z, walk, free_walk, m, g))))

-- the walk as it begins
pub free_walk_lem : (s : List ℕ) (steps r : ℕ) → walk steps s r (λ k. false) (without_bans s) ≡ free_walk steps s r (without_bans s)
unfolding with_table without_bans
free_walk_lem s steps r = same-walk s (without_bans s) steps r (λ k. false) no_bans (λ k m. absurd (false≢true m))
