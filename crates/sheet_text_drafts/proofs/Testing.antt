-- Slots that are owned, the tests of both kinds of records, and the room.
use Rattle.std.proofs.Common.{ℕ, zero, suc, ◌-◌, ◌≤◌, ◌<◌, ◌≡◌, refl, sym, ap, ◌∙◌, Bool, true, false, not, arith, ltb, length, get_or, ltb-true, ltb-false, lt-ltb, le-ltb, ◌↔◌, IsTrue, Result, Ok, Err, IfOk}
use mathlib.Core.Bool.{false≢true}
use lib.ListN.{get_or-eq_default}
use Rattle.model_base.specs.Finite.{within}
use Rattle.model_base.proofs.Tests.{test, not_within, above_within}
use Rattle.model_sheet.specs.Problem.{Problem, domain, owns}
use Rattle.sheet_text_drafts.specs.declared.fault.LineRejection.{LineRejection}
use Rattle.sheet_text_drafts.specs.Faults.{needed}
use Rattle.sheet_text_drafts.proofs.Judging.{need-right}

-- ---- slots that are owned

module _ (p : Problem) (a v : ℕ) where
  domain-at : 1 ≤ a → domain p a ≡ get_or p.domains (a - 1) 0
  unfolding domain
  domain-at l = go a l
    where
      go : (k : ℕ) → 1 ≤ k → domain p k ≡ get_or p.domains (k - 1) 0
      go zero l = absurd (omega arith)
      go (suc i) l = ap (λ (j : ℕ). get_or p.domains j 0) (omega arith)

  domain-none : (n : ℕ) → n ≡ length p.domains → within n a ≡ false → domain p a ≡ 0
  unfolding domain
  domain-none n e w =
      test (ltb 0 a)
      (λ t. domain-at (ltb-true 0 a t) ∙ get_or-eq_default p.domains 0 {n = a - 1} (omega (arith, e, above_within n a w (ltb-true 0 a t))))
      (λ t. let z : a ≡ 0 = omega (arith, ltb-false 0 a t) in rw z refl)

  pub not-owned : (n : ℕ) → n ≡ length p.domains → within n a ≡ false → owns p a v ≡ false
  unfolding owns
  not-owned n e w = rw (domain-none n e w) (not_within 0 v (λ l h. omega arith))

  pub owned : 1 ≤ a → (n : ℕ) → n ≡ get_or p.domains (a - 1) 0 → within n v ≡ owns p a v
  unfolding owns
  owned l n e = ap (λ (k : ℕ). within k v) (e ∙ sym (domain-at l))

-- ---- rows

pub not-full : (full : Bool) (count : ℕ) → IsTrue full ↔ (count ≡ 4224) → count ≤ 4224 → not full ≡ ltb count 4224
not-full true count e l = sym (le-ltb count 4224 (omega (arith, e.0 refl)))
not-full false count e l = let less : count ≡ 4224 → ⊥ = λ q. false≢true (e.1 q) in sym (lt-ltb count 4224 (omega (arith, less)))

pub room-of : (good : Bool) (records : ℕ) (f : LineRejection) → good ≡ ltb records 4224 → (r : Result (Unit {0}) LineRejection) → r ≡ needed good f
    → IfOk r (λ _. records < 4224)
room-of good records f t (Ok u) e = ltb-true records 4224 (sym t ∙ need-right good f (sym e))
room-of good records f t (Err x) e = tt
