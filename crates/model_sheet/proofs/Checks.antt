-- The checks of a sheet in their order: what comes out where each is the first to fail, and where all three hold; and the other way.
-- Each opens the definition once, with the tests that led there.
use Rattle.std.proofs.Common.{◌≡◌, sym, ◌∙◌, ◌≢◌, true, false, List, ℕ, suc, ◌+◌, ◌*◌, ◌≤◌, ◌<◌, arith, eqb, ltb, length, ltb-false, lt-ltb, le-ltb, eq-eqb}
use Rattle.model_base.proofs.Tests.{test}
use Rattle.model_sheet.specs.Problem.{Problem}
use Rattle.model_sheet.specs.Sheet.{SheetFault, BadLength, BadHeader, BadRecord, Cycle, fault_number, Valid, Invalid, header_length, record_length, first_in, records_in, without_bans, header_good, decode}
use Rattle.model_sheet.proofs.Walk.{free_walk, free_walk_lem}

-- a fault has a number
pub fault-some : (f : SheetFault) → fault_number f ≢ 0
unfolding fault_number
fault-some BadLength e = omega arith
fault-some BadHeader e = omega arith
fault-some BadRecord e = omega arith
fault-some Cycle e = omega arith

module _ (s : List ℕ) where
  pub short : length s < 24 → decode s ≡ Invalid BadLength
  unfolding header_length decode
  short h = rw (lt-ltb (length s) 24 h, decode)

  pub bad-header : 24 ≤ length s → header_good s ≡ false → decode s ≡ Invalid BadHeader
  unfolding header_length decode
  bad-header h g = rw (le-ltb (length s) 24 h, decode, g)

  pub bad-length : 24 ≤ length s → header_good s ≡ true → eqb (length s) (24 + 8 * records_in s) ≡ false → decode s ≡ Invalid BadLength
  unfolding header_length record_length decode
  bad-length h g t = rw (le-ltb (length s) 24 h, decode, g, t)

  pub walked : header_good s ≡ true → length s ≡ 24 + 8 * records_in s → decode s ≡ free_walk (suc (records_in s)) s (first_in s) (without_bans s)
  unfolding header_length record_length decode
  walked g t = rw (le-ltb (length s) 24 (omega arith), decode, g, eq-eqb _ _ t) (free_walk_lem s (suc (records_in s)) (first_in s))

-- ---- the other way: what an accepted sheet has passed

pub invalid : {X : Type 0} (f : SheetFault) (p : Problem) → Invalid f ≡ Valid p → X
invalid f p e = let z : ◌≡◌ {A = ℕ} 0 1 = cc in absurd (omega arith)

pub record Accepted (s : List ℕ) (p : Problem) : Type 0 where
  pub long : header_length ≤ length s
  pub header : header_good s ≡ true
  pub walk : free_walk (suc (records_in s)) s (first_in s) (without_bans s) ≡ Valid p

pub accepted : (s : List ℕ) (p : Problem) → decode s ≡ Valid p → Accepted s p
unfolding decode
accepted s p e =
    test (ltb (length s) header_length)
    (λ q. invalid BadLength p (rw (q, decode) at e))
    (λ q. test (header_good s)
    (λ g. test (eqb (length s) (header_length + record_length * records_in s))
    (λ w.
    let walked = rw (q, decode, g, w) at e in
    record { long = ltb-false _ _ q; header = g; walk = sym (free_walk_lem s (suc (records_in s)) (first_in s)) ∙ walked })
    (λ w. invalid BadLength p (rw (q, decode, g, w) at e)))
    (λ g. invalid BadHeader p (rw (q, decode, g) at e)))
