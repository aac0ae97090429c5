-- A ban or gap that passes its tests is a good record, and the record bans what the statement says.
-- The tests are those of the record's fields, and a gap's bytes are read back as the gaps.
use Rattle.std.proofs.Common.{ℕ, ◌≤◌, ◌≡◌, refl, sym, true, arith, eqb, ℤ, eqb-true, eq-eqb, lt-ltb, le-leb}
use borrow.Author.Tests.{eqb-false, not-true}
use Rattle.model_base.specs.Lists.{All}
use Rattle.model_base.proofs.Tests.{within-true, both, to_both}
use Rattle.model_base.proofs.Peeling.{same_test}
use Rattle.model_sheet.specs.Problem.{Problem}
use Rattle.model_sheet.specs.Row.{Row, agents_good, gaps_good, fields_good, row_good, hits, row_bans}
use Rattle.model_text.specs.Statements.{Statement, Slots, Ban, Gap}
use Rattle.model_text.specs.Drafts.{Draft, ban_record, gap_record, is_agent, is_gap, pair_tests, ban_tests, gap_tests}
use Rattle.model_text.specs.Claims.{says_ban}
use Rattle.theorems_text.proofs.Gaps.{byte-back}
use Rattle.theorems_text.proofs.Tests.{Holds}
use Rattle.theorems_text.proofs.Bans.{Places, ban-good, ban-says}

-- the edition of a statement's record, 0 where it has none
unfoldable pub kind_of : Statement → ℕ
kind_of (Slots domains) = 0
kind_of (Ban a s b t) = 1
kind_of (Gap a b least greatest) = 2

unfoldable pub record_of : Statement → Row
record_of (Slots domains) = record { lower = 0; higher = 0; low = 0; high = 0 }
record_of (Ban a s b t) = ban_record a s b t
record_of (Gap a b least greatest) = gap_record a b least greatest

pub record Fits (p : Problem) (e : ℕ) (statement : Statement) : Type 0 where
  pub some : 1 ≤ e
  pub kind : kind_of statement ≡ e
  pub good : row_good e p (record_of statement) ≡ true
  pub says : (i j v w : ℕ) → row_bans e p (record_of statement) i j v w ≡ says_ban p i j v w statement

module _ (d : Draft) where
  pub ban-fits : (a s b t : ℕ) → All Holds (ban_tests d a s b t) → Fits d.problem 1 (Ban a s b t)
  unfolding ban_tests pair_tests is_agent kind_of record_of
  ban-fits a s b t h =
      let agents = h.1.1 in
      let places : Places d.problem a s b t =
      record {
        first = agents.0;
        second = agents.1.0;
        apart = eqb-false a b (not-true _ agents.1.1.0);
        value = agents.1.1.1.0;
        other = agents.1.1.1.1.0;
      } in
      record {
        some = omega arith;
        kind = refl;
        good = ban-good d.problem a s b t places;
        says = ban-says d.problem a s b t places;
      }

-- ---- gaps

eqb-turned : (a b : ℕ) → eqb a b ≡ eqb b a
eqb-turned a b = same_test _ _ (λ h. eq-eqb b a (sym (eqb-true a b h))) (λ h. eq-eqb a b (sym (eqb-true b a h)))

module _ (p : Problem) (a b : ℕ) (least greatest : ℤ) (l : is_gap least ≡ true) (g : is_gap greatest ≡ true) where
  gap-says : (i j v w : ℕ) → row_bans 2 p (gap_record a b least greatest) i j v w ≡ says_ban p i j v w (Gap a b least greatest)
  unfolding gap_record row_bans hits says_ban
  gap-says i j v w = rw (byte-back least l, byte-back greatest g, eqb-turned i a, eqb-turned j b)

module _ (d : Draft) where
  pub gap-fits : (a b : ℕ) (least greatest : ℤ) → All Holds (gap_tests d a b least greatest) → Fits d.problem 2 (Gap a b least greatest)
  unfolding gap_tests pair_tests is_agent is_gap gap_record row_good agents_good fields_good gaps_good kind_of record_of
  gap-fits a b least greatest h =
      let p = d.problem in
      let agents = h.1.1 in
      let fields = agents.1.1.1 in
      let gaps = both (is_gap least) (is_gap greatest) fields.1.0 in
      let la = within-true p.count a agents.0 in
      let lb = within-true p.count b agents.1.0 in
      let low = byte-back least gaps.0 in
      let high = byte-back greatest gaps.1 in
      record {
        some = omega arith;
        kind = refl;
        good =
            rw (lt-ltb 0 a la.0, fields.0, le-leb b p.count lb.1, low, high)
            (to_both _ _ (to_both _ _ gaps.0 gaps.1) fields.1.1.0);
        says = gap-says p a b least greatest gaps.0 gaps.1;
      }
