-- A sheet of either edition gives a problem in range, with a ban exactly where a record on its chain says so, and a link exactly where a ban is.
-- The walk adds the rows of the chain, one after the other, to the header's problem.
use Rattle.std.proofs.Common.{◌≡◌, refl, sym, ◌∙◌, true, List, ◌∷◌, map, ℕ, zero, suc, ◌<◌, arith, eqb, length}
use Rattle.model_base.specs.Finite.{every}
use Rattle.model_base.proofs.Tests.{test, to_both}
use Rattle.model_sheet.specs.Problem.{Problem, with_table, with_bans, no_bans}
use Rattle.model_sheet.specs.Row.{Row, row_good, with_row, with_rows}
use Rattle.model_sheet.specs.Sheet.{Valid, Cycle, BadRecord, edition_in, first_in, records_in, without_bans, next_of, row_of, record_good}
use Rattle.model_sheet.specs.Chain.{chain_from, rows_in, DecodesInRange, BansAsSaid, LinksAsBanned}
use Rattle.model_sheet.proofs.Fields.{header-in-range, record-fits}
use Rattle.model_sheet.proofs.Checks.{invalid, Accepted, accepted}
use Rattle.model_sheet.proofs.Range.{ranged, to-range, bare-ranged, banned-linked, linked-banned}
use Rattle.model_sheet.proofs.Walk.{free_walk, record_same}
use Rattle.model_sheet.proofs.Rows.{rows-ban, rows-ranged, rows-said}
use Rattle.model_sheet.proofs.Bans.{none-banned}

-- the rows are good for the header's problem, what the walk gives is that problem with them, and they are fewer than its steps
pub record Said (s : List ℕ) (p : Problem) (t : List ℕ) (steps : ℕ) (rows : List Row) (q : Problem) : Type 0 where
  pub good : every (row_good (edition_in s) p) rows ≡ true
  pub gives : q ≡ with_rows (edition_in s) rows (with_table p t)
  pub few : length rows < steps

module _ (s : List ℕ) (p q : Problem) where
  walk-said : (steps r : ℕ) (t : List ℕ) → free_walk steps s r (with_table p t) ≡ Valid q → Said s p t steps (map (row_of s) (chain_from steps s r)) q
  unfolding every with_table with_bans with_row with_rows free_walk chain_from
  walk-said zero r t e = invalid Cycle q e
  walk-said (suc steps) r t e =
      test (eqb r 0)
      (λ z. rw (z, chain_from) (record { good = refl; gives = let v : Valid (with_table p t) ≡ Valid q = rw (z, free_walk) at e in cc; few = omega arith }))
      (λ z. test (record_good s (with_table p t) r)
      (λ g. rw (z, chain_from) (more g (walk-said steps (next_of s r) _ (rw (z, free_walk, g) at e))))
      (λ g. invalid BadRecord q (rw (z, free_walk, g) at e)))
    where
      more : record_good s (with_table p t) r ≡ true
          → Said s p (with_row (edition_in s) (row_of s r) (with_table p t)).bans steps (map (row_of s) (chain_from steps s (next_of s r))) q
          → Said s p t (suc steps) (row_of s r ∷ map (row_of s) (chain_from steps s (next_of s r))) q
      more g rest =
          record {
            good = to_both _ _ (record-fits s p r (sym (record_same s p t r) ∙ g)).row rest.good;
            gives = rest.gives;
            few = omega (arith, rest.few);
          }

pub decode-said : (s : List ℕ) (p : Problem) → Accepted s p → Said s (without_bans s) no_bans (suc (records_in s)) (rows_in s) p
unfolding with_table without_bans rows_in
decode-said s p a = walk-said s (without_bans s) p (suc (records_in s)) (first_in s) no_bans a.walk

-- ---- the claims

pub decode-in-range : DecodesInRange
decode-in-range s p e =
    let a = accepted s p e in
    let said = decode-said s p a in
    to-range p (rw said.gives (rows-ranged (edition_in s) (rows_in s) (without_bans s) no_bans
    (bare-ranged _ (header-in-range s a.long a.header)) said.good))

pub bans-as-said : BansAsSaid
bans-as-said s p e i j v w =
    let a = accepted s p e in
    let said = decode-said s p a in
    let bare = bare-ranged _ (header-in-range s a.long a.header) in
    rw said.gives
    (rows-ban (edition_in s) (rows_in s) (without_bans s) no_bans bare said.good i j v w
    ∙ rw (none-banned (without_bans s) i j v w, rows-said (edition_in s) (rows_in s) (without_bans s) no_bans i j v w))

pub links-as-banned : LinksAsBanned
links-as-banned s p e i j = (linked-banned p (ranged p (decode-in-range s p e)) i j, λ b. banned-linked p i j b.0 b.1 b.2)
