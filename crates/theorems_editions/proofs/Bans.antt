-- The rows of a table's bans are good, say each ban and nothing else, and are no more than a sheet holds.
-- A row of a pair of slots bans that pair alone.
use Rattle.std.proofs.Common.{ℕ, ◌*◌, ◌≤◌, ◌<◌, ◌≡◌, refl, inl, Bool, true, false, cond, ◌&&◌, [], ◌∷◌, arith, length, eqb, eqb-true, eq-eqb, lt-ltb, le-leb}
use mathlib.Core.Bool.{false≢true}
use Rattle.model_base.specs.Finite.{within, gather}
use Rattle.model_base.proofs.Tests.{both, to_both, within-true}
use Rattle.model_base.proofs.Lists.{All, Any, gather-all, gather-length}
use Rattle.model_sheet.specs.Problem.{Problem, max_domain, domain, owns, is_pair, banned}
use Rattle.model_sheet.specs.Row.{Row, agents_good, values_good, fields_good, row_good, hits, row_bans}
use Rattle.model_sheet.specs.Sheet.{max_records}
use Rattle.model_sheet.proofs.Range.{Ranged, domain-small, banned-inside}
use Rattle.model_sheet.proofs.Bans.{added, to-added}
use Rattle.model_editions.specs.Bans.{pair_row, bans_with, bans_of, ban_rows}
use Rattle.theorems_editions.proofs.Pairs.{any-gather, pairs-all, pairs-any, pairs-length, pairs-most}
use Rattle.theorems_editions.proofs.Saying.{Said, Whole}

-- a ban is between owned slots of two agents of the problem
pub record Inside (p : Problem) (i j v w : ℕ) : Type 0 where
  pub lower : 1 ≤ i
  pub order : i < j
  pub higher : j ≤ p.count
  pub low : owns p i v ≡ true
  pub high : owns p j w ≡ true

pub ban-inside : (p : Problem) → Ranged p → (i j v w : ℕ) → banned p i j v w ≡ true → Inside p i j v w
unfolding banned owns
ban-inside p r i j v w e =
    let n = banned-inside p r i j v w e in
    let b = both (is_pair i j && within max_domain v && within max_domain w) _ e in
    let y = both (is_pair i j && within max_domain v) _ b.0 in
    let bv = within-true _ _ (both (is_pair i j) _ y.0).1 in
    let bw = within-true _ _ y.1 in
    let o = (r.words i j n.0 n.1 (omega (arith, n.2, r.high))).owned v w bv.0 bv.1 bw.0 bw.1 b.1 in
    record { lower = n.0; order = n.1; higher = n.2; low = o.0; high = o.1 }

pub agents-good : (p : Problem) (row : Row) → 1 ≤ row.lower → row.lower < row.higher → row.higher ≤ p.count → agents_good p row ≡ true
unfolding agents_good
agents-good p row l o u = to_both _ _ (to_both _ _ (lt-ltb 0 row.lower l) (lt-ltb row.lower row.higher o)) (le-leb row.higher p.count u)

-- one element or none
pub one-all : (P : Row → Type 0) (b : Bool) (row : Row) → (b ≡ true → P row) → All P (cond b (row ∷ []) [])
one-all P true row h = (h refl, tt)
one-all P false row h = tt

pub one-any : (P : Row → Type 0) (b : Bool) (row : Row) → b ≡ true → P row → Any P (cond b (row ∷ []) [])
one-any P true row e h = inl h
one-any P false row e h = absurd (false≢true e)

pub one-length : (b : Bool) (row : Row) → length (cond b (row ∷ []) []) ≤ 1
one-length true row = omega arith
one-length false row = omega arith

module _ (p : Problem) (r : Ranged p) where
  row-said : (i j v w : ℕ) → banned p i j v w ≡ true → Said 1 p (pair_row i j v w)
  unfolding row_good fields_good values_good row_bans hits
  row-said i j v w b =
      let row = pair_row i j v w in
      let n = ban-inside p r i j v w b in
      record {
        good = to_both _ _ (agents-good p row n.lower n.order n.higher) (to_both _ _ n.low n.high);
        sound = λ i' j' v' w' t.
            let a = added p i j (hits 1 row) i' j' v' w' t in
            let s = both (eqb v' v) _ a.named in
            rw (a.lower, a.higher, eqb-true v' v s.0, eqb-true w' w s.1) b;
      }

  pub bans-said : All (Said 1 p) (ban_rows p)
  unfolding ban_rows bans_of bans_with
  bans-said =
      pairs-all p.count (bans_of p) (Said 1 p)
      (λ i j li oi uj. gather-all (Said 1 p) _ (domain p i) 1
      (λ v lv uv. gather-all (Said 1 p) _ (domain p j) 1
      (λ w lw uw. one-all (Said 1 p) (banned p i j v w) _ (row-said i j v w))))

  itself : (i j v w : ℕ) → owns p i v ≡ true → owns p j w ≡ true → row_bans 1 p (pair_row i j v w) i j v w ≡ true
  unfolding row_bans hits
  itself i j v w ov ow =
      to-added p i j (hits 1 (pair_row i j v w)) i j v w
      (record { lower = refl; higher = refl; value = ov; other = ow; named = to_both _ _ (eq-eqb v v refl) (eq-eqb w w refl) })

  pub bans-whole : Whole 1 p (ban_rows p)
  unfolding ban_rows bans_of bans_with owns
  bans-whole i j v w b =
      let n = ban-inside p r i j v w b in
      let bv = within-true _ _ n.low in
      let bw = within-true _ _ n.high in
      let P : Row → Type 0 = λ row. row_bans 1 p row i j v w ≡ true in
      pairs-any p.count (bans_of p) P i j n.lower n.order n.higher
      (any-gather P _ v (domain p i) 1 bv.0 (omega (arith, bv.1))
      (any-gather P _ w (domain p j) 1 bw.0 (omega (arith, bw.1)) (one-any P (banned p i j v w) _ b (itself i j v w n.low n.high))))

  few-across : (i j v m : ℕ) → length (gather m 1 (λ w. cond (banned p i j v w) (pair_row i j v w ∷ []) [])) ≤ m * 1
  few-across i j v m = gather-length 1 m 1 _ (λ w l u. one-length (banned p i j v w) (pair_row i j v w))

  pub pair-few : (i j : ℕ) → length (bans_of p i j) ≤ 64
  unfolding bans_of bans_with max_domain
  pair-few i j =
      let d = domain-small p r i in
      let e = domain-small p r j in
      let across : (v : ℕ) → length (bans_with p i j v) ≤ 8 = λ v. omega (arith, few-across i j v (domain p j)) in
      omega (arith, gather-length 8 (domain p i) 1 (bans_with p i j) (λ v l u. across v))

  pub bans-few : length (ban_rows p) ≤ max_records
  unfolding ban_rows max_records
  bans-few =
      omega (arith, pairs-length p.count (bans_of p) 64 (λ i j l o u. pair-few i j), pairs-most p.count r.high)
