-- The rows of a sayable table's runs are good, say each ban and nothing else, and are no more than a sheet holds.
-- A run bans the owned pairs with its gaps, and these are all banned; a ban's gap lies in a run.
use Rattle.std.proofs.Common.{ℕ, ◌≤◌, ◌<◌, ◌≡◌, refl, sym, ◌∙◌, true, arith, length, leb, leb-true, le-leb}
use Rattle.model_base.proofs.Tests.{both, to_both}
use Rattle.model_base.proofs.Lists.{All, gather-all, gather-length}
use Rattle.model_sheet.specs.Problem.{Problem, banned}
use Rattle.model_sheet.specs.Row.{Row, fields_good, row_good, hits, row_bans}
use Rattle.model_sheet.specs.Sheet.{max_records}
use Rattle.model_sheet.proofs.Range.{Ranged}
use Rattle.model_sheet.proofs.Bans.{added, to-added}
use Rattle.model_editions.specs.Gaps.{gap_places, place_of, banned_gap, sayable, begins, last_of, run_row, runs_of, gap_rows}
use Rattle.theorems_editions.proofs.Pairs.{any-gather, pairs-all, pairs-any, pairs-length, pairs-most}
use Rattle.theorems_editions.proofs.Saying.{Said, Whole}
use Rattle.theorems_editions.proofs.Bans.{Inside, ban-inside, agents-good, one-all, one-any, one-length}
use Rattle.theorems_editions.proofs.Places.{place_inside, gap-between, places-good}
use Rattle.theorems_editions.proofs.Runs.{last-least, last-most, run_holds, InRun, in-run}
use Rattle.theorems_editions.proofs.Sayable.{slots, gap-had, gap-bans}

module _ (p : Problem) (r : Ranged p) (s : sayable p ≡ true) where
  run-said : (i j k : ℕ) → 1 ≤ i → i < j → j ≤ p.count → k < 15 → begins (banned_gap p i j) k ≡ true
      → Said 2 p (run_row i j (banned_gap p i j) k)
  unfolding row_good fields_good row_bans hits run_row
  run-said i j k l o u h b =
      let g = banned_gap p i j in
      let row = run_row i j g k in
      record {
        good = to_both _ _ (agents-good p row l o u) (places-good i j k (last_of g k) (last-least g k) (last-most g k h));
        sound = λ i' j' v w t.
            let a = added p i j (hits 2 row) i' j' v w t in
            let ov = rw a.lower at a.value in
            let ow = rw a.higher at a.other in
            let f = both (leb k (place_of v w)) _ (sym (gap-between k (last_of g k) v w h (last-most g k h) (slots p r i j v w ov ow)) ∙ a.named) in
            rw (a.lower, a.higher)
            (gap-bans p r s i j v w l o u ov ow (run_holds g k (place_of v w) b (leb-true _ _ f.0) (leb-true _ _ f.1)));
      }

  pub gaps-said : All (Said 2 p) (gap_rows p)
  unfolding gap_rows runs_of gap_places
  gaps-said =
      pairs-all p.count _ (Said 2 p)
      (λ i j l o u. gather-all (Said 2 p) _ 15 0
      (λ k lk uk. one-all (Said 2 p) (begins (banned_gap p i j) k) _ (run-said i j k l o u (omega arith))))

  -- the run in which the gap of a ban lies bans it
  run-bans : (i j v w : ℕ) → Inside p i j v w → (x : InRun (banned_gap p i j) (place_of v w))
      → row_bans 2 p (run_row i j (banned_gap p i j) x.first) i j v w ≡ true
  unfolding row_bans hits run_row
  run-bans i j v w n x =
      let g = banned_gap p i j in
      let k = x.first in
      let sl = slots p r i j v w n.low n.high in
      let h : k < 15 = omega (arith, x.low, place_inside v w sl) in
      to-added p i j (hits 2 (run_row i j g k)) i j v w
      (record {
        lower = refl;
        higher = refl;
        value = n.low;
        other = n.high;
        named =
            gap-between k (last_of g k) v w h (last-most g k h) sl
            ∙ to_both _ _ (le-leb k (place_of v w) x.low) (le-leb (place_of v w) (last_of g k) x.high);
      })

  pub gaps-whole : Whole 2 p (gap_rows p)
  unfolding gap_rows runs_of gap_places banned_gap
  gaps-whole i j v w b =
      let n = ban-inside p r i j v w b in
      let g = banned_gap p i j in
      let k = place_of v w in
      let h = place_inside v w (slots p r i j v w n.low n.high) in
      let x = in-run g k h (gap-had p r (banned p i j) i j v w n.low n.high b) in
      let P : Row → Type 0 = λ row. row_bans 2 p row i j v w ≡ true in
      pairs-any p.count _ P i j n.lower n.order n.higher
      (any-gather P _ x.first 15 0 (omega arith) (omega (arith, x.low)) (one-any P (begins g x.first) _ x.begin (run-bans i j v w n x)))

module _ (p : Problem) (r : Ranged p) where
  pub runs-few : (i j : ℕ) → length (runs_of i j (banned_gap p i j)) ≤ 15
  unfolding runs_of gap_places
  runs-few i j = gather-length 1 15 0 _ (λ k l u. one-length (begins (banned_gap p i j) k) (run_row i j (banned_gap p i j) k))

  pub gaps-few : length (gap_rows p) ≤ max_records
  unfolding gap_rows max_records
  gaps-few =
      omega (arith, pairs-length p.count (λ i j. runs_of i j (banned_gap p i j)) 15 (λ i j l o u. runs-few i j), pairs-most p.count r.high)
