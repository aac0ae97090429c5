-- The claims about turning.
-- What is written of a table decodes to it, so turning back finds the same table, and writes what it says.
use Rattle.std.proofs.Common.{ℕ, ◌≡◌, refl, sym, ap, ◌∙◌, true, false, List, arith}
use Rattle.model_base.proofs.Tests.{test}
use Rattle.model_sheet.specs.Problem.{Problem}
use Rattle.model_sheet.specs.Sheet.{SheetFault, BadLength, BadHeader, BadRecord, Cycle, fault_number, Decoded, Valid, Invalid}
use Rattle.model_sheet.specs.Writing.{written}
use Rattle.model_editions.specs.Bans.{ban_rows}
use Rattle.model_editions.specs.Gaps.{sayable, gap_rows}
use Rattle.model_editions.specs.Turning.{not_sayable, Made, Refused, decode_as, bans_from, gaps_from, ban_sheet, gap_sheet}
use Rattle.theorems_editions.specs.Claims.{Says, BansKept, GapsKept, RefusedAsSaid, BackAgain, onward, Twice, TwiceFromGaps, TwiceFromBans}
use Rattle.theorems_editions.proofs.Sayable.{unsayable, mixed-refuses}
use Rattle.theorems_editions.proofs.Bans.{bans-few}
use Rattle.theorems_editions.proofs.Gaps.{gaps-few}
use Rattle.theorems_editions.proofs.Decoding.{Good, good, to-good, written-kind, written-short, bans-decode, gaps-decode, gap-sheet-sayable}

-- ---- what was made, and what was refused

made : {X : Type 0} {k : ℕ} {t : List ℕ} → Refused k ≡ Made t → X
made e = let z : ◌≡◌ {A = ℕ} 0 1 = cc in absurd (omega arith)

bans-made : (d : Decoded) (t : List ℕ) → bans_from d ≡ Made t → (p : Problem) × (d ≡ Valid p) × (t ≡ written 1 p (ban_rows p))
unfolding bans_from
bans-made (Valid p) t e = (p, refl, cc)
bans-made (Invalid f) t e = made e

gaps-made : (d : Decoded) (t : List ℕ) → gaps_from d ≡ Made t
    → (p : Problem) × (d ≡ Valid p) × (sayable p ≡ true) × (t ≡ written 2 p (gap_rows p))
unfolding gaps_from
gaps-made (Valid p) t e =
    test (sayable p)
    (λ s. let q : Made (written 2 p (gap_rows p)) ≡ Made t = rw (s, gaps_from) at e in (p, refl, s, cc))
    (λ s. made (rw (s, gaps_from) at e))
gaps-made (Invalid f) t e = made e

fault-small : (f : SheetFault) → fault_number f ≡ not_sayable → ⊥
unfolding fault_number not_sayable
fault-small BadLength e = omega arith
fault-small BadHeader e = omega arith
fault-small BadRecord e = omega arith
fault-small Cycle e = omega arith

gaps-refused : (d : Decoded) → gaps_from d ≡ Refused not_sayable → (p : Problem) × (d ≡ Valid p) × (sayable p ≡ false)
unfolding gaps_from
gaps-refused (Valid p) e = test (sayable p) (λ s. made (sym (rw (s, gaps_from) at e))) (λ s. (p, refl, s))
gaps-refused (Invalid f) e = absurd (fault-small f cc)

-- ---- turning back

ban-sheet-of : (u : List ℕ) (p : Problem) → decode_as 2 u ≡ Valid p → ban_sheet u ≡ Made (written 1 p (ban_rows p))
unfolding ban_sheet bans_from
ban-sheet-of u p e = rw e

gap-sheet-of : (u : List ℕ) (p : Problem) → decode_as 1 u ≡ Valid p → sayable p ≡ true → gap_sheet u ≡ Made (written 2 p (gap_rows p))
unfolding gap_sheet gaps_from
gap-sheet-of u p e s = rw (e, s, gaps_from)

-- ---- of one table

module _ (s : List ℕ) (p : Problem) (g : Good 2 s p) (t : List ℕ) (w : t ≡ written 1 p (ban_rows p)) where
  bans-say : Says 1 s t
  bans-say =
      record {
        problem = p;
        before = g.valid;
        after = rw w (bans-decode p g.range);
        kind = rw w (written-kind 1 p (ban_rows p));
        short = rw w (written-short 1 p (ban_rows p) g.range (bans-few p g.range));
      }

  bans-twice : ban_sheet s ≡ Made t → Twice ban_sheet gap_sheet s t (written 2 p (gap_rows p))
  unfolding onward
  bans-twice e =
      let u = written 2 p (gap_rows p) in
      let y = gap-sheet-sayable s p g in
      let back : gap_sheet t ≡ Made u =
      rw w (gap-sheet-of _ p (to-good 1 _ p (bans-decode p g.range) (written-kind 1 p (ban_rows p))) y) in
      let second : ban_sheet u ≡ Made t =
      rw w (ban-sheet-of u p (to-good 2 _ p (gaps-decode p g.range y) (written-kind 2 p (gap_rows p)))) in
      record { first = e; end = back; second = second; again = ap (onward gap_sheet) second ∙ back }

module _ (s : List ℕ) (p : Problem) (g : Good 1 s p) (y : sayable p ≡ true) (t : List ℕ) (w : t ≡ written 2 p (gap_rows p)) where
  gaps-say : Says 2 s t
  gaps-say =
      record {
        problem = p;
        before = g.valid;
        after = rw w (gaps-decode p g.range y);
        kind = rw w (written-kind 2 p (gap_rows p));
        short = rw w (written-short 2 p (gap_rows p) g.range (gaps-few p g.range));
      }

  gaps-twice : gap_sheet s ≡ Made t → Twice gap_sheet ban_sheet s t (written 1 p (ban_rows p))
  unfolding onward
  gaps-twice e =
      let u = written 1 p (ban_rows p) in
      let back : ban_sheet t ≡ Made u =
      rw w (ban-sheet-of _ p (to-good 2 _ p (gaps-decode p g.range y) (written-kind 2 p (gap_rows p)))) in
      let second : gap_sheet u ≡ Made t =
      rw w (gap-sheet-of u p (to-good 1 _ p (bans-decode p g.range) (written-kind 1 p (ban_rows p))) y) in
      record { first = e; end = back; second = second; again = ap (onward ban_sheet) second ∙ back }

-- ---- the claims

pub bans-kept : BansKept
unfolding ban_sheet
bans-kept s t e = let (p, d, w) = bans-made (decode_as 2 s) t e in bans-say s p (good 2 s p d) t w

pub gaps-kept : GapsKept
unfolding gap_sheet
gaps-kept s t e = let (p, d, y, w) = gaps-made (decode_as 1 s) t e in gaps-say s p (good 1 s p d) y t w

pub refused-as-said : RefusedAsSaid
unfolding gap_sheet gaps_from
refused-as-said s = (
  λ e. let (p, d, y) = gaps-refused (decode_as 1 s) e in (p, d, unsayable p (good 1 s p d).range y),
  λ x. let (p, d, m) = x in rw (d, mixed-refuses p (good 1 s p d).range m, gaps_from),
)

pub twice-from-gaps : TwiceFromGaps
unfolding ban_sheet
twice-from-gaps s t e =
    let (p, d, w) = bans-made (decode_as 2 s) t e in
    (written 2 p (gap_rows p), bans-twice s p (good 2 s p d) t w e)

pub back-again : BackAgain
back-again s t e = let (u, x) = twice-from-gaps s t e in (u, x.end)

pub twice-from-bans : TwiceFromBans
unfolding gap_sheet
twice-from-bans s t e =
    let (p, d, y, w) = gaps-made (decode_as 1 s) t e in
    (written 1 p (ban_rows p), gaps-twice s p (good 1 s p d) y t w e)
