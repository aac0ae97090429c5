-- Rows put one behind the other: none, one more or none, and part after part of what is gathered.
-- The room is that of the whole less what is there.
use Rattle.std.proofs.Common.{ℕ, suc, ◌+◌, ◌-◌, ◌≤◌, ◌<◌, ◌≡◌, sym, ap, ◌∙◌, Bool, true, false, cond, List, [], ◌∷◌, ◌++◌, append-nil, append_assoc, add-one, arith, length, length-append}
use Rattle.model_base.specs.Finite.{gather}
use Rattle.model_base.proofs.Lists.{gather-last}
use Rattle.model_base.proofs.Gathers.{gather-split}
use Rattle.model_sheet.specs.Row.{Row}
use Rattle.sheet_editions.specs.Rows.{Room}

-- ---- one row, or none

pub one-room : (b : Bool) (row : Row) (rows : List Row) → b ≡ true → Room rows (cond b (row ∷ []) []) → length rows < 4224
one-room b row rows e room = let r : length rows + 1 ≤ 4224 = rw e at room in omega arith

pub put-down : (b : Bool) (row : Row) (rows new : List Row) → b ≡ true → new ≡ rows ++ row ∷ [] → new ≡ rows ++ cond b (row ∷ []) []
put-down b row rows new e p = rw e p

pub left_out : (b : Bool) (row : Row) (rows : List Row) → b ≡ false → rows ≡ rows ++ cond b (row ∷ []) []
left_out b row rows e = rw e (sym (append-nil rows))

-- ---- of what is gathered from k on, the first m parts are there

pub record Gathered (old : List Row) (f : ℕ → List Row) (k m : ℕ) (rows : List Row) : Type 0 where
  pub all : rows ≡ old ++ gather m k f

pub none_gathered : (old : List Row) (f : ℕ → List Row) (k m : ℕ) → m ≡ 0 → Gathered old f k m old
unfolding gather
none_gathered old f k m e = record { all = rw e (sym (append-nil old)) }

module _ {old : List Row} {f : ℕ → List Row} {k m : ℕ} {rows : List Row} (g : Gathered old f k m rows) where
  -- the room for one of them
  pub gather-room : (n j : ℕ) → m < n → j ≡ k + m → Room old (gather n k f) → Room rows (f j)
  gather-room n j h e room =
      let cut : n ≡ suc m + (n - suc m) = omega arith in
      let whole : length (gather n k f) ≡ length (gather (suc m) k f) + length (gather (n - suc m) (k + suc m) f) =
      ap (λ (x : ℕ). length (gather x k f)) cut ∙ ap length (gather-split (suc m) (n - suc m) k f) ∙ length-append (gather (suc m) k f) _ in
      let more : length (gather (suc m) k f) ≡ length (gather m k f) + length (f (k + m)) = ap length (gather-last m k f) ∙ length-append (gather m k f) _ in
      let here : length (f j) ≡ length (f (k + m)) = ap (λ (x : ℕ). length (f x)) e in
      let there : length rows ≡ length old + length (gather m k f) = ap length g.all ∙ length-append old _ in
      omega (arith, whole, more, here, room, there)

  -- and one more
  pub gather-more : {new : List Row} (j n : ℕ) → new ≡ rows ++ f j → j ≡ k + m → n ≡ m + 1 → Gathered old f k n new
  gather-more j n p e o =
      record { all = p ∙ rw (g.all, e, o, add-one m, gather-last m k f) (append_assoc old (gather m k f) (f (k + m))) }

  pub all-gathered : (n : ℕ) → m ≡ n → rows ≡ old ++ gather n k f
  all-gathered n e = rw e at g.all
