-- The sheet of an ordinal in the code's terms.
-- The choice is one of those listed; what holds of all slot counts holds of its own.
use Rattle.std.proofs.Common.{ℕ, ◌<◌, ◌≡◌, sym, ap, subst, List, lt-ltb}
use Rattle.model_base.proofs.Lists.{All}
use Rattle.model_base.specs.Lent.{put}
use Rattle.model_sheet.specs.Writing.{written}
use Rattle.model_little.specs.Little.{little_count, sizes, bare, places, chosen, choice_from, sheet_of, little_sheet}
use Rattle.model_little.specs.Putting.{put_little}
use Rattle.model_little.proofs.Problems.{of-all}
use Rattle.model_little.proofs.Theorems.{listed}
use Rattle.sheet_little.specs.Abstract.{Means, bare_of}
use Rattle.sheet_little.specs.Rows.{rows_from}
use Rattle.sheet_little.specs.declared.choice.Choice.{Choice}
use Rattle.sheet_little.proofs.Counts.{made, is_made, sizes-rows, sizes-bare}

-- the sheet of the code's choice
abbrev pub sheet_for : Choice → List ℕ
sheet_for c = written 1 (bare_of c.counts) (chosen c.bans (rows_from c.counts 0))

module _ (ordinal : ℕ) (h : ordinal < little_count) where
  of-these : (P : List ℕ → Type 0) → All P sizes → P (choice_from sizes ordinal).counts
  of-these P = of-all P (choice_from sizes ordinal).counts sizes (listed ordinal h).counts

  -- the code's choice
  same-choice : Choice
  same-choice = record { counts = made (choice_from sizes ordinal).counts; bans = (choice_from sizes ordinal).bans }

  sheet-so : little_sheet ordinal ≡ sheet_for same-choice
  unfolding same-choice little_sheet sheet_of
  sheet-so =
      rw (of-these (λ ds. places (bare ds) ≡ rows_from (made ds) 0) sizes-rows, of-these (λ ds. bare ds ≡ bare_of (made ds)) sizes-bare)

  module _ (c : Choice) (m : Means c (choice_from sizes ordinal)) where
    sheet-is : little_sheet ordinal ≡ sheet_for c
    unfolding same-choice
    sheet-is =
        let same : c ≡ same-choice = λ i. record { counts = is_made c.counts _ m.counts i; bans = m.bans i } in
        subst (λ (d : Choice). little_sheet ordinal ≡ sheet_for d) (sym same) sheet-so

    pub answers-sheet : (out : List ℕ) → put_little ordinal out ≡ put (sheet_for c) out
    unfolding put_little
    answers-sheet out = rw (lt-ltb ordinal little_count h, put_little) (ap (λ (l : List ℕ). put l out) sheet-is)
