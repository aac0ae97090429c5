-- A text piece by piece: what stands before the first byte that ends a piece is the first piece, and the rest has the others.
-- By induction on the bytes before it, none of which ends a piece.
use Rattle.std.proofs.Common.{ℕ, ◌<◌, ◌≡◌, refl, Bool, true, false, List, [], ◌∷◌, ◌++◌, arith, length}
use Rattle.model_base.specs.Lists.{All}
use Rattle.model_text.specs.Words.{is_newline, on_first, pieces_of, lines_of}

-- no byte of l ends a piece
abbrev pub Plain : (ℕ → Bool) → List ℕ → Type 0
Plain ends l = All (λ b. ends b ≡ false) l

module _ (ends : ℕ → Bool) where
  pub pieces_none : pieces_of ends [] ≡ []
  unfolding pieces_of
  pieces_none = refl

  pub pieces-ended : (l : List ℕ) (c : ℕ) (bs : List ℕ) → Plain ends l → ends c ≡ true → pieces_of ends (l ++ c ∷ bs) ≡ l ∷ pieces_of ends bs
  unfolding pieces_of on_first
  pieces-ended [] c bs h e = rw (e, pieces_of)
  pieces-ended (b ∷ l) c bs h e = rw (h.0, pieces_of, pieces-ended l c bs h.1 e)

  pub pieces-last : (l : List ℕ) → Plain ends l → 0 < length l → pieces_of ends l ≡ l ∷ []
  unfolding pieces_of on_first
  pieces-last [] h s = absurd (omega arith)
  pieces-last (b ∷ []) h s = rw (h.0, pieces_of)
  pieces-last (b ∷ c ∷ l) h s = rw (h.0, pieces_of, pieces-last (c ∷ l) h.1 (omega arith))

-- ---- lines

pub lines_none : lines_of [] ≡ []
unfolding lines_of
lines_none = pieces_none is_newline

pub lines-ended : (l bs : List ℕ) → Plain is_newline l → lines_of (l ++ 10 ∷ bs) ≡ l ∷ lines_of bs
unfolding lines_of is_newline
lines-ended l bs h = pieces-ended is_newline l 10 bs h refl
