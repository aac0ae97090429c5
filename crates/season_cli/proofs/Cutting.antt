-- What was taken for a length and a sheet is the next piece of a stream, whatever follows.
-- Bytes are cut off behind as many as were taken: all that were asked for, or all that there are.
use Rattle.std.proofs.Common.{ℕ, ◌≡◌, ◌≤◌, ◌<◌, min, true, false, List, [], ◌++◌, Option, unwrap_or, length, refl, sym, ap, ◌∙◌, length-append, drop_at, arith, leb, leb-true, leb-false}
use Rattle.std.proofs.lemmas.List.{take_at, nil_from_length}
use Rattle.model_base.proofs.Tests.{test, both}
use Rattle.model_season.specs.Stream.{length_bytes, length_in}
use Rattle.season_figures.specs.declared.stream.Season.{Season}
use Rattle.season_figures.specs.Pieces.{said, is_piece, Steps, Advances}
use Rattle.season_figures.proofs.Pieces.{said_nothing, said_length, is-piece, advances}

-- how many bytes are asked for behind a length
abbrev pub wanted : List ℕ → ℕ
wanted head = unwrap_or (said head) 0

none-wanted : (head : List ℕ) → length head < 2 → wanted head ≡ 0
none-wanted head h = ap (λ (o : Option ℕ). unwrap_or o 0) (said_nothing head h)

length-wanted : (head : List ℕ) → 2 ≤ length head → wanted head ≡ length_in head
length-wanted head h = ap (λ (o : Option ℕ). unwrap_or o 0) (said_length head h)

module _ (head sheet : List ℕ) (few : length head ≤ 2) (fits : length sheet ≤ wanted head) where
  -- a whole piece has all that was asked for
  pub whole-long : is_piece head sheet ≡ true → (length head ≡ 2) × (length sheet ≡ wanted head)
  unfolding is_piece length_bytes
  whole-long e =
      let t = both (leb 2 (length head)) _ e in
      let h = leb-true 2 (length head) t.0 in
      let l = leb-true (length_in head) (length sheet) t.1 in
      (omega arith, omega (arith, length-wanted head h))

  -- where the length is whole and the piece is not, bytes of the sheet are missing
  pub broken-short : is_piece head sheet ≡ false → 2 ≤ length head → length sheet < wanted head
  broken-short e h =
      test (leb (length_in head) (length sheet))
      (λ t. let whole = is-piece head sheet h (leb-true (length_in head) (length sheet) t) in let clash : true ≡ false = sym whole ∙ e in cc)
      (λ t. let l = leb-false (length_in head) (length sheet) t in omega (arith, length-wanted head h))

  -- no sheet is there without a length
  pub no-sheet-alone : length head < 2 → sheet ≡ []
  no-sheet-alone h = nil_from_length sheet (omega (arith, none-wanted head h))

  -- ---- as many as were taken are cut off

  head-cut : (more : List ℕ) → (length head ≡ 2) → min (length (head ++ (sheet ++ more))) 2 ≡ length head
  head-cut more h = omega (arith, length-append head (sheet ++ more))

  head-alone : min (length (head ++ (sheet ++ []))) 2 ≡ length head
  head-alone =
      test (leb 2 (length head))
      (λ t. let h = leb-true 2 (length head) t in omega (arith, length-append head (sheet ++ [])))
      (λ t. let h = leb-false 2 (length head) t in
      omega (arith, length-append head (sheet ++ []), length-append sheet [], none-wanted head h))

  module _ (s r : Season) (S : Steps s head sheet r) where
    cut : (more : List ℕ) → min (length (head ++ (sheet ++ more))) 2 ≡ length head → min (length (sheet ++ more)) (wanted head) ≡ length sheet
        → Advances (head ++ (sheet ++ more)) s r more
    cut more a b =
        advances (head ++ (sheet ++ more)) head (sheet ++ more) sheet more (length head) (wanted head) (length sheet) (said head) s r
        (sym a) (sym (take_at head (sheet ++ more) (length head) refl)) (sym (drop_at head (sheet ++ more) (length head) refl)) refl refl
        (sym b) (sym (take_at sheet more (length sheet) refl)) (sym (drop_at sheet more (length sheet) refl)) S

    pub whole-advances : is_piece head sheet ≡ true → (more : List ℕ) → Advances (head ++ (sheet ++ more)) s r more
    whole-advances e more = let l = whole-long e in cut more (head-cut more l.0) (omega (arith, length-append sheet more))

    pub last-advances : Advances (head ++ (sheet ++ [])) s r []
    last-advances = cut [] head-alone (omega (arith, length-append sheet []))
