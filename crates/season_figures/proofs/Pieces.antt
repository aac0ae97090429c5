-- The pieces that are cut off a stream are its next length and sheet.
-- Cut off are the bytes wanted, as far as there are any.
use Rattle.std.proofs.Common.{ℕ, ◌+◌, ◌-◌, ◌*◌, ◌≤◌, ◌<◌, min, ◌≡◌, refl, sym, ap, subst, ◌∙◌, Bool, true, false, List, arith, ltb, leb, length, get_or, take, drop, length-take, length-drop, drop-drop, get_or-take, le-leb, lt-ltb, le-ltb, leb-true, leb-false, ltb-true, ltb-false, Option, None, Some, MatchOption}
use borrow.Author.Tests.{lt-leb}
use Rattle.std.proofs.lemmas.List.{take_min, drop_min}
use Rattle.std.specs.Option.{unwrap_or}
use Rattle.model_base.proofs.Tests.{test}
use Rattle.model_sheet.specs.Sheet.{byte_at, word_from}
use Rattle.model_season.specs.Stream.{length_bytes, length_in, is_whole}
use Rattle.season_figures.specs.declared.stream.Season.{Season}
use Rattle.season_figures.specs.Abstract.{AddsSheet}
use Rattle.season_figures.specs.Pieces.{said, is_piece, over_by, Steps, first_sheet, Advances}

-- ---- what a length says

pub said_nothing : (head : List ℕ) → length head < 2 → said head ≡ None
unfolding said length_bytes
said_nothing head h = rw (lt-ltb (length head) 2 h, said)

pub said_length : (head : List ℕ) → 2 ≤ length head → said head ≡ Some (length_in head)
unfolding said length_bytes
said_length head h = rw (le-ltb (length head) 2 h, said)

pub two_bytes_say : (head : List ℕ) → length_in head ≡ get_or head 0 0 + 256 * get_or head 1 0
unfolding length_in word_from byte_at
two_bytes_say head = refl

-- ---- whole or not

pub is-piece : (head sheet : List ℕ) → 2 ≤ length head → length_in head ≤ length sheet → is_piece head sheet ≡ true
unfolding is_piece length_bytes
is-piece head sheet h l = rw (le-leb 2 (length head) h, le-leb (length_in head) (length sheet) l)

pub no-head : (head sheet : List ℕ) → length head < 2 → is_piece head sheet ≡ false
unfolding is_piece length_bytes
no-head head sheet h = rw (lt-leb 2 (length head) h)

pub no-sheet : (head sheet : List ℕ) → 2 ≤ length head → length sheet < length_in head → is_piece head sheet ≡ false
unfolding is_piece length_bytes
no-sheet head sheet h l = rw (le-leb 2 (length head) h, lt-leb (length_in head) (length sheet) l)

-- by what the bytes read for a length say
pub piece_by : (head sheet : List ℕ) (o : Option ℕ) (r : Bool) → o ≡ said head → MatchOption o (r ≡ false) (λ n. r ≡ leb n (length sheet))
    → r ≡ is_piece head sheet
piece_by head sheet o r e M =
    test (leb 2 (length head))
    (λ t. let h = leb-true 2 (length head) t in
    let E : o ≡ Some (length_in head) = e ∙ said_length head h in
    let m : r ≡ leb (length_in head) (length sheet) = rw E at M in
    test (leb (length_in head) (length sheet))
    (λ u. m ∙ u ∙ sym (is-piece head sheet h (leb-true (length_in head) (length sheet) u)))
    (λ u. m ∙ u ∙ sym (no-sheet head sheet h (leb-false (length_in head) (length sheet) u))))
    (λ t. let h = leb-false 2 (length head) t in
    let E : o ≡ None = e ∙ said_nothing head h in
    let m : r ≡ false = rw E at M in
    m ∙ sym (no-head head sheet h))

-- ---- cut off a stream

module _ (bytes head sheet : List ℕ) (n : ℕ) (h : head ≡ take 2 bytes) (k : n ≡ unwrap_or (said head) 0) (s : sheet ≡ take n (drop 2 bytes)) where
  head-long : length head ≡ min 2 (length bytes)
  head-long = ap length h ∙ length-take 2 bytes

  same_length : 2 ≤ length bytes → length_in head ≡ length_in bytes
  unfolding length_in word_from byte_at
  same_length l = rw (h, get_or-take 2 bytes 0 0 (omega arith), get_or-take 2 bytes 1 0 (omega arith)) refl

  said-it : 2 ≤ length bytes → n ≡ length_in bytes
  said-it l = k ∙ ap (λ (o : Option ℕ). unwrap_or o 0) (said_length head (omega (arith, head-long))) ∙ same_length l

  sheet-long : length sheet ≡ min n (length bytes - 2)
  sheet-long = ap length s ∙ length-take n (drop 2 bytes) ∙ ap (min n) (length-drop 2 bytes)

  whole_length : is_whole bytes ≡ true → 2 + length_in bytes ≤ length bytes
  unfolding is_whole length_bytes
  whole_length w = leb-true (2 + length_in bytes) (length bytes) w

  broken-length : is_whole bytes ≡ false → length bytes < 2 + length_in bytes
  unfolding is_whole length_bytes
  broken-length w = leb-false (2 + length_in bytes) (length bytes) w

  whole-piece : is_whole bytes ≡ true → is_piece head sheet ≡ true
  whole-piece w =
      let l = whole_length w in
      let q = said-it (omega arith) in
      is-piece head sheet (omega (arith, head-long)) (omega (arith, sheet-long, same_length (omega arith)))

  broken-piece : is_whole bytes ≡ false → is_piece head sheet ≡ false
  broken-piece w =
      let l = broken-length w in
      test (leb 2 (length bytes))
      (λ t. let m = leb-true 2 (length bytes) t in
      let q = said-it m in
      no-sheet head sheet (omega (arith, head-long)) (omega (arith, sheet-long, same_length m)))
      (λ t. no-head head sheet (omega (arith, head-long, leb-false 2 (length bytes) t)))

  whole-sheet : is_whole bytes ≡ true → sheet ≡ first_sheet bytes
  unfolding first_sheet length_bytes
  whole-sheet w = let l = whole_length w in s ∙ ap (λ (k : ℕ). take k (drop 2 bytes)) (said-it (omega arith))

  anything : ltb 0 (length head) ≡ ltb 0 (length bytes)
  anything =
      test (ltb 0 (length bytes))
      (λ t. lt-ltb 0 (length head) (omega (arith, head-long, ltb-true 0 (length bytes) t)) ∙ sym t)
      (λ t. le-ltb 0 (length head) (omega (arith, head-long, ltb-false 0 (length bytes) t)) ∙ sym t)

module _ (bytes head behind sheet rest : List ℕ) (m n k : ℕ) (l : Option ℕ) (o r : Season) where
  pub advances : m ≡ min (length bytes) 2 → head ≡ take m bytes → behind ≡ drop m bytes → l ≡ said head → n ≡ unwrap_or l 0
      → k ≡ min (length behind) n → sheet ≡ take k behind → rest ≡ drop k behind → Steps o head sheet r → Advances bytes o r rest
  unfolding length_bytes
  advances em eh eb el en ek es er S =
      let em' : m ≡ min 2 (length bytes) = omega arith in
      let ek' : k ≡ min n (length behind) = omega arith in
      let h : head ≡ take 2 bytes = eh ∙ rw em' (take_min 2 bytes) in
      let b : behind ≡ drop 2 bytes = eb ∙ rw em' (drop_min 2 bytes) in
      let q : n ≡ unwrap_or (said head) 0 = en ∙ ap (λ (x : Option ℕ). unwrap_or x 0) el in
      let s : sheet ≡ take n (drop 2 bytes) = es ∙ rw ek' (take_min n behind) ∙ ap (take n) b in
      let e : rest ≡ drop n (drop 2 bytes) = er ∙ rw ek' (drop_min n behind) ∙ ap (drop n) b in
      record {
        counts = λ w.
            let c = S.counts (whole-piece bytes head sheet n h q s w) in
            let l = whole_length bytes head sheet n h q s w in
            let z = said-it bytes head sheet n h q s (omega arith) in (
              subst (λ (x : List ℕ). AddsSheet o.figures x r.figures) (whole-sheet bytes head sheet n h q s w) c.0,
              c.1,
              e ∙ drop-drop n 2 bytes ∙ ap (λ (m : ℕ). drop (2 + m) bytes) z,
            );
        ends = λ w.
            let c = S.ends (broken-piece bytes head sheet n h q s w) in (c.0, c.1 ∙ ap over_by (anything bytes head sheet n h q s));
      }
