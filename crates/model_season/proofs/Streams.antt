-- Whole sheets are read as they stand in a stream, and what breaks off behind them is none.
-- The length that stands first is the first sheet's, and behind that sheet the rest of the stream is by induction.
use Rattle.std.proofs.Common.{ℕ, zero, suc, ◌+◌, ◌<◌, ◌≡◌, refl, sym, ap, ◌∙◌, true, false, List, [], ◌∷◌, ◌++◌, arith, ltb, length, take, drop, length-append, take_at, drop_at, le-leb}
use lib.Seq.{drop-append-add}
use Rattle.model_sheet.specs.Sheet.{byte_at, word_from}
use Rattle.model_sheet.specs.Writing.{two_bytes}
use Rattle.model_season.specs.Stream.{ended, behind, length_bytes, length_in, is_whole, split}
use Rattle.model_season.specs.Claims.{stream_of, ReadsStream, ReadsNoMore}

-- ---- one sheet of a stream

pub split_goes : (most : ℕ) (bytes : List ℕ) → is_whole bytes ≡ true
    → split (suc most) bytes ≡ behind (take (length_in bytes) (drop length_bytes bytes)) (split most (drop (length_bytes + length_in bytes) bytes))
unfolding split
split_goes most bytes e = rw (e, split)

pub split-ends : (most : ℕ) (bytes : List ℕ) → is_whole bytes ≡ false → split (suc most) bytes ≡ ended (ltb 0 (length bytes))
unfolding split
split-ends most bytes e = rw (e, split)

-- ---- a stream of whole sheets

module _ (sheet rest : List ℕ) (h : length sheet < 65536) where
  abbrev bytes : List ℕ
  bytes = two_bytes (length sheet) ++ (sheet ++ rest)

  length-first : length_in bytes ≡ length sheet
  unfolding length_in word_from byte_at two_bytes
  length-first = omega arith

  first-whole : is_whole bytes ≡ true
  unfolding is_whole length_bytes two_bytes
  first-whole = le-leb (2 + length_in bytes) (length bytes) (omega (arith, length-first, length-append sheet rest))

  first-sheet : take (length_in bytes) (drop length_bytes bytes) ≡ sheet
  unfolding length_bytes two_bytes
  first-sheet = take_at sheet rest (length_in bytes) (sym length-first)

  first_rest : drop (length_bytes + length_in bytes) bytes ≡ rest
  unfolding length_bytes two_bytes
  first_rest = drop-append-add (two_bytes (length sheet)) (sheet ++ rest) (length_in bytes) ∙ drop_at sheet rest (length_in bytes) (sym length-first)

  first-split : (most : ℕ) → split (suc most) bytes ≡ behind sheet (split most rest)
  first-split most = split_goes most bytes first-whole ∙ rw (first-sheet, first_rest) refl

pub reads-stream : ReadsStream
unfolding stream_of ended behind
reads-stream [] fits zero l rest e = absurd (omega arith)
reads-stream [] fits (suc most) l rest e = split-ends most rest e
reads-stream (sheet ∷ more) fits zero l rest e = absurd (omega arith)
reads-stream (sheet ∷ more) fits (suc most) l rest e =
    first-split sheet (stream_of more rest) fits.0 most ∙ ap (behind sheet) (reads-stream more fits.1 most (omega arith) rest e)

pub reads-no-more : ReadsNoMore
unfolding stream_of split ended behind
reads-no-more [] fits rest = refl
reads-no-more (sheet ∷ more) fits rest =
    first-split sheet (stream_of more rest) fits.0 (length more) ∙ ap (behind sheet) (reads-no-more more fits.1 rest)
