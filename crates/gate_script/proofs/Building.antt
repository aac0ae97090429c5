-- What a line adds to a sheet, byte by byte, slot by slot and record by record.
-- What is there so far, with what is left to add, comes to the same.
use Rattle.std.proofs.Common.{ℕ, suc, ◌+◌, ◌-◌, ◌/◌, ◌%◌, ◌≤◌, ◌<◌, ◌≡◌, refl, sym, ap, ◌∙◌, List, [], ◌∷◌, map, arith, eqb, length, get_or, take, drop, length-take-le, le-leb, Option, Some, None}
use lib.Seq.{drop-length}
use borrow.Author.Tests.{lt-leb}
use Rattle.model_base.proofs.Tests.{test}
use Rattle.gate_script.specs.declared.lines.Numbers.{Numbers}
use Rattle.gate_script.specs.declared.sheets.Sheet.{Sheet}
use Rattle.gate_script.specs.Sheets.{with_bytes, hex_digit, pair_of, in_front, hex_after, link_before, linked, with_record, with_ban, with_bans}
use Rattle.gate_script.proofs.Reading.{next}

pub same-sheet : (s : Sheet) (bytes : List ℕ) (n : ℕ) → s.bytes ≡ bytes → s.length ≡ n → s ≡ record { bytes = bytes; length = n }
same-sheet s bytes n e f = rw (← e, ← f)

-- ---- pairs of digits

front_then : (front : Option ℕ) (rest : List ℕ) (s : Sheet) → with_bytes (in_front front rest) s ≡ with_bytes rest (with_bytes (in_front front []) s)
unfolding with_bytes
front_then None rest s = refl
front_then (Some b) rest s = refl

pair_then : (before b : ℕ) (rest : List ℕ) (s : Sheet)
    → with_bytes (hex_after before (b ∷ rest)) s ≡ with_bytes (hex_after b rest) (with_bytes (hex_after before (b ∷ [])) s)
unfolding hex_after
pair_then before b rest s = front_then (pair_of (hex_digit before) (hex_digit b)) (hex_after b rest) s

pub hex-goes : (line : List ℕ) (i before : ℕ) (s : Sheet) → i < length line
    → with_bytes (hex_after before (drop i line)) s
    ≡ with_bytes (hex_after (get_or line i 0) (drop (i + 1) line)) (with_bytes (hex_after before (get_or line i 0 ∷ [])) s)
hex-goes line i before s h = rw (next line i h) (pair_then before (get_or line i 0) (drop (i + 1) line) s)

pub hex-ends : (before : ℕ) (rest : List ℕ) (s : Sheet) → rest ≡ [] → with_bytes (hex_after before rest) s ≡ s
unfolding hex_after with_bytes
hex-ends before rest s e = rw e

-- ---- slot counts

-- the counts from i on, as bytes
abbrev pub counts_from : Numbers → ℕ → List ℕ
counts_from n i = map (λ (v : ℕ). v % 256) (drop i (take 12 n.values))

module _ (n : Numbers) (long : length n.values ≡ 16) where
  taken : length (take 12 n.values) ≡ 12
  taken = length-take-le 12 n.values (omega arith)

  pub counts-done : (i : ℕ) → i ≡ 12 → counts_from n i ≡ []
  counts-done i e =
      ap (map (λ (v : ℕ). v % 256)) (ap (λ (k : ℕ). drop k (take 12 n.values)) (e ∙ sym taken) ∙ drop-length (take 12 n.values))

-- ---- bans

pub link-small : (index length : ℕ) → length ≤ 33816 → link_before index length < 33823
unfolding link_before
link-small index length h = test (eqb index 1) (λ e. rw e (omega arith)) (λ e. rw e (omega arith))

module _ (i v j w : ℕ) (s : Sheet) where
  pub no_header : s.length < 24 → with_ban i v j w s ≡ s
  unfolding with_ban
  no_header h = rw (lt-leb 24 s.length h)

  pub no_room : 24 ≤ s.length → 33816 < s.length → with_ban i v j w s ≡ s
  unfolding with_ban
  no_room h l = rw (le-leb 24 s.length h, lt-leb (s.length + 8) 33824 (omega arith))

  pub ban-put : 24 ≤ s.length → s.length ≤ 33816 → with_ban i v j w s ≡ with_record i v j w (linked (s.length / 8 - 2) s)
  unfolding with_ban
  ban-put h l = rw (le-leb 24 s.length h, le-leb (s.length + 8) 33824 (omega arith))

module _ (i j w last : ℕ) where
  pub no-bans : (s : Sheet) (v : ℕ) → last < v → with_bans (suc last - v) i v j w s ≡ s
  unfolding with_bans
  no-bans s v h = let none : suc last - v ≡ 0 = omega arith in rw none

  pub ban-more : (s : Sheet) (v : ℕ) → v ≤ last → with_bans (suc last - v) i v j w s ≡ with_bans (suc last - (v + 1)) i (v + 1) j w (with_ban i v j w s)
  unfolding with_bans
  ban-more s v h =
      let one : suc last - v ≡ suc (suc last - (v + 1)) = omega arith in
      let on : suc v ≡ v + 1 = omega arith in
      ap (λ (k : ℕ). with_bans k i v j w s) one ∙ ap (λ (k : ℕ). with_bans (suc last - (v + 1)) i k j w (with_ban i v j w s)) on

  pub last-ban : (s : Sheet) (v : ℕ) → v ≤ last → last ≤ v → with_bans (suc last - v) i v j w s ≡ with_ban i v j w s
  last-ban s v h l = ban-more s v h ∙ no-bans (with_ban i v j w s) (v + 1) (omega arith)
