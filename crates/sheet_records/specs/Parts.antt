-- What the code's parts say of a sheet.
use Rattle.std.specs.Prelude.{ℕ, ◌+◌, ◌*◌, ◌^◌, ◌≤◌, ◌<◌, ◌≡◌, Bool, true, ◌&&◌, List, length, get_or}
use Rattle.model_base.specs.Bits.{bit}
use Rattle.model_sheet.specs.Problem.{owns, bit_at, with_table}
use Rattle.model_sheet.specs.Row.{hits, with_row}
use Rattle.model_sheet.specs.Sheet.{edition_in, without_bans, header_good, row_of, record_good}

-- record r is one of a sheet with a good header, and good
pub record Good (s : List ℕ) (r : ℕ) : Type 0 where
  pub header : header_good s ≡ true
  pub index : 1 ≤ r
  pub inside : 24 + 8 * r ≤ length s
  pub fields : record_good s (without_bans s) r ≡ true

-- the pairs of values of which a word has the bit are exactly those that h names
pub record Pairs (word : ℕ) (h : ℕ → ℕ → Bool) : Type 0 where
  pub short : word < 2 ^ 64
  pub bits : (v w : ℕ) → 1 ≤ v → v ≤ 8 → 1 ≤ w → w ≤ 8 → bit word (bit_at v w) ≡ h v w

-- owned values that record r hits
unfoldable pub row_pairs : List ℕ → ℕ → ℕ → ℕ → Bool
row_pairs s r v w =
    owns (without_bans s) (row_of s r).lower v && owns (without_bans s) (row_of s r).higher w && hits (edition_in s) (row_of s r) v w

-- every word of a table has 64 bits
abbrev pub Short : List ℕ → Type 0
Short t = (k : ℕ) → get_or t k 0 < 2 ^ 64

-- the table with what record r bans
unfoldable pub table_with : List ℕ → ℕ → List ℕ → List ℕ
table_with s r t = (with_row (edition_in s) (row_of s r) (with_table (without_bans s) t)).bans
