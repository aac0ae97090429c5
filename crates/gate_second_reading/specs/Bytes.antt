-- What a sheet's bytes hold, as the second reading takes them: no definition of the problem is cited, here or in the files beside this one.
use Rattle.std.specs.Prelude.{ℕ, zero, suc, ◌+◌, ◌*◌, ◌%◌, Bool, true, ◌&&◌, List, eqb, get_or, drop}

-- byte k, and 0 beyond the end
unfoldable pub byte_of : List ℕ → ℕ → ℕ
byte_of s k = get_or s k 0

-- the two bytes from byte k on, little-endian
unfoldable pub word_of : List ℕ → ℕ → ℕ
word_of s k = byte_of s k + 256 * byte_of s (k + 1)

-- the slot count of scanner i; that of scanner 1 is byte 8
unfoldable pub slots_of : List ℕ → ℕ → ℕ
slots_of s i = byte_of s (7 + i)

-- the sheet bans gaps: byte 1 is 2
unfoldable pub of_gaps : List ℕ → Bool
of_gaps s = eqb (byte_of s 1) 2

-- the gap in byte k of a record, 7 more: 0 to 14 stand for -7 to 7
unfoldable pub gap_of : List ℕ → ℕ → ℕ
gap_of s k = (byte_of s k + 7) % 256

-- the bytes from record r on: eight bytes each, record 1 at byte 24
abbrev pub record_of : List ℕ → ℕ → List ℕ
record_of s r = drop (16 + 8 * r) s

-- the record behind record r on the chain, 0 for none
abbrev pub next_of : List ℕ → ℕ → ℕ
next_of s r = word_of (record_of s r) 4

-- f holds of each of the numbers 1 to n
unfoldable pub each_to : ℕ → (ℕ → Bool) → Bool
each_to zero f = true
each_to (suc n) f = f (suc n) && each_to n f
