-- The sheet that lines build, record by record or byte by byte. Nothing is added where there is no room for it.
use Rattle.std.specs.Prelude.{ℕ, zero, suc, ◌+◌, ◌*◌, ◌-◌, ◌/◌, ◌%◌, Bool, cond, ◌&&◌, List, [], ◌∷◌, Option, Some, None, map, eqb, ltb, leb, get_or, set, take, replicate}
use Rattle.std.proofs.lemmas.List.Edits.{sets}
use Rattle.gate_script.specs.declared.lines.Numbers.{Numbers}
use Rattle.gate_script.specs.declared.sheets.Sheet.{Sheet}
use Rattle.gate_script.specs.Lines.{is_digit, small_of}
use Rattle.gate_script.specs.declared.kinds.Kind.{Kind}
use Rattle.gate_script.specs.declared.kinds.Kind.TheVariants.{Case, Slots, Ban, Each, Hex, Zeros}

-- the bytes that a sheet has room for
abbrev pub room : ℕ
room = 33824

-- no byte yet; those beyond the length are zero
unfoldable pub blank_sheet : Sheet
blank_sheet = record { bytes = replicate room 0; length = 0 }

-- so many of the bytes beyond the length
abbrev pub longer : ℕ → Sheet → Sheet
longer more s = record { bytes = s.bytes; length = s.length + more }

-- two bytes side by side at place k
abbrev pub two_at : ℕ → ℕ → ℕ → Sheet → Sheet
two_at k a b s = record { bytes = set (set s.bytes k a) (k + 1) b; length = s.length }

-- ---- a line of zeros

-- so many zeros more
unfoldable pub with_zeros : ℕ → Sheet → Sheet
with_zeros more s = cond (leb (s.length + more) room) (longer more s) s

-- ---- a line of hexadecimal digits

-- one byte more
unfoldable pub with_byte : ℕ → Sheet → Sheet
with_byte b s = cond (ltb s.length room) (record { bytes = set s.bytes s.length b; length = s.length + 1 }) s

-- these bytes more, as many as there is room for
unfoldable pub with_bytes : List ℕ → Sheet → Sheet
with_bytes [] s = s
with_bytes (b ∷ bs) s = with_bytes bs (with_byte b s)

-- 'a' to 'f'
unfoldable pub is_hex_letter : ℕ → Bool
is_hex_letter b = leb 97 b && leb b 102

-- the value of a hexadecimal digit
unfoldable pub hex_digit : ℕ → Option ℕ
hex_digit b = cond (is_digit b) (Some (b - 48)) (cond (is_hex_letter b) (Some (b - 87)) None)

-- the byte that two digits say
abbrev pub pair_of : Option ℕ → Option ℕ → Option ℕ
pair_of (Some high) (Some low) = Some (16 * high + low)
pair_of high low = None

-- a byte in front of others, if there is one
abbrev pub in_front : Option ℕ → List ℕ → List ℕ
in_front (Some b) bs = b ∷ bs
in_front None bs = bs

-- a byte for every two digits that stand side by side in some letters, with this letter before them
unfoldable pub hex_after : ℕ → List ℕ → List ℕ
hex_after before [] = []
hex_after before (b ∷ bs) = in_front (pair_of (hex_digit before) (hex_digit b)) (hex_after b bs)

-- the bytes that a line gives; a blank is no digit
unfoldable pub with_hex : List ℕ → Sheet → Sheet
with_hex line = with_bytes (hex_after 32 line)

-- ---- a line of slot counts

-- the header for these slot counts, with no record: their number, the edition and, from byte 8 on, the counts
unfoldable pub slots_sheet : Numbers → Sheet
slots_sheet n =
    record {
      bytes = sets (sets blank_sheet.bytes 0 (n.count % 256 ∷ 1 ∷ [])) 8 (map (λ (v : ℕ). v % 256) (take 12 n.values));
      length = 24;
    }

-- ---- a line of one ban, or of a scanner's slots that are banned

-- where the index of the record behind the last one stands: in the header, and from record 1 on at a record's fifth byte
unfoldable pub link_before : ℕ → ℕ → ℕ
link_before index length = cond (eqb index 1) 2 (length - 4)

-- an index or a count in two bytes, little-endian
abbrev pub index_at : ℕ → ℕ → Sheet → Sheet
index_at k index = two_at k (index % 256) (index / 256 % 256)

-- the chain leads on to a record of this index, and has so many
unfoldable pub linked : ℕ → Sheet → Sheet
linked index s = index_at 4 index (index_at (link_before index s.length) index s)

-- the eight bytes of a record: slot v of scanner i with slot w of scanner j, and no next record
unfoldable pub with_record : ℕ → ℕ → ℕ → ℕ → Sheet → Sheet
with_record i v j w s = longer 8 (two_at (s.length + 2) v w (two_at s.length i j s))

-- one record more, behind a header
unfoldable pub with_ban : ℕ → ℕ → ℕ → ℕ → Sheet → Sheet
with_ban i v j w s = cond (leb 24 s.length && leb (s.length + 8) room) (with_record i v j w (linked (s.length / 8 - 2) s)) s

-- a record for each of so many slots of scanner i, from v on
unfoldable pub with_bans : ℕ → ℕ → ℕ → ℕ → ℕ → Sheet → Sheet
with_bans zero i v j w s = s
with_bans (suc k) i v j w s = with_bans k i (suc v) j w (with_ban i v j w s)

-- ---- every line

-- the sheet after a line of this kind with these numbers: a case begins with a blank one; a line that is not understood builds nothing
unfoldable pub built_by : Sheet → Option Kind → Numbers → List ℕ → Sheet
built_by s (Some Case) n line = blank_sheet
built_by s (Some Slots) n line = slots_sheet n
built_by s (Some Ban) n line = with_ban (small_of n 0) (small_of n 1) (small_of n 2) (small_of n 3) s
built_by s (Some Each) n line = with_bans (suc (small_of n 2) - small_of n 1) (small_of n 0) (small_of n 1) (small_of n 3) (small_of n 4) s
built_by s (Some Hex) n line = with_hex line s
built_by s (Some Zeros) n line = with_zeros (get_or n.values 0 0) s
built_by s kind n line = s
