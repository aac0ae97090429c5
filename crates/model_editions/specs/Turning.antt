-- Turning a sheet of one edition into one of the other, and writing it into a lent buffer. docs/FORMATS.md, 'Turning one edition into the other'.
use Rattle.std.specs.Prelude.{ℕ, true, false, List, length, eqb, ltb}
use Rattle.model_base.specs.Lent.{Written, untouched, put}
use Rattle.model_sheet.specs.Sheet.{Decoded, Valid, Invalid, BadLength, BadHeader, fault_number, header_length, edition_in, decode}
use Rattle.model_sheet.specs.Writing.{written}
use Rattle.model_editions.specs.Bans.{ban_rows}
use Rattle.model_editions.specs.Gaps.{sayable, gap_rows}

-- docs/PROGRAMS.md, 'turn': "15, not sayable in gaps"
unfoldable pub not_sayable : ℕ
not_sayable = 15

-- a sheet of this edition. "a sheet of the other edition than the one to be turned fails the header check"
unfoldable pub decode_as : ℕ → List ℕ → Decoded
decode_as edition s =
    elim (ltb (length s) header_length) [
      | true ↦ Invalid BadLength
      | false ↦ elim (eqb (edition_in s) edition) [ true ↦ decode s | false ↦ Invalid BadHeader ]
    ]

-- the bytes of the sheet, or a refusal's number
pub data Turned : Type 0 where
  Made : List ℕ → Turned
  Refused : ℕ → Turned

unfoldable pub bans_from : Decoded → Turned
bans_from (Valid p) = Made (written 1 p (ban_rows p))
bans_from (Invalid f) = Refused (fault_number f)

unfoldable pub gaps_from : Decoded → Turned
gaps_from (Valid p) = elim (sayable p) [ true ↦ Made (written 2 p (gap_rows p)) | false ↦ Refused not_sayable ]
gaps_from (Invalid f) = Refused (fault_number f)

-- "A sheet of edition 2 is turned into one of edition 1, its ban sheet"
unfoldable pub ban_sheet : List ℕ → Turned
ban_sheet s = bans_from (decode_as 2 s)

-- "and a sheet of edition 1 into one of edition 2, its gap sheet"
unfoldable pub gap_sheet : List ℕ → Turned
gap_sheet s = gaps_from (decode_as 1 s)

-- ---- into a lent buffer. docs/PROGRAMS.md, 'turn': "Sheet rejections 1 to 4 come first, .. Then comes 15, .."; then 12

unfoldable pub put_turned : Turned → List ℕ → Written
put_turned (Made t) buffer = put t buffer
put_turned (Refused number) buffer = untouched number buffer

unfoldable pub to_bans : List ℕ → List ℕ → Written
to_bans s buffer = put_turned (ban_sheet s) buffer

unfoldable pub to_gaps : List ℕ → List ℕ → Written
to_gaps s buffer = put_turned (gap_sheet s) buffer
