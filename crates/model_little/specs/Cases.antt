-- Worked cases of the little sheets, each written out byte for byte from docs/PROGRAMS.md, 'All the little sheets', and docs/FORMATS.md, 'The sheet'.
use Rattle.std.specs.Prelude.{ℕ, ◌-◌, ◌^◌, Bool, List, [], ◌∷◌, ◌++◌, replicate}
use Rattle.model_little.specs.Little.{little_sheet}
use Rattle.model_base.specs.Lent.{Written}
use Rattle.model_base.specs.Same.{same_numbers, same_written}
use Rattle.model_little.specs.Putting.{put_little}

-- ---- sheets

-- one scanner with one slot, and with two; no records, and no first index
unfoldable pub sheet0 : List ℕ
sheet0 =
    1 ∷ 1 ∷ 0 ∷ 0 ∷ 0 ∷ 0 ∷ 0 ∷ 0
    ∷ 1 ∷ 0 ∷ 0 ∷ 0 ∷ 0 ∷ 0 ∷ 0 ∷ 0 ∷ 0 ∷ 0 ∷ 0 ∷ 0
    ∷ 0 ∷ 0 ∷ 0 ∷ 0
    ∷ []

unfoldable pub sheet1 : List ℕ
sheet1 =
    1 ∷ 1 ∷ 0 ∷ 0 ∷ 0 ∷ 0 ∷ 0 ∷ 0
    ∷ 2 ∷ 0 ∷ 0 ∷ 0 ∷ 0 ∷ 0 ∷ 0 ∷ 0 ∷ 0 ∷ 0 ∷ 0 ∷ 0
    ∷ 0 ∷ 0 ∷ 0 ∷ 0
    ∷ []

-- two scanners with one slot each: none is banned
unfoldable pub sheet2 : List ℕ
sheet2 =
    2 ∷ 1 ∷ 0 ∷ 0 ∷ 0 ∷ 0 ∷ 0 ∷ 0
    ∷ 1 ∷ 1 ∷ 0 ∷ 0 ∷ 0 ∷ 0 ∷ 0 ∷ 0 ∷ 0 ∷ 0 ∷ 0 ∷ 0
    ∷ 0 ∷ 0 ∷ 0 ∷ 0
    ∷ []

-- slots 1, 2: the lowest bit is 1:1 with 2:1, the next 1:1 with 2:2
unfoldable pub sheet5 : List ℕ
sheet5 =
    2 ∷ 1 ∷ 1 ∷ 0 ∷ 1 ∷ 0 ∷ 0 ∷ 0
    ∷ 1 ∷ 2 ∷ 0 ∷ 0 ∷ 0 ∷ 0 ∷ 0 ∷ 0 ∷ 0 ∷ 0 ∷ 0 ∷ 0
    ∷ 0 ∷ 0 ∷ 0 ∷ 0
    ∷ 1 ∷ 2 ∷ 1 ∷ 1 ∷ 0 ∷ 0 ∷ 0 ∷ 0
    ∷ []

unfoldable pub sheet6 : List ℕ
sheet6 =
    2 ∷ 1 ∷ 1 ∷ 0 ∷ 1 ∷ 0 ∷ 0 ∷ 0
    ∷ 1 ∷ 2 ∷ 0 ∷ 0 ∷ 0 ∷ 0 ∷ 0 ∷ 0 ∷ 0 ∷ 0 ∷ 0 ∷ 0
    ∷ 0 ∷ 0 ∷ 0 ∷ 0
    ∷ 1 ∷ 2 ∷ 1 ∷ 2 ∷ 0 ∷ 0 ∷ 0 ∷ 0
    ∷ []

-- slots 2, 1 follow on slots 1, 2
unfoldable pub sheet8 : List ℕ
sheet8 =
    2 ∷ 1 ∷ 0 ∷ 0 ∷ 0 ∷ 0 ∷ 0 ∷ 0
    ∷ 2 ∷ 1 ∷ 0 ∷ 0 ∷ 0 ∷ 0 ∷ 0 ∷ 0 ∷ 0 ∷ 0 ∷ 0 ∷ 0
    ∷ 0 ∷ 0 ∷ 0 ∷ 0
    ∷ []

-- slots 2, 2: the second bit is 1:1 with 2:2, not 1:2 with 2:1
unfoldable pub sheet14 : List ℕ
sheet14 =
    2 ∷ 1 ∷ 1 ∷ 0 ∷ 1 ∷ 0 ∷ 0 ∷ 0
    ∷ 2 ∷ 2 ∷ 0 ∷ 0 ∷ 0 ∷ 0 ∷ 0 ∷ 0 ∷ 0 ∷ 0 ∷ 0 ∷ 0
    ∷ 0 ∷ 0 ∷ 0 ∷ 0
    ∷ 1 ∷ 2 ∷ 1 ∷ 2 ∷ 0 ∷ 0 ∷ 0 ∷ 0
    ∷ []

-- the last of two scanners: all four bans, in the order of their bits
unfoldable pub sheet27 : List ℕ
sheet27 =
    2 ∷ 1 ∷ 1 ∷ 0 ∷ 4 ∷ 0 ∷ 0 ∷ 0
    ∷ 2 ∷ 2 ∷ 0 ∷ 0 ∷ 0 ∷ 0 ∷ 0 ∷ 0 ∷ 0 ∷ 0 ∷ 0 ∷ 0
    ∷ 0 ∷ 0 ∷ 0 ∷ 0
    ∷ 1 ∷ 2 ∷ 1 ∷ 1 ∷ 2 ∷ 0 ∷ 0 ∷ 0
    ∷ 1 ∷ 2 ∷ 1 ∷ 2 ∷ 3 ∷ 0 ∷ 0 ∷ 0
    ∷ 1 ∷ 2 ∷ 2 ∷ 1 ∷ 4 ∷ 0 ∷ 0 ∷ 0
    ∷ 1 ∷ 2 ∷ 2 ∷ 2 ∷ 0 ∷ 0 ∷ 0 ∷ 0
    ∷ []

-- the first of three scanners
unfoldable pub sheet28 : List ℕ
sheet28 =
    3 ∷ 1 ∷ 0 ∷ 0 ∷ 0 ∷ 0 ∷ 0 ∷ 0
    ∷ 1 ∷ 1 ∷ 1 ∷ 0 ∷ 0 ∷ 0 ∷ 0 ∷ 0 ∷ 0 ∷ 0 ∷ 0 ∷ 0
    ∷ 0 ∷ 0 ∷ 0 ∷ 0
    ∷ []

-- slots 1, 1, 1: the second bit is 1:1 with 3:1, before 2:1 with 3:1
unfoldable pub sheet30 : List ℕ
sheet30 =
    3 ∷ 1 ∷ 1 ∷ 0 ∷ 1 ∷ 0 ∷ 0 ∷ 0
    ∷ 1 ∷ 1 ∷ 1 ∷ 0 ∷ 0 ∷ 0 ∷ 0 ∷ 0 ∷ 0 ∷ 0 ∷ 0 ∷ 0
    ∷ 0 ∷ 0 ∷ 0 ∷ 0
    ∷ 1 ∷ 3 ∷ 1 ∷ 1 ∷ 0 ∷ 0 ∷ 0 ∷ 0
    ∷ []

-- the last: three scanners with two slots each, and all twelve bans
unfoldable pub sheet4995 : List ℕ
sheet4995 =
    3 ∷ 1 ∷ 1 ∷ 0 ∷ 12 ∷ 0 ∷ 0 ∷ 0
    ∷ 2 ∷ 2 ∷ 2 ∷ 0 ∷ 0 ∷ 0 ∷ 0 ∷ 0 ∷ 0 ∷ 0 ∷ 0 ∷ 0
    ∷ 0 ∷ 0 ∷ 0 ∷ 0
    ∷ 1 ∷ 2 ∷ 1 ∷ 1 ∷ 2 ∷ 0 ∷ 0 ∷ 0
    ∷ 1 ∷ 2 ∷ 1 ∷ 2 ∷ 3 ∷ 0 ∷ 0 ∷ 0
    ∷ 1 ∷ 2 ∷ 2 ∷ 1 ∷ 4 ∷ 0 ∷ 0 ∷ 0
    ∷ 1 ∷ 2 ∷ 2 ∷ 2 ∷ 5 ∷ 0 ∷ 0 ∷ 0
    ∷ 1 ∷ 3 ∷ 1 ∷ 1 ∷ 6 ∷ 0 ∷ 0 ∷ 0
    ∷ 1 ∷ 3 ∷ 1 ∷ 2 ∷ 7 ∷ 0 ∷ 0 ∷ 0
    ∷ 1 ∷ 3 ∷ 2 ∷ 1 ∷ 8 ∷ 0 ∷ 0 ∷ 0
    ∷ 1 ∷ 3 ∷ 2 ∷ 2 ∷ 9 ∷ 0 ∷ 0 ∷ 0
    ∷ 2 ∷ 3 ∷ 1 ∷ 1 ∷ 10 ∷ 0 ∷ 0 ∷ 0
    ∷ 2 ∷ 3 ∷ 1 ∷ 2 ∷ 11 ∷ 0 ∷ 0 ∷ 0
    ∷ 2 ∷ 3 ∷ 2 ∷ 1 ∷ 12 ∷ 0 ∷ 0 ∷ 0
    ∷ 2 ∷ 3 ∷ 2 ∷ 2 ∷ 0 ∷ 0 ∷ 0 ∷ 0
    ∷ []

pub record Case : Type 0 where
  pub ordinal : ℕ
  pub bytes : List ℕ

unfoldable pub case_holds : Case → Bool
case_holds c = same_numbers (little_sheet c.ordinal) c.bytes

unfoldable pub cases : List Case
cases =
    record { ordinal = 0; bytes = sheet0 }
    ∷ record { ordinal = 1; bytes = sheet1 }
    ∷ record { ordinal = 2; bytes = sheet2 }
    ∷ record { ordinal = 5; bytes = sheet5 }
    ∷ record { ordinal = 6; bytes = sheet6 }
    ∷ record { ordinal = 8; bytes = sheet8 }
    ∷ record { ordinal = 14; bytes = sheet14 }
    ∷ record { ordinal = 27; bytes = sheet27 }
    ∷ record { ordinal = 28; bytes = sheet28 }
    ∷ record { ordinal = 30; bytes = sheet30 }
    ∷ record { ordinal = 4995; bytes = sheet4995 }
    ∷ []

-- ---- buffers

pub record Put : Type 0 where
  pub at : ℕ  -- the ordinal
  pub lent : List ℕ
  pub answer : Written

unfoldable pub put_holds : Put → Bool
put_holds c = same_written (put_little c.at c.lent) c.answer

-- so many bytes that no sheet has
unfoldable pub sevens : ℕ → List ℕ
sevens n = replicate n 77

unfoldable pub rejection : ℕ → ℕ → ℕ → Put
rejection ordinal size number =
    record { at = ordinal; lent = sevens size; answer = record { number = number; length = 0; buffer = sevens size } }

unfoldable pub puts : List Put
puts =
    -- a buffer of the sheet's length, and a longer one
    record { at = 5; lent = sevens 32; answer = record { number = 0; length = 32; buffer = sheet5 } }
    ∷ record { at = 5; lent = sevens 35; answer = record { number = 0; length = 32; buffer = sheet5 ++ sevens 3 } }
    -- one byte short; no buffer at all
    ∷ rejection 5 31 12
    ∷ rejection 0 23 12
    ∷ rejection 0 0 12
    ∷ rejection 4995 119 12
    -- above 4,995, in a buffer that is long enough and in one that is not
    ∷ rejection 4996 120 14
    ∷ rejection 4996 0 14
    ∷ rejection (2 ^ 64 - 1) 120 14
    ∷ []
