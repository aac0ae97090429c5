-- A gap from -7 to 7 is read back from its signed byte.
-- By its sign: below 128 a byte is itself, from there on it stands 256 below.
use Rattle.std.proofs.Common.{suc, ◌-◌, ◌≤◌, ◌≡◌, true, arith, ℤ, pos, negsuc, leb, leb-true, lt-ltb, le-ltb}
use Rattle.model_base.proofs.Tests.{both}
use Rattle.model_sheet.specs.Row.{signed, between}
use Rattle.model_text.specs.Drafts.{gap_byte, is_gap}

pub byte-back : (z : ℤ) → is_gap z ≡ true → signed (gap_byte z) ≡ z
unfolding signed between gap_byte is_gap
byte-back (pos k) h =
    let small : k ≤ 7 = leb-true k 7 h in
    rw (lt-ltb k 128 (omega arith))
byte-back (negsuc k) h =
    let small : k ≤ 6 = leb-true k 6 (both (leb k 6) true h).0 in
    let same : 256 - suc (255 - k) ≡ k = omega arith in
    rw (le-ltb (255 - k) 128 (omega arith), lt-ltb (255 - k) 256 (omega arith), same)
