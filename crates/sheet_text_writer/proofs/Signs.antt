-- A signed byte by its sign, and the number that is told of it.
-- Below 128 a byte is itself, from there on 256 less.
use Rattle.std.proofs.Common.{ℕ, suc, ◌-◌, ◌≤◌, ◌<◌, ◌≡◌, subst, arith, pos, negsuc, lt-ltb, le-ltb}
use Rattle.model_sheet.specs.Row.{signed}
use Rattle.support_buffer.specs.declared.cursor.Cursor.{Cursor}
use Rattle.support_buffer.specs.Puts.{Adds}
use Rattle.model_base.specs.Decimal.{decimal}

pub sign-none : (b : ℕ) → b < 128 → signed b ≡ pos b
unfolding signed
sign-none b h = rw (lt-ltb b 128 h)

pub sign-some : (b : ℕ) → 128 ≤ b → b < 256 → signed b ≡ negsuc (255 - b)
unfolding signed
sign-some b l h = let same : 256 - suc b ≡ 255 - b = omega arith in rw (le-ltb b 128 l, lt-ltb b 256 h, same)

-- a number, said in other words
pub number_is : {m n : ℕ} {old new : Cursor} → m ≡ n → Adds old (decimal m) new → Adds old (decimal n) new
number_is {m} {n} {old} {new} e p = subst (λ (x : ℕ). Adds old (decimal x) new) e p
