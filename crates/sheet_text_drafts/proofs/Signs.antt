-- A gap as a signed byte.
use Rattle.std.proofs.Common.{◌<◌, ◌^◌, ◌≡◌, refl, sym, ap, subst, ◌∙◌, true, arith, leb, ℤ, pos, negsuc, SFits, of_z, to_z, w8, leb-true, lt-ltb, T}
use mathlib.Core.Bool.{and-true}
use lib.Signed.{mag}
use mir.Syntax.{w128}
use Rattle.std.proofs.Math.Facts.{sfits_lit}
use Rattle.std.proofs.lemmas.Int.{to_z-of_z}
use Rattle.model_sheet.specs.Row.{between}
use Rattle.model_text.specs.Drafts.{gap_byte, is_gap}

gap-small : (z : ℤ) → is_gap z ≡ true → mag z < 8
unfolding is_gap between
gap-small (pos k) e = omega (arith, leb-true k 7 e)
gap-small (negsuc k) e = omega (arith, leb-true k 6 (sym (and-true (leb k 6)) ∙ e))

pub kept : (z : ℤ) → mag z < 2 ^ 127 → to_z w128 (of_z w128 z) ≡ z
kept z h = to_z-of_z w128 z (sfits_lit (subst T (sym (lt-ltb (mag z) (2 ^ 127) h)) tt))

pub gap-fits : (z : ℤ) → is_gap z ≡ true → SFits w8 z
gap-fits z e = sfits_lit (subst T (sym (lt-ltb (mag z) (2 ^ 7) (omega (arith, gap-small z e)))) tt)

pub gap-kept : (z : ℤ) → is_gap z ≡ true → to_z w128 (of_z w128 z) ≡ z
gap-kept z e = kept z (omega (arith, gap-small z e))

byte-of : (z : ℤ) → of_z w8 z ≡ gap_byte z
unfolding gap_byte
byte-of (pos k) = refl
byte-of (negsuc k) = omega arith

pub gap-byte : (z : ℤ) → is_gap z ≡ true → of_z w8 (to_z w8 (of_z w8 z)) ≡ gap_byte z
gap-byte z e = ap (of_z w8) (to_z-of_z w8 z (gap-fits z e)) ∙ byte-of z
