-- A number's bytes as the library gives them, low byte first, are those that the definitions give.
use Rattle.std.proofs.Common.{ℕ, zero, suc, ◌/◌, ◌%◌, ◌^◌, ◌≡◌, refl, sym, ap, ◌∙◌, List, ◌∷◌, length, div-one, pow-suc}
use native.Mathlib.Nat.{div-div-eq-div-mul}
use Rattle.std.specs.Int.{bytes_low_first, byte_at, to_le_bytes, w16, w64}
use Rattle.model_image.specs.Bytes.{bytes_of}
use Rattle.support_buffer.specs.declared.cursor.Cursor.{Cursor}
use Rattle.support_buffer.specs.Puts.{Puts}
use Rattle.support_buffer.proofs.Puts.{puts-as}

byte-there : (i x : ℕ) → byte_at i x ≡ x / 256 ^ i % 256
byte-there zero x = rw div-one
byte-there (suc i) x = refl

bytes-from : (i k x : ℕ) → bytes_low_first i k x ≡ bytes_of k (x / 256 ^ i)
unfolding bytes_of
bytes-from i zero x = refl
bytes-from i (suc k) x =
    let e : x / 256 ^ suc i ≡ x / 256 ^ i / 256 = ap (λ (p : ℕ). x / p) (pow-suc 256 i) ∙ sym (div-div-eq-div-mul x (256 ^ i) 256) in
    rw (byte-there i x, ← e) (ap (λ (l : List ℕ). x / 256 ^ i % 256 ∷ l) (bytes-from (suc i) k x))

pub puts-two : {old new : Cursor} {bytes : List ℕ} (x : ℕ) → Puts old (length bytes) bytes new → bytes ≡ to_le_bytes w16 x → Puts old 2 (bytes_of 2 x) new
puts-two x p e = puts-as (ap length e) (e ∙ bytes-from 0 2 x ∙ rw div-one) p

pub puts-eight : {old new : Cursor} {bytes : List ℕ} (x : ℕ) → Puts old (length bytes) bytes new → bytes ≡ to_le_bytes w64 x → Puts old 8 (bytes_of 8 x) new
puts-eight x p e = puts-as (ap length e) (e ∙ bytes-from 0 8 x ∙ rw div-one) p
