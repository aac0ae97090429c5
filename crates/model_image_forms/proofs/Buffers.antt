-- What is put into a lent buffer: the bytes, whatever the buffer held, or nothing where it is too short.
-- By the test of `put`.
use Rattle.std.proofs.Common.{◌≡◌, refl, List, ℕ, ◌<◌, length, drop, take_at, leb, leb-false}
use Rattle.model_base.specs.Lent.{short_buffer, untouched, put}
use Rattle.model_base.proofs.Tests.{test}
use Rattle.model_image_forms.specs.Claims.{bytes_of}

pub data Puts (bytes buffer : List ℕ) : Type 0 where
  too_short : length buffer < length bytes → (put bytes buffer).number ≡ short_buffer → Puts bytes buffer
  written : (put bytes buffer).number ≡ 0 → bytes_of (put bytes buffer) ≡ bytes → Puts bytes buffer

pub puts : (bytes buffer : List ℕ) → Puts bytes buffer
unfolding put untouched bytes_of
puts bytes buffer =
    test (leb (length bytes) (length buffer))
    (λ e. written (rw (e, put)) (rw (e, put) (take_at bytes (drop (length bytes) buffer) (length bytes) refl)))
    (λ e. too_short (leb-false _ _ e) (rw (e, put)))
