-- The length that is answered counts bytes of the buffer.
-- A refusal answers 0; what is put stands at the buffer's start.
use Rattle.model_base.proofs.Tests.{test}
use Rattle.model_base.specs.Lent.{Written, untouched, put}
use Rattle.std.proofs.Common.{Result, Ok, Err, ℕ, ◌≤◌, min, ◌≡◌, sym, subst, List, arith, leb, length, take, drop, length-append, length-take}
use Rattle.support_rejection.specs.declared.Rejection.{Rejection}
use Rattle.support_buffer.specs.Abstract.{InBuffer, written_of}

abbrev pub Within : Written → Type 0
Within w = w.length ≤ length w.buffer

pub put-within : (bytes buffer : List ℕ) → Within (put bytes buffer)
unfolding put untouched
put-within bytes buffer =
    test (leb (length bytes) (length buffer))
    (λ t. rw (t, put) (rw (length-append bytes (drop (length bytes) buffer)) (omega arith)))
    (λ t. rw (t, put) (omega arith))

pub untouched-within : (number : ℕ) (buffer : List ℕ) → Within (untouched number buffer)
unfolding untouched
untouched-within number buffer = omega arith

pub counted : (w : Result ℕ Rejection) (buffer : List ℕ) (x : Written) → written_of w buffer ≡ x → Within x → InBuffer w buffer
unfolding written_of
counted (Ok n) buffer x e h =
    let l : n ≤ length buffer = subst Within (sym e) h in
    let m : length (take n buffer) ≡ min n (length buffer) = length-take n buffer in
    (l, omega arith)
counted (Err r) buffer x e h = tt
