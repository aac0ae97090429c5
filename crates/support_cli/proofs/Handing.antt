-- Bytes for which there is room are handed over whole, and a refusal with its number.
-- What is put stands at the buffer's start, and no refusal has number 0.
use Rattle.std.proofs.Common.{ℕ, ◌≡◌, ◌≤◌, List, ◌++◌, Result, Ok, Err, length, take, drop, refl, ap, ne_eqb, le-leb}
use Rattle.std.proofs.Math.Seq.{take-append_seam}
use Rattle.model_base.specs.Lent.{untouched, put}
use Rattle.support_rejection.specs.declared.Rejection.{Rejection}
use Rattle.support_rejection.specs.Rejections.{rejection_number}
use Rattle.support_rejection.proofs.Numbers.{refusal-some}
use Rattle.support_buffer.specs.Abstract.{written_of}
use Rattle.support_cli.specs.Answers.{done, prints, says_refused, hands_over}

pub hands-put : (t buffer : List ℕ) → length t ≤ length buffer → hands_over (put t buffer) ≡ prints t done
unfolding put hands_over
hands-put t buffer h =
    rw (le-leb (length t) (length buffer) h, put) (ap (λ (x : List ℕ). prints x done) (take-append_seam t (drop (length t) buffer)))

pub hands-untouched : (k : ℕ) (buffer : List ℕ) → (k ≡ 0 → ⊥) → hands_over (untouched k buffer) ≡ says_refused k
unfolding untouched hands_over
hands-untouched k buffer h = rw (ne_eqb k 0 h, hands_over)

pub hands-written : (n : ℕ) (buffer : List ℕ) → hands_over (written_of (Ok n) buffer) ≡ prints (take n buffer) done
unfolding written_of hands_over
hands-written n buffer = refl

pub hands-refused : (r : Rejection) (buffer : List ℕ) → hands_over (written_of (Err r) buffer) ≡ says_refused (rejection_number r)
unfolding written_of
hands-refused r buffer = hands-untouched (rejection_number r) buffer (refusal-some r)
