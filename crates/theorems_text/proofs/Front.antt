-- One byte more than the longest text tells all: whether a text is too long, and the bytes that are judged.
-- A text that is not too long is left whole; of one that is, as many bytes are left as tell it.
use Rattle.std.proofs.Common.{suc, ◌<◌, ◌≡◌, ap, arith, length, take, length-take-le, take_all, take-take, leb, leb-true, leb-false, lt-ltb}
use Rattle.model_base.proofs.Tests.{test}
use Rattle.model_text.specs.Reading.{longest_text, sheet_of}
use Rattle.model_text.specs.Claims.{JudgedByFront}

pub judged : JudgedByFront
unfolding sheet_of
judged text =
    test (leb (length text) longest_text)
    (λ h. ap sheet_of (take_all (suc longest_text) text (omega (arith, leb-true (length text) longest_text h))))
    (λ h.
    let long : longest_text < length text = leb-false (length text) longest_text h in
    let cut : length (take (suc longest_text) text) ≡ suc longest_text = length-take-le (suc longest_text) text long in
    rw (
      cut,
      lt-ltb longest_text (length text) long,
      lt-ltb longest_text (suc longest_text) (omega arith),
      take-take longest_text (suc longest_text) text (omega arith),
    ))
