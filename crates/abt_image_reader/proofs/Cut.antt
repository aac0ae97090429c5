-- Input beyond the longest image: it is refused, and so are its first 33,817 bytes, if it has as many.
use Rattle.std.proofs.Common.{ℕ, suc, ◌<◌, ◌≡◌, sym, ap, ◌∙◌, List, arith, leb, length, take, length-take-le, take_all, leb-true, leb-false}
use Rattle.model_base.specs.Same.{same_numbers}
use Rattle.model_base.proofs.Tests.{test}
use Rattle.model_base.proofs.Same.{same-numbers}
use Rattle.model_sheet.specs.Sheet.{header_length, record_length, max_records, longest_sheet}
use Rattle.model_network.specs.Network.{empty_network}
use Rattle.model_network.specs.Shape.{in_shape}
use Rattle.model_image.specs.Image.{image}
use Rattle.model_image.specs.Reading.{parse, bad_image, is_image, load_first}
use Rattle.abt_image_reader.proofs.Written.{image-fits}

too_long : (s : List ℕ) → 19744 < length s → load_first s ≡ record { number = bad_image; network = empty_network }
unfolding is_image load_first
too_long s long =
    test (in_shape (parse s))
    (λ shape. test (same_numbers (image (parse s)) s)
    (λ same.
    let e : length (image (parse s)) ≡ length s = ap length (same-numbers (image (parse s)) s same) in
    absurd (omega (arith, image-fits (parse s) shape)))
    (λ other. rw (shape, other, load_first)))
    (λ broken. rw (broken, load_first))

pub load-first-cut : (input : List ℕ) → load_first (take (suc longest_sheet) input) ≡ load_first input
unfolding header_length record_length max_records longest_sheet
load-first-cut input =
    test (leb (length input) 33817)
    (λ t. ap load_first (take_all 33817 input (leb-true (length input) 33817 t)))
    (λ t.
    let long : 33817 < length input = leb-false (length input) 33817 t in
    let cut : length (take 33817 input) ≡ 33817 = length-take-le 33817 input (omega arith) in
    too_long (take 33817 input) (omega arith) ∙ sym (too_long input (omega arith)))
