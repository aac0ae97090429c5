-- Input beyond the longest image of either form: it is refused, and so are its first 33,817 bytes, if it has as many.
-- Both have the same first byte, so they are read in the same form.
use Rattle.std.proofs.Common.{ℕ, suc, ◌<◌, ◌≡◌, sym, ap, ◌∙◌, List, arith, leb, length, take, length-take-le, take_all, get_or-take, leb-true, leb-false}
use Rattle.model_base.proofs.Tests.{test}
use Rattle.model_sheet.specs.Sheet.{header_length, record_length, max_records, longest_sheet}
use Rattle.model_image_forms.specs.Forms.{Form, First, Second, form_of}
use Rattle.model_image_forms.specs.Reading.{load_second, load_as, load}
use Rattle.abt_image_reader.proofs.Cut.{load-first-cut}
use Rattle.abt_image_mover.proofs.Answers.{rejection, not-whole}

-- 13,408 bytes at most
too_long : (s : List ℕ) → 13408 < length s → load_second s ≡ rejection
too_long s long = not-whole s (λ w. omega (arith, w.long, w.few, w.most))

second-cut : (input : List ℕ) → load_second (take 33817 input) ≡ load_second input
second-cut input =
    test (leb (length input) 33817)
    (λ t. ap load_second (take_all 33817 input (leb-true (length input) 33817 t)))
    (λ t.
    let long : 33817 < length input = leb-false (length input) 33817 t in
    let cut : length (take 33817 input) ≡ 33817 = length-take-le 33817 input (omega arith) in
    too_long (take 33817 input) (omega arith) ∙ sym (too_long input (omega arith)))

cut_as : (form : Form) (input : List ℕ) → load_as form (take (suc longest_sheet) input) ≡ load_as form input
unfolding load_as header_length record_length max_records longest_sheet
cut_as First input = load-first-cut input
cut_as Second input = second-cut input

form-cut : (input : List ℕ) → form_of (take (suc longest_sheet) input) ≡ form_of input
unfolding form_of header_length record_length max_records longest_sheet
form-cut input = rw (get_or-take 33817 input 0 0 (omega arith), form_of)

pub load_cut : (input : List ℕ) → load (take (suc longest_sheet) input) ≡ load input
unfolding load
load_cut input = rw (form-cut input) (cut_as (form_of input) input)
