-- What is told of a sheet is answered as its text says, and an input beyond the longest sheet as its front.
-- No text is longer than the longest, no refusal has number 0, and what is longer than the longest sheet is refused whatever follows.
use Rattle.std.proofs.Common.{ℕ, suc, ◌+◌, ◌*◌, ◌≡◌, ◌≤◌, ◌<◌, List, length, take, refl, ap, ◌∙◌, arith, take_all, leb, ne_eqb, leb-true, leb-false}
use Rattle.model_base.proofs.Tests.{test}
use Rattle.model_sheet.specs.Sheet.{SheetFault, BadLength, BadHeader, fault_number, Decoded, Valid, Invalid, header_length, record_length, max_records, longest_sheet, records_in, header_good, decode}
use Rattle.model_sheet.proofs.Checks.{fault-some, bad-header, bad-length}
use Rattle.model_sheet.proofs.Fields.{header-fits}
use Rattle.model_sheet.proofs.Longest.{decode-cut}
use Rattle.model_text.specs.Telling.{longest_told, Told, Text, Refused, told_from, text_of}
use Rattle.model_text.specs.Printing.{refused_word, told_printed, text_printed}
use Rattle.theorems_text.proofs.Theorems.{texts-short}
use Rattle.sheet_text_writer.specs.Parts.{put_told}
use Rattle.support_cli.specs.Answers.{prints, tells, says_refused, hands_over}
use Rattle.support_cli.proofs.Handing.{hands-put, hands-untouched}
use Rattle.sheet_cli_scribe.specs.Answers.{shown, told_status, text_answer}

-- ---- what is told

by-told : (t : Told) (buffer : List ℕ) → ((x : List ℕ) → t ≡ Text x → length x ≤ longest_told) → ((k : ℕ) → t ≡ Refused k → k ≡ 0 → ⊥) → longest_told ≤ length buffer
    → hands_over (put_told t buffer) ≡ shown (told_printed t) (told_status t)
unfolding put_told told_printed prints tells says_refused refused_word
by-told (Text x) buffer short some room = let fits = short x refl in hands-put x buffer (omega arith)
by-told (Refused k) buffer short some room = hands-untouched k buffer (some k refl)

told-some : (s : List ℕ) (d : Decoded) (k : ℕ) → told_from s d ≡ Refused k → k ≡ 0 → ⊥
unfolding told_from
told-some s (Valid p) k e z = cc
told-some s (Invalid f) k e z = fault-some f (let same : fault_number f ≡ k = cc in same ∙ z)

pub hands-told : (s buffer : List ℕ) → 67614 ≤ length buffer → hands_over (put_told (text_of s) buffer) ≡ text_answer s
unfolding text_answer text_printed longest_told text_of
hands-told s buffer room = by-told (text_of s) buffer (λ x e. texts-short s x e) (told-some s (decode s)) room

-- ---- the front of the input

refused-long : (s : List ℕ) → longest_sheet < length s → (f : SheetFault) × (decode s ≡ Invalid f)
unfolding header_length record_length max_records longest_sheet
refused-long s h =
    test (header_good s)
    (λ g. let f = header-fits s g in
    let other : length s ≡ 24 + 8 * records_in s → ⊥ = λ e. omega arith in
    (BadLength, bad-length s (omega arith) g (ne_eqb _ _ other)))
    (λ g. (BadHeader, bad-header s (omega arith) g))

told-cut : (s : List ℕ) → text_of (take (suc longest_sheet) s) ≡ text_of s
unfolding text_of told_from
told-cut s =
    test (leb (length s) longest_sheet)
    (λ h. ap text_of (take_all (suc longest_sheet) s (omega (arith, leb-true (length s) longest_sheet h))))
    (λ h.
    let (f, e) = refused-long s (leb-false (length s) longest_sheet h) in
    let front : decode (take (suc longest_sheet) s) ≡ Invalid f = decode-cut s ∙ e in
    rw (front, e) refl)

pub text-cut : (s : List ℕ) → text_answer (take (suc longest_sheet) s) ≡ text_answer s
unfolding text_answer text_printed
text-cut s = ap (λ (t : Told). shown (told_printed t) (told_status t)) (told-cut s)
