-- Input beyond the longest sheet: one byte more than it tells all. "Input longer than any sheet .. meets the same checks in the same order."
-- The header is in the first 24 bytes, and where it is good the total length that it states is at most 33,816.
use Rattle.std.proofs.Common.{◌≡◌, refl, sym, ap, ◌∙◌, true, List, [], ◌∷◌, ℕ, zero, suc, ◌+◌, ◌*◌, ◌≤◌, ◌<◌, zero-add, suc-add, arith, length, take, drop, get_or-take, length-take-le, take_all, take-take, leb, ne_eqb, leb-true, leb-false}
use lib.Seq.{take-nil}
use Rattle.model_base.proofs.Tests.{test}
use Rattle.model_sheet.specs.Problem.{max_agents}
use Rattle.model_sheet.specs.Sheet.{Invalid, BadLength, header_length, record_length, max_records, longest_sheet, byte_at, word_from, agents_in, edition_in, first_in, records_in, domains_in, without_bans, header_good, decode}
use Rattle.model_sheet.proofs.Fields.{header-fits}
use Rattle.model_sheet.proofs.Checks.{bad-header, bad-length}

take-drop : (m n : ℕ) (l : List ℕ) → take n (drop m l) ≡ drop m (take (m + n) l)
take-drop zero n l = rw zero-add
take-drop (suc m) n [] = rw (take-nil n, take-nil (suc m + n))
take-drop (suc m) n (x ∷ l) = rw suc-add (take-drop m n l)

-- ---- the header, of the first n bytes

module _ (s : List ℕ) (n : ℕ) (long : 24 ≤ n) where
  byte_cut : (k : ℕ) → k < 24 → byte_at (take n s) k ≡ byte_at s k
  unfolding byte_at
  byte_cut k h = get_or-take n s k 0 (omega arith)

  word_cut : (k : ℕ) → k < 23 → word_from (take n s) k ≡ word_from s k
  unfolding word_from
  word_cut k h = rw (byte_cut k (omega arith), byte_cut (k + 1) (omega arith))

  domains-cut : domains_in (take n s) ≡ domains_in s
  unfolding max_agents domains_in
  domains-cut = rw (take-drop 8 12 (take n s), take-drop 8 12 s, take-take 20 n s (omega arith))

  problem-cut : without_bans (take n s) ≡ without_bans s
  unfolding agents_in without_bans
  problem-cut = rw (byte_cut 0 (omega arith), domains-cut)

  header-cut : header_good (take n s) ≡ header_good s
  unfolding edition_in first_in records_in header_good
  header-cut =
      rw (
        problem-cut,
        byte_cut 1 (omega arith),
        word_cut 2 (omega arith),
        word_cut 4 (omega arith),
        word_cut 6 (omega arith),
        word_cut 20 (omega arith),
        word_cut 22 (omega arith),
      )

-- ---- the whole

pub longest-is : longest_sheet ≡ 33816
unfolding header_length record_length max_records longest_sheet
longest-is = refl

-- beyond the longest sheet the total length is wrong, if nothing is before
too_long : (s : List ℕ) → longest_sheet < length s → header_good s ≡ true → decode s ≡ Invalid BadLength
unfolding header_length record_length max_records longest_sheet
too_long s h g =
    let f = header-fits s g in
    let other : length s ≡ 24 + 8 * records_in s → ⊥ = λ e. omega arith in
    bad-length s (omega arith) g (ne_eqb _ _ other)

cut-alike : (s t : List ℕ) → longest_sheet < length s → longest_sheet < length t → header_good s ≡ header_good t → decode s ≡ decode t
cut-alike s t hs ht same =
    test (header_good s)
    (λ g. too_long s hs g ∙ sym (too_long t ht (sym same ∙ g)))
    (λ g. bad-header s (omega (arith, longest-is)) g ∙ sym (bad-header t (omega (arith, longest-is)) (sym same ∙ g)))

pub decode-cut : (s : List ℕ) → decode (take (suc longest_sheet) s) ≡ decode s
decode-cut s =
    test (leb (length s) longest_sheet)
    (λ h. ap decode (take_all (suc longest_sheet) s (omega (arith, leb-true (length s) longest_sheet h))))
    (λ h.
    let l : longest_sheet < length s = leb-false (length s) longest_sheet h in
    cut-alike (take (suc longest_sheet) s) s (rw (length-take-le (suc longest_sheet) s l) (omega arith)) l
    (header-cut s (suc longest_sheet) (omega (arith, longest-is))))
