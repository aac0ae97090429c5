-- What is turned fits the buffer that is lent, and an input beyond the longest sheet is turned as its front is.
-- No sheet that is written is longer than the longest; the header, and with it the edition, is in the first 24 bytes.
use Rattle.std.proofs.Common.{ℕ, suc, ◌≡◌, ◌≤◌, ◌<◌, true, false, List, length, take, refl, sym, ap, ◌∙◌, arith, length-take-le, take_all, leb, eqb, le-ltb, leb-true, leb-false}
use Rattle.std.proofs.lemmas.List.{get_or-take}
use Rattle.model_base.proofs.Tests.{test}
use Rattle.model_sheet.specs.Sheet.{Decoded, Valid, Invalid, BadHeader, fault_number, header_length, longest_sheet, byte_at, edition_in, decode}
use Rattle.model_sheet.proofs.Checks.{fault-some}
use Rattle.model_sheet.proofs.Longest.{longest-is, decode-cut}
use Rattle.model_editions.specs.Gaps.{sayable}
use Rattle.model_editions.specs.Turning.{not_sayable, decode_as, Turned, Made, Refused, bans_from, gaps_from, ban_sheet, gap_sheet, put_turned}
use Rattle.theorems_editions.proofs.Theorems.{bans-kept, gaps-kept}
use Rattle.support_cli.specs.Answers.{hands_over}
use Rattle.support_cli.proofs.Handing.{hands-put, hands-untouched}
use Rattle.sheet_cli_turn.specs.declared.Command.{Command}
use Rattle.sheet_cli_turn.specs.declared.Command.TheVariants.{Bans, Gaps}
use Rattle.sheet_cli_turn.specs.Answers.{turn_by, turned}

-- ---- what is turned

-- a sheet that is short, or a refusal that has a number
record Fine (x : Turned) : Type 0 where
  short : (t : List ℕ) → x ≡ Made t → length t ≤ longest_sheet
  numbered : (k : ℕ) → x ≡ Refused k → k ≡ 0 → ⊥

bans-numbered : (d : Decoded) (k : ℕ) → bans_from d ≡ Refused k → k ≡ 0 → ⊥
unfolding bans_from
bans-numbered (Valid p) k e z = cc
bans-numbered (Invalid f) k e z = fault-some f (let same : fault_number f ≡ k = cc in same ∙ z)

gaps-numbered : (d : Decoded) (k : ℕ) → gaps_from d ≡ Refused k → k ≡ 0 → ⊥
unfolding gaps_from not_sayable
gaps-numbered (Valid p) k e z =
    test (sayable p)
    (λ s. let made = rw (s, gaps_from) at e in cc)
    (λ s. let refused : Refused 15 ≡ Refused k = rw (s, gaps_from) at e in let same : 15 ≡ k = cc in omega arith)
gaps-numbered (Invalid f) k e z = fault-some f (let same : fault_number f ≡ k = cc in same ∙ z)

fine : (command : Command) (s : List ℕ) → Fine (turn_by command s)
unfolding ban_sheet gap_sheet
fine Bans s = record { short = λ t e. (bans-kept s t e).short; numbered = bans-numbered (decode_as 2 s) }
fine Gaps s = record { short = λ t e. (gaps-kept s t e).short; numbered = gaps-numbered (decode_as 1 s) }

handed : (x : Turned) (buffer : List ℕ) → Fine x → longest_sheet ≤ length buffer → hands_over (put_turned x buffer) ≡ turned x
unfolding put_turned turned
handed (Made t) buffer f h = hands-put t buffer (let short = f.short t refl in omega arith)
handed (Refused k) buffer f h = hands-untouched k buffer (f.numbered k refl)

pub hands-turned : (command : Command) (s buffer : List ℕ) → 33816 ≤ length buffer → hands_over (put_turned (turn_by command s) buffer) ≡ turned (turn_by command s)
hands-turned command s buffer h = handed (turn_by command s) buffer (fine command s) (omega (arith, longest-is))

-- ---- the front of the input

edition-cut : (s : List ℕ) → edition_in (take (suc longest_sheet) s) ≡ edition_in s
unfolding edition_in byte_at
edition-cut s = get_or-take (suc longest_sheet) s 1 0 (omega (arith, longest-is))

long : (edition : ℕ) (s : List ℕ) → 24 ≤ length s → decode_as edition s ≡ (elim (eqb (edition_in s) edition) [ true ↦ decode s | false ↦ Invalid BadHeader ])
unfolding decode_as header_length
long edition s h = rw (le-ltb (length s) 24 h, decode_as)

kept : (edition : ℕ) (s : List ℕ) → longest_sheet < length s → decode_as edition (take (suc longest_sheet) s) ≡ decode_as edition s
kept edition s l =
    let cut : length (take (suc longest_sheet) s) ≡ suc longest_sheet = length-take-le (suc longest_sheet) s l in
    let front = take (suc longest_sheet) s in
    long edition front (omega (arith, longest-is))
    ∙ ap (λ (x : ℕ). elim (eqb x edition) [ true ↦ decode front | false ↦ Invalid BadHeader ]) (edition-cut s)
    ∙ ap (λ (d : Decoded). elim (eqb (edition_in s) edition) [ true ↦ d | false ↦ Invalid BadHeader ]) (decode-cut s)
    ∙ sym (long edition s (omega (arith, longest-is)))

as-cut : (edition : ℕ) (s : List ℕ) → decode_as edition (take (suc longest_sheet) s) ≡ decode_as edition s
as-cut edition s =
    test (leb (length s) longest_sheet)
    (λ h. ap (decode_as edition) (take_all (suc longest_sheet) s (omega (arith, leb-true (length s) longest_sheet h))))
    (λ h. kept edition s (leb-false (length s) longest_sheet h))

pub turned-cut : (command : Command) (s : List ℕ) → turned (turn_by command (take (suc longest_sheet) s)) ≡ turned (turn_by command s)
unfolding ban_sheet gap_sheet
turned-cut Bans s = ap (λ (d : Decoded). turned (bans_from d)) (as-cut 2 s)
turned-cut Gaps s = ap (λ (d : Decoded). turned (gaps_from d)) (as-cut 1 s)
