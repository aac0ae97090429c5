-- The text for a sheet that is accepted tells of its problem: it is that of the run from the sheet's start, of which the claims about lists of calls speak.
-- In shape a network answers each scanner with the slot that it holds, and a text is read in one way alone.
use Rattle.std.proofs.Common.{◌≡◌, refl, sym, ap, ◌∙◌, true, List, [], ◌∷◌, ◌++◌, take, ℕ, ◌≤◌, arith, Ok}
use mathlib.Core.Bool.{false≢true}
use Rattle.model_base.specs.Finite.{within}
use Rattle.model_base.proofs.Tests.{test, to-within}
use Rattle.model_base.proofs.Gathers.{gather-same}
use Rattle.model_sheet.specs.Problem.{Problem, banned, in_range, Obeys}
use Rattle.model_sheet.specs.Sheet.{Decoded, Valid, decode}
use Rattle.model_sheet.proofs.Range.{ranged, banned-inside}
use Rattle.model_sheet.proofs.Sheet.{decode-in-range}
use Rattle.model_network.specs.Network.{Network, is_rule, Started, started_on, start, start_sheet}
use Rattle.model_network.specs.Shape.{in_shape}
use Rattle.model_network.specs.Delivery.{ask_value}
use Rattle.model_network.specs.Run.{Ending, Unsolvable, Plan, Jammed, Open, Broken, ending_word, run}
use Rattle.theorems_network.specs.Calls.{Run, left_by, left_by_all, made_by_all}
use Rattle.theorems_network.specs.Claims.{slots_of, Tells}
use Rattle.theorems_network.proofs.Theorems.{sheet-stays-in-shape, sheet-run-tells}
use Rattle.theorems_network.proofs.Replay.{run-problem}
use Rattle.abt_record.specs.declared.Network.{Network as Record}
use Rattle.abt_engine.specs.declared.Answer.{Answer}
use Rattle.abt.specs.Promised.{Promised}
use Rattle.abt_start.specs.Started.{StartsAs}
use Rattle.model_base.specs.Decimal.{newline, line_of}
use Rattle.abt_dock_text.specs.Settling.{program_rule, settled}
use Rattle.abt_dock_text.specs.Text.{verdict, rounds, slot_line, slot_lines, plan_lines, ran_text, settled_text, dock_text, Prints}
use Rattle.abt_dock_text.specs.Promised.{SheetTells, listed, told_text, TextTells, TextPromised}
use Rattle.abt_dock_text.proofs.Reading.{told-injective}

-- ---- the answer

start-is : (sheet : List ℕ) (p : Problem) → decode sheet ≡ Valid p → start_sheet 1 sheet ≡ started_on 1 (Valid p)
unfolding start_sheet is_rule within
start-is sheet p e = ap (λ (d : Decoded). started_on 1 d) e

pub sheet_tells : (sheet : List ℕ) (rail : Record) (ran : Answer) → StartsAs (start_sheet 1 sheet) (Ok rail) → Promised rail ran → SheetTells sheet ran
unfolding started_on left_by_all made_by_all is_rule within
sheet_tells sheet rail ran S P p e = P 1 refl sheet p e [] (S.network ∙ ap (λ s. s.network) (start-is sheet p e))

-- ---- the text says the word, the count and the slots

module _ (w : Network) (s : in_shape w ≡ true) where
  asked : (i : ℕ) → 1 ≤ i → i ≤ w.problem.count → (ask_value w i).value ≡ slots_of w i
  unfolding ask_value slots_of
  asked i l h = rw (s, to-within w.problem.count i l h, ask_value)

  lines-listed : (e : Ending) → plan_lines e w ≡ listed w.problem.count e (slots_of w)
  unfolding plan_lines slot_lines listed
  lines-listed Unsolvable = refl
  lines-listed Plan = gather-same w.problem.count 1 _ _ (λ i l h. ap (slot_line i) (asked i l (omega arith)))
  lines-listed Jammed = refl
  lines-listed Open = refl
  lines-listed Broken = refl

  ran_told : (e : Ending) (made : ℕ) → ran_text e made w ≡ told_text w.problem.count e made (slots_of w)
  unfolding ran_text told_text
  ran_told e made = ap (λ (l : List ℕ). verdict ++ (ending_word e ++ (newline ++ (line_of rounds made ++ l)))) (lines-listed e)

-- ---- and nothing else

-- bans are between agents 1 to n
obeys-alike : (p : Problem) → in_range p ≡ true → (σ τ : ℕ → ℕ) → ((i : ℕ) → 1 ≤ i → i ≤ p.count → σ i ≡ τ i) → Obeys p σ → Obeys p τ
obeys-alike p r σ τ same O =
    record {
      owned = λ i low high. rw (same i low high) at (O.owned i low high);
      allowed = λ i j. test (banned p i j (τ i) (τ j)) (λ b. absurd (bans i j b)) (λ b. b);
    }
  where
    bans : (i j : ℕ) → banned p i j (τ i) (τ j) ≡ true → ⊥
    bans i j b =
        let h = banned-inside p (ranged p r) i j (τ i) (τ j) b in
        false≢true (sym (O.allowed i j) ∙ rw (same i h.0 (omega (arith, h.1, h.2)), same j (omega (arith, h.0, h.1)) h.2) b)

told-tells : (p : Problem) → in_range p ≡ true → (e : Ending) (made : ℕ) (σ : ℕ → ℕ) (text : List ℕ) → text ≡ told_text p.count e made σ
    → Tells p 0 e made σ → TextTells p text
told-tells p r e made σ text q T =
    record {
      says = (e, made, σ, q);
      tells = λ f count τ q'.
          let A = told-injective p.count e f made count σ τ (sym q ∙ q') in
          record {
            plan = λ h. obeys-alike p r σ τ (A.slots h) (T.plan (A.word ∙ h));
            none = λ h. T.none (A.word ∙ h);
            few = rw A.made at T.few;
          };
    }

-- ---- the text for a sheet

dock-text-is : (allowed : ℕ) (sheet : List ℕ) (p : Problem) → decode sheet ≡ Valid p
    → dock_text allowed sheet ≡ ran_text (run allowed (start 1 p)).ending (run allowed (start 1 p)).made (run allowed (start 1 p)).network
unfolding dock_text settled settled_text program_rule started_on
dock-text-is allowed sheet p e = ap (λ (s : Started). settled_text s.number (run allowed s.network)) (start-is sheet p e)

pub dock-text-tells : (allowed : ℕ) (sheet : List ℕ) → TextPromised sheet (dock_text allowed sheet)
unfolding left_by_all left_by made_by_all is_rule within start
dock-text-tells allowed sheet p e =
    let r = run allowed (start 1 p) in
    let T : Tells p 0 r.ending r.made (slots_of r.network) = sheet-run-tells 1 refl sheet p e [] allowed in
    let s : in_shape r.network ≡ true = sheet-stays-in-shape 1 refl sheet p e (Run allowed ∷ []) in
    let same : r.network.problem ≡ p = run-problem allowed (start 1 p) in
    told-tells p (decode-in-range sheet p e) r.ending r.made (slots_of r.network) (dock_text allowed sheet)
    (dock-text-is allowed sheet p e ∙ ran_told r.network s r.ending r.made
    ∙ ap (λ (q : Problem). told_text q.count r.ending r.made (slots_of r.network)) same)
    T

-- what is printed
pub prints-tells : (allowed : ℕ) (sheet buffer : List ℕ) (n : ℕ) → Prints allowed sheet buffer n → TextPromised sheet (take n buffer)
prints-tells allowed sheet buffer n P p e = rw P.text (dock-text-tells allowed sheet p e)
