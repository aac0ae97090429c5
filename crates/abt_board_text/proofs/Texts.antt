-- What is printed of a dispatcher or a refusal is what is printed of what the start, or the image, gives.
-- The number is 0 where there is a dispatcher, and no refusal has number 0.
use Rattle.std.proofs.Common.{◌≡◌, ℕ, List, [], ◌∷◌, ◌++◌, refl, sym, ap, ◌∙◌, ne_eqb, Option, Some, None, Result, Ok, Err, codes}
use Rattle.std.specs.List.{last_or}
use Rattle.support_rejection.specs.declared.Rejection.{Rejection}
use Rattle.support_rejection.specs.declared.Rejection.TheVariants.{BadLength, BadHeader, BadRecord, Cycle, BadShape, BadNumbers, VerdictStands, EmptyChannel, NoRoom, BadRule, ShortBuffer, BadImage, BadOrdinal, NotSayable}
use Rattle.support_rejection.specs.Rejections.{rejection_number}
use Rattle.support_rejection.proofs.Numbers.{refusal-some}
use Rattle.model_network.specs.Network.{Network, bad_rule, Started, start_sheet}
use Rattle.model_image.specs.Reading.{Loaded}
use Rattle.model_image_forms.specs.Reading.{load}
use Rattle.model_dispatch.specs.Dispatch.{Dispatcher as Dispatcher', dispatcher}
use Rattle.abt_dispatch.specs.declared.Dispatcher.{Dispatcher}
use Rattle.abt_dispatch.specs.Abstract.{dispatcher_of}
use Rattle.model_base.specs.Decimal.{line_of as number_line}
use Rattle.theorems_dispatch.specs.Steps.{left_by_steps}
use Rattle.abt_calls.specs.Outcomes.{Came, came_by_all}
use Rattle.abt_calls.specs.Abstract.{step_of}
use Rattle.abt_calls.specs.declared.calls.Call.{Call}
use Rattle.abt_board_text.specs.Reading.{call_in}
use Rattle.abt_board_text.specs.Calling.{BeginsAs, LoadsAs}
use Rattle.abt_board_text.specs.Text.{first_text, rule_refused, unstarted_text, start_text, image_text, called_text, word_text, call_text}
use Rattle.abt_board_text.specs.Putting.{begun_text, loaded_text, last_text}

no-start : (s : Started) → (s.number ≡ 0 → ⊥) → start_text s ≡ unstarted_text s.number
unfolding start_text
no-start s n = rw (start_text, ne_eqb s.number 0 n) refl

no-image : (l : Loaded) → (l.number ≡ 0 → ⊥) → image_text l ≡ number_line (codes "image refused ") l.number
unfolding image_text
no-image l n = rw (image_text, ne_eqb l.number 0 n) refl

pub begun-is : (rule : ℕ) (sheet : List ℕ) (b : Result Dispatcher Rejection) → BeginsAs rule sheet b → begun_text b ≡ start_text (start_sheet rule sheet)
unfolding start_text dispatcher_of dispatcher
begun-is rule sheet (Ok d) h =
    let w = ap (λ (x : Dispatcher'). x.network) h.started in
    let z : 0 ≡ (start_sheet rule sheet).number = h.numbered in
    ap (first_text (codes "start")) w ∙ rw (start_text, ← z) refl
begun-is rule sheet (Err e) h =
    let z : rejection_number e ≡ (start_sheet rule sheet).number = h.numbered in
    ap unstarted_text z ∙ sym (no-start (start_sheet rule sheet) (λ q. refusal-some e (z ∙ q)))

pub loaded-is : (image : List ℕ) (b : Result Dispatcher Rejection) → LoadsAs image b → loaded_text b ≡ image_text (load image)
unfolding image_text dispatcher_of dispatcher
loaded-is image (Ok d) h =
    let w = ap (λ (x : Dispatcher'). x.network) h.loaded in
    let z : 0 ≡ (load image).number = h.numbered in
    ap (first_text (codes "image")) w ∙ rw (image_text, ← z) refl
loaded-is image (Err e) h =
    let z : rejection_number e ≡ (load image).number = h.numbered in
    ap (number_line (codes "image refused ")) z ∙ sym (no-image (load image) (λ q. refusal-some e (z ∙ q)))

-- ---- refusals

pub unstarted-rule : (e : Rejection) → e ≡ BadRule → unstarted_text (rejection_number e) ≡ rule_refused
unfolding unstarted_text bad_rule
unstarted-rule e h = rw h refl

pub unstarted-sheet : (e : Rejection) → (e ≡ BadRule → ⊥) → unstarted_text (rejection_number e) ≡ number_line (codes "sheet refused ") (rejection_number e)
unfolding unstarted_text bad_rule
unstarted-sheet BadLength n = refl
unstarted-sheet BadHeader n = refl
unstarted-sheet BadRecord n = refl
unstarted-sheet Cycle n = refl
unstarted-sheet BadShape n = refl
unstarted-sheet BadNumbers n = refl
unstarted-sheet VerdictStands n = refl
unstarted-sheet EmptyChannel n = refl
unstarted-sheet NoRoom n = refl
unstarted-sheet BadRule n = absurd (n refl)
unstarted-sheet ShortBuffer n = refl
unstarted-sheet BadImage n = refl
unstarted-sheet BadOrdinal n = refl
unstarted-sheet NotSayable n = refl

-- ---- calls

pub call-is : (word : List ℕ) (k : Option Call) (d : Dispatcher') → k ≡ call_in word → word_text word k d ≡ call_text word d
unfolding call_text
call-is word k d e = ap (λ (k : Option Call). word_text word k d) e

-- one call, played as a list of one
pub played-is : (word : List ℕ) (k : Call) (d : Dispatcher') (last : Option Came) (w : Network)
    → last ≡ last_or None (came_by_all (step_of k ∷ []) d) → w ≡ (left_by_steps (step_of k ∷ []) d).network
    → called_text word k ++ last_text last w ≡ word_text word (Some k) d
unfolding word_text came_by_all left_by_steps
played-is word k d last w e f = rw (e, f) refl
