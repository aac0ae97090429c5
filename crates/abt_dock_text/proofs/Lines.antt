-- The lines of the scanners, one behind the other.
use Rattle.std.proofs.Common.{◌≡◌, refl, sym, ap, subst, ◌∙◌, List, ℕ, ◌+◌, ◌-◌, ◌≤◌, arith}
use Rattle.model_base.specs.Finite.{gather}
use Rattle.model_network.specs.Network.{Network}
use Rattle.model_network.specs.Delivery.{ask_value}
use Rattle.abt_record.specs.declared.Network.{Network as Record}
use Rattle.abt_record.specs.Abstract.{problem_of, network_of}
use Rattle.support_buffer.specs.declared.cursor.Cursor.{Cursor}
use Rattle.support_buffer.specs.Puts.{Adds}
use Rattle.support_buffer.proofs.Puts.{one_more, puts-as}
use Rattle.abt_dock_text.specs.Text.{slot_line, slot_lines}

abbrev pub slot_of : Network → ℕ → List ℕ
slot_of w i = slot_line i (ask_value w i).value

-- behind the lines of the scanners below i, the line of scanner i
pub slots-more : (w : Network) (i v : ℕ) {old mid new : Cursor} → 1 ≤ i → Adds old (gather (i - 1) 1 (slot_of w)) mid → v ≡ (ask_value w i).value
    → Adds mid (slot_line i v) new → Adds old (gather i 1 (slot_of w)) new
slots-more w i v {old} {mid} {new} l A e B =
    let next : i ≡ 1 + (i - 1) = omega arith in
    let all = (one_more (record { put = A }) _ i B (ap (slot_line i) e ∙ ap (slot_of w) next) (omega arith) refl).put in
    puts-as (sym all.long) refl all

pub count-is : (r : Record) → (network_of r).problem.count ≡ r.count
unfolding network_of problem_of
count-is r = refl

pub slots-all : (r : Record) (i : ℕ) {old new : Cursor} → Adds old (gather i 1 (slot_of (network_of r))) new → i ≡ r.count → Adds old (slot_lines (network_of r)) new
unfolding slot_lines
slots-all r i {old} {new} A e = subst (λ (k : ℕ). Adds old (gather k 1 (slot_of (network_of r))) new) (e ∙ sym (count-is r)) A
