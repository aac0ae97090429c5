-- One delivery more on a list of deliveries: it is counted as what it was, and leads to the rail that it leaves.
use mir.Val.{bool_byte}
use Rattle.std.proofs.Common.{Option, Some, None, ℕ, ◌+◌, ◌≤◌, ◌≡◌, sym, ap, ◌∙◌, Bool, not, arith, eqb, eq-eqb, ne_eqb}
use Rattle.std.specs.Option.{is_some}
use Rattle.support_rejection.specs.declared.Rejection.{Rejection}
use Rattle.support_rejection.specs.Rejections.{rejection_number}
use Rattle.support_rejection.proofs.Numbers.{refusal-some}
use Rattle.abt_engine.specs.Refused.{rejected_number}
use Rattle.model_base.proofs.Tests.{eq_test, not-not}
use Rattle.model_base.proofs.Masks.{byte-lt}
use Rattle.model_network.specs.Network.{Network as Network'}
use Rattle.model_network.specs.Delivery.{deliver}
use Rattle.abt_record.specs.Abstract.{network_of}
use Rattle.abt_record.specs.declared.Network.{Network}
use Rattle.abt.specs.Answers.{DeliversAs}
use Rattle.gate_random.specs.declared.rails.List.{List}
use Rattle.gate_random.specs.Listing.{Deliveries, accepted, refused, Goes}

module _ (w : Network') (a r : ℕ) (before after : Network) (i j number : ℕ) (d : DeliversAs before (deliver (network_of before) i j) number after) where
  by-accepted : number ≡ 0 → Deliveries w a r (network_of before) → Deliveries w (a + 1) r (network_of after)
  by-accepted e h = rw d.network (accepted h i j (sym d.number ∙ e))

  by-refused : (number ≡ 0 → ⊥) → Deliveries w a r (network_of before) → Deliveries w a (r + 1) (network_of after)
  by-refused n h = rw d.network (refused h i j (λ e. n (d.number ∙ e)))

pub goes : (l o : List) (i j number : ℕ) (odd : Bool) → DeliversAs l.rail (deliver (network_of l.rail) i j) number o.rail
    → o.accepted ≡ l.accepted + bool_byte (eqb number 0)
    → o.refused ≡ l.refused + bool_byte (not (eqb number 0))
    → o.wrong ≡ l.wrong + bool_byte odd
    → Goes l o
goes l o i j number odd d a r x =
    let wrong : o.wrong ≤ l.wrong + 1 = omega (arith, x, byte-lt odd) in
    eq_test number 0
    (λ e.
    let a' : o.accepted ≡ l.accepted + 1 = rw (eq-eqb number 0 e) at a in
    let r' : o.refused ≡ l.refused = omega (arith, rw (eq-eqb number 0 e) at r) in
    record { rail = λ w h. rw (a', r') (by-accepted w _ _ l.rail o.rail i j number d e h); made = omega arith; wrong = wrong })
    (λ n.
    let a' : o.accepted ≡ l.accepted = omega (arith, rw (ne_eqb number 0 n) at a) in
    let r' : o.refused ≡ l.refused + 1 = rw (ne_eqb number 0 n) at r in
    record { rail = λ w h. rw (a', r') (by-refused w _ _ l.rail o.rail i j number d n h); made = omega arith; wrong = wrong })

-- no refusal has the number 0
pub accepts : (rejection : Option Rejection) (none : Bool) → is_some rejection ≡ not none → none ≡ eqb (rejected_number rejection) 0
accepts None b h = sym (not-not b) ∙ ap not (sym h)
accepts (Some e) b h = sym (not-not b) ∙ ap not (sym h) ∙ sym (ne_eqb (rejection_number e) 0 (refusal-some e))
