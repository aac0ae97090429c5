-- Where the values 1 to m have their reasons, choosing goes on with the values above.
-- Each value passed is one step of the definition: its reason is the stored one, or names the agent to blame.
use Rattle.std.proofs.Common.{None, Some, ℕ, suc, ◌+◌, ◌*◌, ◌-◌, ◌/◌, ◌%◌, ◌^◌, ◌<◌, ◌≤◌, ◌≡◌, refl, sym, ◌∙◌, ◌≢◌, true, false, List, add-one, arith, bit_or, eqb, length, get_or, set, eq-eqb, ne_eqb, eqb-true}
use mathlib.Core.Bool.{false≢true}
use borrow.Author.Tests.{not-false, eqb-false}
use Rattle.model_base.specs.Bits.{bit}
use Rattle.model_base.specs.Finite.{at, from_one, lowest, is_some}
use Rattle.model_base.proofs.Tests.{test, eq_test}
use Rattle.model_base.proofs.Search.{at_same, at_other, at-itself}
use Rattle.model_sheet.specs.Problem.{max_domain}
use Rattle.model_agent.specs.Message.{Assignment, known, nobody}
use Rattle.model_agent.specs.Agent.{Self, Bans, Nogoods}
use Rattle.model_agent.specs.Choosing.{only, blaming, reason_of, reason, choose, union}
use Rattle.model_agent.specs.Shape.{max_named}
use Rattle.abt_packed.specs.Packed.{assignment}
use Rattle.abt_choosing.specs.Conflicts.{self_of, ConfigFits, byte_of, ConflictsOf}
use Rattle.abt_choosing.specs.Choosing.{nogoods_of, Agreed, Coherent, left_free, Barred, Blames, Reasoned}
use Rattle.abt_choosing.specs.declared.Conflicts.{Conflicts}
use Rattle.abt_choosing.specs.declared.AgentConfig.{AgentConfig}
use Rattle.abt_packed.proofs.Digits.{nobody-assigned, or-assigned}
use Rattle.abt_choosing.proofs.Records.{nogood-stored, nogood-none, stored-word, nogoods-stored}
use Rattle.abt_choosing.proofs.Unions.{union-same, compatible, joined}

-- a ban's reason names one agent, at its value in the view
only-agreed : (view : Assignment) (k : ℕ) → Agreed view (only k (view k))
unfolding only nobody known
only-agreed view k j lo hi e =
    test (eqb j k)
    (λ t. rw (eqb-true j k t, at_same nobody k (view k)))
    (λ t. absurd (false≢true (rw (at_other nobody k (view k) j (eqb-false j k t)) at e)))

-- one value more is tried
choose-more : (m v : ℕ) (s : Self) (bans : Bans) (view : Assignment) (nogoods : Nogoods) (lhs : Assignment)
    → reason s bans view nogoods v ≡ Some lhs
    → choose (suc m) v s bans view nogoods ≡ choose m (suc v) s bans view (at nogoods v (Some lhs))
unfolding choose
choose-more m v s bans view nogoods lhs e = rw (e, choose)

module _ (own : AgentConfig) (view : Assignment) (b : Conflicts) where
  pub reasons-none : (nogoods : Nogoods) → Coherent own view nogoods → Reasoned own view b 0 nogoods nogoods
  reasons-none nogoods c =
      let e : own.domain - 0 ≡ own.domain = omega arith in
      record { coherent = c; later = λ v h. refl; goes_on = λ bans conflicts_of. rw e }

  module _ (old new : Nogoods) (i : ℕ) (r : Reasoned own view b i old new) (room : i < own.domain) where
    -- the next value's reason
    more : (lhs : Assignment) → Agreed view lhs
        → ((bans : Bans) → ConflictsOf bans view b → reason (self_of own) bans view new (suc i) ≡ Some lhs)
        → Reasoned own view b (suc i) old (at new (suc i) (Some lhs))
    more lhs agree is =
        record {
          coherent = record { viewed = r.coherent.viewed; agreed = agreed };
          later = λ v h. at_other new (suc i) (Some lhs) v (λ e. omega arith) ∙ r.later v (omega arith);
          goes_on = λ bans conflicts_of.
              let d : own.domain - i ≡ suc (own.domain - suc i) = omega arith in
              sym (choose-more (own.domain - suc i) (suc i) (self_of own) bans view new lhs (is bans conflicts_of)) ∙ (rw d at (r.goes_on bans conflicts_of));
        }
      where
        agreed : (v : ℕ) (l : Assignment) → 1 ≤ v → v ≤ max_domain → at new (suc i) (Some lhs) v ≡ Some l → Agreed view l
        agreed v l lo hi e =
            eq_test v (suc i)
            (λ q.
            let z : Some lhs ≡ Some l = sym (at_same new (suc i) (Some lhs)) ∙ (rw q at e) in
            let d : lhs ≡ l = cc in
            rw (← d) agree)
            (λ n. r.coherent.agreed v l lo hi (sym (at_other new (suc i) (Some lhs) v n) ∙ e))

    -- the stored one
    reasoned-kept : (lhs : Assignment) → suc i ≤ max_domain → old (suc i) ≡ Some lhs → Reasoned own view b (suc i) old new
    unfolding reason reason_of
    reasoned-kept lhs few e =
        let f : new (suc i) ≡ Some lhs = r.later (suc i) (omega arith) ∙ e in
        rw (at-itself new (suc i) (Some lhs) f) at
        (more lhs (r.coherent.agreed (suc i) lhs (omega arith) few f) (λ bans conflicts_of. rw f))

    -- a ban
    reasoned-given : (k : ℕ) → old (suc i) ≡ None → Blames own b new (suc i) k
        → Reasoned own view b (suc i) old (at new (suc i) (Some (only k (view k))))
    unfolding reason reason_of blaming
    reasoned-given k e blames =
        more (only k (view k)) (only-agreed view k)
        (λ bans conflicts_of. rw (r.later (suc i) (omega arith), e, blames.2 bans view conflicts_of r.coherent.viewed))

-- ---- as the code has it

module _ (own : AgentConfig) (view : Assignment) (b : Conflicts) (nogood_mask : ℕ) (nogoods : List ℕ) (i : ℕ) (fits : ConfigFits own) (room : i < own.domain) where
  pub reasons-kept : (new : Nogoods) → nogood_mask / 2 ^ i % 2 ≢ 0 → Reasoned own view b i (nogoods_of nogood_mask nogoods) new
      → Reasoned own view b (i + 1) (nogoods_of nogood_mask nogoods) new
  unfolding bit nogoods_of from_one max_domain
  reasons-kept new has given =
      let one : nogood_mask / 2 ^ i % 2 ≡ 1 = omega (arith, has) in
      rw (add-one i)
      (reasoned-kept own view b (nogoods_of nogood_mask nogoods) new i given room (assignment (get_or nogoods i 0)) (omega (arith, fits.few))
      (nogood-stored nogood_mask nogoods i (eq-eqb _ _ one)))

  module _ (lacks : nogood_mask / 2 ^ i % 2 ≡ 0) where
    lacking : bit nogood_mask i ≡ false
    unfolding bit
    lacking = ne_eqb (nogood_mask / 2 ^ i % 2) 1 (λ e. omega arith)

    -- somebody bars it
    pub barred-by : (tried : ℕ) → Barred nogood_mask b tried → i < tried → is_some (lowest max_named 1 (λ k. bit (byte_of b k) i)) ≡ true
    unfolding left_free
    barred-by tried barred h = not-false _ (rw lacking at (barred (suc i) (omega arith) h))

    pub reasons-given : (k x reasoned : ℕ) (words : List ℕ) → length words ≡ 8 → Blames own b (nogoods_of reasoned words) (i + 1) k
        → assignment x ≡ at (assignment 0) k (view k) → Reasoned own view b i (nogoods_of nogood_mask nogoods) (nogoods_of reasoned words)
        → Reasoned own view b (i + 1) (nogoods_of nogood_mask nogoods) (nogoods_of (bit_or reasoned (1 * 2 ^ i % 2 ^ 8)) (set words i x))
    unfolding only nogoods_of from_one
    reasons-given k x reasoned words long blames is given =
        let alone : assignment x ≡ only k (view k) = rw nobody-assigned at is in
        rw (add-one i, nogoods-stored reasoned words i x (omega (arith, fits.few)) (omega (arith, long, fits.few)), alone)
        (reasoned-given own view b (nogoods_of nogood_mask nogoods) (nogoods_of reasoned words) i given room k (nogood-none nogood_mask nogoods i lacking)
        (rw (add-one i) at blames))

-- ---- the left sides joined on the way: after m values, the union of that many

pub joined-none : (new : Nogoods) → assignment 0 ≡ union 0 new
unfolding union
joined-none new = nobody-assigned

module _ (own : AgentConfig) (view : Assignment) (b : Conflicts) (nogood_mask : ℕ) (nogoods : List ℕ) (i reasoned : ℕ) (words : List ℕ) (resolvent next : ℕ) (room : i < 8)
    (given : Reasoned own view b i (nogoods_of nogood_mask nogoods) (nogoods_of reasoned words))
    (sofar : assignment resolvent ≡ union i (nogoods_of reasoned words)) (wide : resolvent < 2 ^ 64) (narrow : next < 2 ^ 64) where
  -- a stored reason
  pub joined-kept : nogood_mask / 2 ^ i % 2 ≢ 0 → next ≡ get_or words i 0 → assignment (bit_or resolvent next) ≡ union (i + 1) (nogoods_of reasoned words)
  unfolding nogoods_of from_one bit
  joined-kept has is =
      let one : nogood_mask / 2 ^ i % 2 ≡ 1 = omega (arith, has) in
      let here : nogoods_of reasoned words (suc i) ≡ Some (assignment next) =
      rw is (stored-word reasoned words i (given.later (suc i) (omega arith) ∙ nogood-stored nogood_mask nogoods i (eq-eqb _ _ one))) in
      or-assigned resolvent next wide narrow (compatible own view (nogoods_of reasoned words) given.coherent i room (assignment resolvent) (assignment next) sofar here)
      ∙ joined own view (nogoods_of reasoned words) given.coherent i room (assignment resolvent) (assignment next) sofar here

  -- one given now
  pub joined-given : length words ≡ 8
      → Reasoned own view b (i + 1) (nogoods_of nogood_mask nogoods) (nogoods_of (bit_or reasoned (1 * 2 ^ i % 2 ^ 8)) (set words i next))
      → assignment (bit_or resolvent next) ≡ union (i + 1) (nogoods_of (bit_or reasoned (1 * 2 ^ i % 2 ^ 8)) (set words i next))
  joined-given long more =
      let new = nogoods_of (bit_or reasoned (1 * 2 ^ i % 2 ^ 8)) (set words i next) in
      let is : new ≡ at (nogoods_of reasoned words) (suc i) (Some (assignment next)) =
      nogoods-stored reasoned words i next room (omega (arith, long)) in
      let here : new (suc i) ≡ Some (assignment next) = rw is (at_same (nogoods_of reasoned words) (suc i) (Some (assignment next))) in
      let e : assignment resolvent ≡ union i new =
      sofar
      ∙ union-same i (nogoods_of reasoned words) new
      (λ v l. rw is (sym (at_other (nogoods_of reasoned words) (suc i) (Some (assignment next)) v (λ q. omega arith)))) in
      or-assigned resolvent next wide narrow (compatible own view new more.coherent i room (assignment resolvent) (assignment next) e here)
      ∙ joined own view new more.coherent i room (assignment resolvent) (assignment next) e here
