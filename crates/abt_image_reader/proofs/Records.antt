-- An agent's record, read part by part: each part is the definition's, its left sides modulo 16.
-- A stretch of a stretch is a stretch of the whole, so that every part is read where it stands.
use Rattle.std.proofs.Common.{None, Some, ℕ, zero, suc, ◌+◌, ◌*◌, ◌≤◌, ◌<◌, ◌≡◌, refl, sym, ap, ◌∙◌, true, false, cond, List, arith, eqb, ltb, get_or, drop, get_or-drop, ltb-true, ltb-false}
use mathlib.Core.Path.{fun_ext}
use Rattle.model_base.specs.Finite.{from_one, within}
use Rattle.model_base.specs.Bits.{bit}
use Rattle.model_base.proofs.Bits.{bit-above}
use Rattle.model_base.proofs.Tests.{test, to-within, not_within}
use Rattle.model_sheet.specs.Problem.{max_domain}
use Rattle.model_agent.specs.Traffic.{Sort, Infos, Backs, AddLinks}
use Rattle.model_base.specs.Sets.{members, mask_from}
use Rattle.abt_packed.specs.Packed.{assignment}
use Rattle.model_base.proofs.Masks.{mask-bit, mask_fits}
use Rattle.abt_choosing.specs.Choosing.{nogood_at}
use Rattle.abt_agent.specs.declared.Agent.{Agent}
use Rattle.abt_agent.specs.Abstract.{assigned, count_of, counts_of, agent_of}
use Rattle.model_image.specs.Bytes.{number_in, stretch}
use Rattle.model_image.specs.Reading.{slots_in, reason_in, reasons_in, counts_in, agent_in}
use Rattle.abt_image_reader.specs.Narrow.{narrow_lhs, narrow_reason, narrow_agent}
use Rattle.abt_image_reader.proofs.Windows.{stretch-at, stretch-stretch}
use Rattle.abt_image_reader.proofs.Digits.{slots_same}
use Rattle.abt_image_reader.proofs.Masks.{marked}

module _ (s : List ℕ) (at : ℕ) where
  -- ---- counts

  pub counts-in : (infos backs links : ℕ) → infos ≡ number_in (stretch at 8 s) → backs ≡ number_in (stretch (at + 8) 8 s)
      → links ≡ number_in (stretch (at + 16) 8 s) → count_of (record { infos = infos; backs = backs; links = links }) ≡ counts_in (stretch at 24 s)
  unfolding count_of counts_in
  counts-in infos backs links e f g = fun_ext λ x. go x
    where
      go : (x : Sort) → count_of (record { infos = infos; backs = backs; links = links }) x ≡ counts_in (stretch at 24 s) x
      go Infos = let z : at + 0 ≡ at = omega arith in e ∙ rw (stretch-stretch 0 8 at 24 s (omega arith), z)
      go Backs = f ∙ rw (stretch-stretch 8 8 at 24 s (omega arith))
      go AddLinks = g ∙ rw (stretch-stretch 16 8 at 24 s (omega arith))

  -- ---- reasons

  -- the first m left sides
  abbrev pub Reasoned : List ℕ → ℕ → Type 0
  Reasoned words m = (v : ℕ) → v < m → assignment (get_or words v 0) ≡ narrow_lhs (slots_in (drop (at + 13 * v + 1) s))

  -- the slots of a stretch
  slots-there : (a n : ℕ) → 12 ≤ n → slots_in (stretch a n s) ≡ slots_in (drop a s)
  slots-there a n h = slots_same _ _ (λ k l. stretch-at a n s k (omega arith) ∙ sym (get_or-drop a s k 0))

  slots-behind : (a : ℕ) → slots_in (drop 1 (stretch a 13 s)) ≡ slots_in (drop (a + 1) s)
  slots-behind a =
      slots_same _ _ (λ k l.
      get_or-drop 1 (stretch a 13 s) k 0 ∙ stretch-at a 13 s (1 + k) (omega arith) ∙ ap (λ (i : ℕ). get_or s i 0) (omega arith) ∙ sym (get_or-drop (a + 1) s k 0))

  -- one reason, as it stands
  reason-there : (a x : ℕ) → assignment x ≡ narrow_lhs (slots_in (drop (a + 1) s))
      → cond (eqb (get_or s a 0) 1) (Some (assignment x)) None ≡ narrow_reason (reason_in (stretch a 13 s))
  unfolding reason_in narrow_reason
  reason-there a x e =
      let z : a + 0 ≡ a = omega arith in
      rw (stretch-at a 13 s 0 (omega arith), z, slots-behind a)
      (test (eqb (get_or s a 0) 1) (λ t. rw (t, e)) (λ t. rw t))

-- ---- the record

by_cond : (nogood_mask : ℕ) (nogoods : List ℕ) (v : ℕ) → nogood_at nogood_mask nogoods v ≡ cond (bit nogood_mask v) (Some (assignment (get_or nogoods v 0))) None
unfolding nogood_at
by_cond nogood_mask nogoods v = test (bit nogood_mask v) (λ t. rw (t, nogood_at)) (λ t. rw (t, nogood_at))

module _ (s : List ℕ) (at : ℕ) (a : Agent) where
  reasons-in : a.nogood_mask ≡ mask_from (marked s (at + 18)) 1 8 → Reasoned s (at + 18) a.nogoods 8
      → (v : ℕ) → from_one None (nogood_at a.nogood_mask a.nogoods) v ≡ narrow_reason (reasons_in (stretch 18 104 (stretch at 170 s)) v)
  unfolding from_one nogood_at reasons_in narrow_reason within max_domain
  reasons-in e r zero = refl
  reasons-in e r (suc v) =
      test (ltb v 8) stands beyond
    where
      stands : ltb v 8 ≡ true → nogood_at a.nogood_mask a.nogoods v ≡ narrow_reason (reasons_in (stretch 18 104 (stretch at 170 s)) (suc v))
      stands t =
          let h = ltb-true v 8 t in
          let there : stretch (13 * v) 13 (stretch 18 104 (stretch at 170 s)) ≡ stretch (at + 18 + 13 * v) 13 s =
          ap (stretch (13 * v) 13) (stretch-stretch 18 104 at 170 s (omega arith)) ∙ stretch-stretch (13 * v) 13 (at + 18) 104 s (omega arith) in
          let one : 1 + v ≡ suc v = omega arith in
          let b : bit a.nogood_mask v ≡ marked s (at + 18) (suc v) = rw e (mask-bit (marked s (at + 18)) 1 8 v h ∙ ap (marked s (at + 18)) one) in
          rw (to-within 8 (suc v) (omega arith) (omega arith), there)
          (by_cond a.nogood_mask a.nogoods v ∙ rw b (reason-there s (at + 18) (at + 18 + 13 * v) (get_or a.nogoods v 0) (r v h)))

      beyond : ltb v 8 ≡ false → nogood_at a.nogood_mask a.nogoods v ≡ narrow_reason (reasons_in (stretch 18 104 (stretch at 170 s)) (suc v))
      beyond t =
          let h = ltb-false v 8 t in
          rw (not_within 8 (suc v) (λ l u. omega arith))
          (by_cond a.nogood_mask a.nogoods v ∙ rw (bit-above 8 a.nogood_mask v (rw e (mask_fits (marked s (at + 18)) 1 8 8 (omega arith))) h))

  pub agent-in : a.value ≡ get_or s at 0 → a.last ≡ get_or s (at + 1) 0
      → a.listens ≡ number_in (stretch (at + 2) 2 s) → a.informs ≡ number_in (stretch (at + 4) 2 s)
      → assignment a.view.digits ≡ narrow_lhs (slots_in (drop (at + 6) s))
      → a.nogood_mask ≡ mask_from (marked s (at + 18)) 1 8 → Reasoned s (at + 18) a.nogoods 8
      → count_of a.sent ≡ counts_in (stretch (at + 122) 24 s) → count_of a.received ≡ counts_in (stretch (at + 146) 24 s)
      → agent_of a ≡ narrow_agent (agent_in (stretch at 170 s))
  unfolding agent_of assigned counts_of narrow_agent agent_in
  agent-in value last listens informs view nogood_mask reasons sent received =
      let z : at + 0 ≡ at = omega arith in
      λ i.
      record {
        value = (value ∙ sym (stretch-at at 170 s 0 (omega arith) ∙ ap (λ (k : ℕ). get_or s k 0) z)) i;
        last = (last ∙ sym (stretch-at at 170 s 1 (omega arith))) i;
        listens = ap members (listens ∙ ap number_in (sym (stretch-stretch 2 2 at 170 s (omega arith)))) i;
        informs = ap members (informs ∙ ap number_in (sym (stretch-stretch 4 2 at 170 s (omega arith)))) i;
        view = (view ∙ ap narrow_lhs (sym (ap slots_in (stretch-stretch 6 12 at 170 s (omega arith)) ∙ slots-there s at (at + 6) 12 (omega arith)))) i;
        nogoods = fun_ext (reasons-in nogood_mask reasons) i;
        counts = record {
          sent = (sent ∙ ap counts_in (sym (stretch-stretch 122 24 at 170 s (omega arith)))) i;
          received = (received ∙ ap counts_in (sym (stretch-stretch 146 24 at 170 s (omega arith)))) i;
        };
      }
