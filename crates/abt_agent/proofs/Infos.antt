-- On an Info the code drops exactly the nogoods that disagree with the changed view, and chooses where the rule does.
-- The nogoods agreed with the view before, so they can disagree only at the sender.
use Rattle.std.proofs.Common.{ℕ, zero, suc, pred, ◌-◌, ◌^◌, ◌<◌, ◌≤◌, None, Option, Some, ◌≡◌, refl, sym, ap, ap₂, ◌∙◌, ◌≢◌, Bool, true, false, not, ◌||◌, List, arith, eqb, leb, length, get_or, eqb-true, eq-eqb, leb-true, leb-false}
use mathlib.Core.Path.{fun_ext}
use mathlib.Core.Bool.{false≢true}
use borrow.Author.Tests.{eqb-false}
use Rattle.model_base.specs.Finite.{at, from_one, lowest, is_some}
use Rattle.model_base.specs.Bits.{bit}
use Rattle.model_base.proofs.Tests.{test, no-some, within-true}
use Rattle.model_base.proofs.Search.{at_same, at_other, all_to-at, to-all_to}
use Rattle.model_sheet.specs.Problem.{max_domain}
use Rattle.model_agent.specs.Message.{Assignment, known, Info as Info'}
use Rattle.model_agent.specs.Agent.{Self, Nogoods, above, agrees}
use Rattle.model_agent.specs.Choosing.{after}
use Rattle.model_agent.specs.Receiving.{agreeing, updated, conflicts, on_info}
use Rattle.model_agent.specs.Shape.{max_named, any_value}
use Rattle.model_base.specs.Sets.{members}
use Rattle.abt_packed.specs.Packed.{assignment}
use Rattle.abt_choosing.specs.Conflicts.{self_of, bans_in, conflicts_at, byte_of, ConflictsOf}
use Rattle.abt_choosing.specs.Choosing.{nogoods_of, Agreed, Coherent}
use Rattle.abt_choosing.specs.declared.Conflicts.{Conflicts}
use Rattle.abt_choosing.specs.declared.AgentConfig.{AgentConfig}
use Rattle.abt_agent.specs.Abstract.{assigned, none_counted, counts_of, agent_of}
use Rattle.abt_agent.specs.Parts.{agent_in, Sound, keeping, Handed, done_as, Addresses, Takes}
use Rattle.abt_agent.specs.declared.State.{State}
use Rattle.abt_agent.specs.declared.Reaction.{Reaction}
use Rattle.abt_agent.specs.declared.Reaction.TheVariants.{Choose, Tell}
use Rattle.abt_choosing.proofs.Barrings.{first-barring, seen as seen_bytes, barred-at-bits}
use Rattle.abt_agent.proofs.ToSet.{none_in, links-none, news-none}
use Rattle.abt_agent.proofs.Fits.{member-range, fits-sound}
use Rattle.abt_choosing.proofs.Records.{nogoods-beyond}
use Rattle.abt_agent.proofs.Coherence.{coherent-keeping}

-- ---- the nogoods that disagree

module _ (s : Self) (view : Assignment) (few : above s ≤ 16) (from v : ℕ) (lo : 1 ≤ from) (hi : from ≤ above s) where
  -- at the other agents a left side agrees still
  agrees-else : (lhs : Assignment) → Agreed view lhs → (k : ℕ) → 1 ≤ k → k ≤ above s → k ≢ from
      → not (known (lhs k)) || eqb (lhs k) (at view from v k) ≡ true
  unfolding max_named
  agrees-else lhs g k l h n =
      test (known (lhs k))
      (λ t. rw (t, at_other view from v k n, eq-eqb (lhs k) (view k) (g k l (omega arith) t)))
      (λ t. rw t)

  agrees-there : (lhs : Assignment) → Agreed view lhs
      → agrees s (at view from v) lhs ≡ not (known (lhs from)) || eqb (lhs from) v
  unfolding agrees
  agrees-there lhs g =
      test (not (known (lhs from)) || eqb (lhs from) v)
      (λ t.
      to-all_to (above s) _
      (λ k l h.
      test (eqb k from)
      (λ u. rw (eqb-true k from u, at_same view from v) t)
      (λ u. agrees-else lhs g k l h (eqb-false k from u)))
      ∙ sym t)
      (λ t.
      test (agrees s (at view from v) lhs)
      (λ u. absurd (false≢true (sym t ∙ rw (at_same view from v) at (all_to-at (above s) _ u from lo hi))))
      (λ u. u ∙ sym t))

  kept : (o : Option Assignment) → ((lhs : Assignment) → o ≡ Some lhs → Agreed view lhs)
      → agreeing s (at view from v) o ≡ keeping from v o
  unfolding agreeing keeping
  kept None f = refl
  kept (Some lhs) f = rw (agrees-there lhs (f lhs refl))

  kept-all : (own : AgentConfig) (nogood_mask : ℕ) (nogoods : List ℕ) → Coherent own view (nogoods_of nogood_mask nogoods) → nogood_mask < 2 ^ 8
      → (w : ℕ) → agreeing s (at view from v) (nogoods_of nogood_mask nogoods w) ≡ keeping from v (nogoods_of nogood_mask nogoods w)
  unfolding nogoods_of from_one max_domain
  kept-all own nogood_mask nogoods c h zero = kept None (λ lhs q. no-some q)
  kept-all own nogood_mask nogoods c h (suc w) =
      test (leb (suc w) 8)
      (λ t. kept (nogoods_of nogood_mask nogoods (suc w)) (λ lhs q. c.agreed (suc w) lhs (omega arith) (leb-true (suc w) 8 t) q))
      (λ t. rw (nogoods-beyond nogood_mask nogoods (suc w) h (leb-false (suc w) 8 t)) (kept None (λ lhs q. no-some q)))

-- ---- what the code does

module _ (own : AgentConfig) (words : List ℕ) (s : State) (nogoods : List ℕ) (from v : ℕ) (h : Handed own words s nogoods from (Info' v))
    (small : s.listens < 2 ^ 16) where
  pub sender : (1 ≤ from) × (from < own.number) × (1 ≤ v) × (v ≤ 8)
  unfolding agent_of self_of any_value max_domain max_named
  sender =
      let m = h.message in
      let r = within-true 8 v m.2 in
      (m.0, h.agent.upward from m.0 (member-range s.listens from small m.1) m.1, r.0, r.1)

  -- it has a number
  pub in_range : (1 ≤ from) × (from ≤ 16)
  in_range = (sender.0, omega (arith, sender.1, h.able.fits.last))

  pub valued : (1 ≤ s.value) × (s.value ≤ 8)
  unfolding agent_of self_of
  valued = let r = within-true own.domain s.value h.agent.valued in (r.0, omega (arith, r.1, h.able.fits.few))

  sound : Sound own s nogoods
  sound = fits-sound own s nogoods h.places h.agent

  -- the view, its nogoods and its bytes after the change
  module _ (nogood_mask view : ℕ) (b : Conflicts) (mask : s.nogood_mask < 2 ^ 8)
      (kept-now : nogoods_of nogood_mask nogoods ≡ (λ w. keeping from v (nogoods_of s.nogood_mask nogoods w)))
      (seen-now : assignment view ≡ at (assignment s.view) from v)
      (changed : (j : ℕ) → 1 ≤ j → j ≤ 16 → byte_of b j ≡ at (byte_of s.conflicts) from (conflicts_at (get_or words (from - 1) 0) v) j) where
    abbrev now : State
    now = record s { nogood_mask = nogood_mask; view = view; conflicts = b }

    coherent : Coherent own (at (assignment s.view) from v) (nogoods_of nogood_mask nogoods)
    unfolding max_domain
    coherent =
        rw kept-now
        (coherent-keeping own (assignment s.view) (nogoods_of s.nogood_mask nogoods) from v (λ k. (sender.1, sender.3)) sound.coherent)

    conflicts_of : ConflictsOf (bans_in words) (at (assignment s.view) from v) b
    unfolding max_domain
    conflicts_of =
        let near : from ≤ length words = omega (arith, sender.1, h.able.bans) in
        seen_bytes (bans_in words) (assignment s.view) s.conflicts b from v _ h.conflicts_of changed
        (λ w lo hi. barred-at-bits words from v sender.0 near sender.2 sender.3 w lo hi)

    is-updated : agent_in now nogoods ≡ updated (self_of own) (agent_in s nogoods) from v
    unfolding agent_of assigned updated self_of above nogoods_of
    is-updated =
        let few : pred own.number ≤ 16 = omega (arith, h.able.fits.last) in
        let near : from ≤ pred own.number = omega (arith, sender.1) in
        ap₂ (λ (f : Assignment) (n : Nogoods). record {
          value = s.value;
          last = s.last;
          listens = members s.listens;
          informs = members s.informs;
          view = f;
          nogoods = n;
          counts = counts_of none_counted none_counted;
        }) seen-now
        (kept-now
        ∙ fun_ext λ w. sym (kept-all (self_of own) (assignment s.view) few from v sender.0 near own s.nogood_mask nogoods sound.coherent mask w))

    -- the own value is barred, or not
    conflict : (chooses : Bool) → chooses ≡ is_some (lowest max_named 1 (λ k. bit (byte_of b k) (pred s.value)))
        → chooses ≡ conflicts (self_of own) (bans_in words) (at (agent_in s nogoods).view from v) (agent_in s nogoods).value
    unfolding conflicts agent_of assigned max_domain
    conflict chooses e =
        e ∙ ap is_some (first-barring own (bans_in words) (at (assignment s.view) from v) b conflicts_of h.able.fits coherent.viewed s.value valued.0 valued.1)

    takes : (reaction : Reaction) → Addresses own reaction
        → done_as (self_of own) (bans_in words) now reaction nogoods ≡ on_info (self_of own) (bans_in words) (agent_in s nogoods) from v
        → Takes own (bans_in words) now reaction nogoods (on_info (self_of own) (bans_in words) (agent_in s nogoods) from v)
    takes reaction addresses e =
        record {
          taken = e;
          sound = record { places = h.places; coherent = rw seen-now coherent; downward = sound.downward };
          conflicts_of = rw seen-now conflicts_of;
          addresses = addresses;
        }

    -- it chooses where the own value is barred, and is done where it isn't
    abbrev barred : Bool
    barred = is_some (lowest max_named 1 (λ k. bit (byte_of b k) (pred s.value)))

    pub takes-barred : barred ≡ true → Takes own (bans_in words) now (Choose 0 None) nogoods (on_info (self_of own) (bans_in words) (agent_in s nogoods) from v)
    unfolding on_info after
    takes-barred e = takes (Choose 0 None) (none_in _, tt) (rw (← conflict true (sym e), on_info, ← is-updated, links-none))

    pub takes-free : barred ≡ false → Takes own (bans_in words) now (Tell 0) nogoods (on_info (self_of own) (bans_in words) (agent_in s nogoods) from v)
    unfolding on_info after
    takes-free e = takes (Tell 0) (none_in _) (rw (← conflict false (sym e), on_info, ← is-updated, news-none s.value))
