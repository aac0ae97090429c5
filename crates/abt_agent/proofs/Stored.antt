-- A Back taken in: answered where it does not hold, stored where it does, and then the agent has to choose behind its link requests.
use Rattle.std.proofs.Common.{ℕ, zero, suc, ◌*◌, ◌-◌, ◌%◌, ◌^◌, ◌≤◌, Some, None, ◌≡◌, refl, sym, ◌∙◌, ◌≢◌, Bool, true, false, not, ◌||◌, List, [], arith, bit_or, set, length-set, eq-eqb, ne_eqb}
use mathlib.Core.Path.{fun_ext}
use mathlib.Core.Bool.{and-true}
use Rattle.model_base.specs.Finite.{at, from_one, all_to}
use Rattle.model_base.proofs.Bits.{bit-or}
use Rattle.model_base.proofs.Tests.{test, both, within-true}
use Rattle.model_agent.specs.Message.{Assignment, known, Back as Back'}
use Rattle.model_agent.specs.Agent.{Nogoods, above}
use Rattle.model_agent.specs.Receiving.{matches, holds, unheard, accepting, outdated, on_back}
use Rattle.model_agent.specs.Shape.{any_value}
use Rattle.model_sheet.specs.Problem.{max_agents, max_domain}
use Rattle.model_base.specs.Sets.{members}
use Rattle.abt_packed.specs.Packed.{assignment}
use Rattle.abt_choosing.specs.Conflicts.{self_of, ViewFits, bans_in}
use Rattle.abt_choosing.specs.Choosing.{nogoods_of}
use Rattle.abt_choosing.specs.declared.AgentConfig.{AgentConfig}
use Rattle.abt_agent.specs.Abstract.{assigned, none_counted, counts_of, agent_of}
use Rattle.abt_agent.specs.Entries.{Above}
use Rattle.abt_agent.specs.Parts.{agent_in, Sound, Listening, Hears, Handed, Takes}
use Rattle.abt_agent.specs.declared.State.{State}
use Rattle.abt_agent.specs.declared.Reaction.TheVariants.{Choose, Tell}
use Rattle.abt_agent.specs.declared.receiving.Heard.{Heard}
use Rattle.abt_agent.proofs.ToSet.{none_in, news-none, links-asked}
use Rattle.abt_agent.proofs.Fits.{fits-sound}
use Rattle.abt_choosing.proofs.Records.{nogoods-stored}
use Rattle.abt_agent.proofs.Steps.{takes-quiet, takes-answer}
use Rattle.abt_agent.proofs.Backs.{coherent-accepting}

ap₃ : {A B C D : Type 0} (f : A → B → C → D) {a a' : A} {b b' : B} {c c' : C} → a ≡ a' → b ≡ b' → c ≡ c' → f a b c ≡ f a' b' c'
ap₃ f p q r = rw (p, q, r)

-- the agents of two sets
members-or : (x y k : ℕ) → members (bit_or x y) k ≡ members x k || members y k
unfolding members from_one
members-or x y zero = refl
members-or x y (suc k) = bit-or x y k

module _ (own : AgentConfig) (words : List ℕ) (s : State) (nogoods : List ℕ) (from x v : ℕ)
    (h : Handed own words s nogoods from (Back' (assignment x) v)) where
  abbrev lhs : Assignment
  lhs = assignment x

  sound : Sound own s nogoods
  sound = fits-sound own s nogoods h.places h.agent

  pub listening : Listening s
  unfolding agent_of assigned
  listening k lo hi e = (h.agent.viewed k lo hi e).0

  pub upward : ViewFits own lhs
  unfolding self_of any_value
  upward k lo hi e = let m = h.message.3 k lo hi e in (m.0, (within-true max_domain (lhs k) m.1).1)

  pub sender : (1 ≤ from) × (from ≤ 12)
  unfolding self_of max_agents
  sender = (omega (arith, h.message.0), h.message.1)

  pub refused : (1 ≤ v) × (v ≤ 8)
  unfolding self_of
  refused = let r = within-true own.domain v h.message.2 in (r.0, omega (arith, r.1, h.able.fits.few))

  -- ---- where it does not hold

  pub takes-other : v ≢ s.value
      → Takes own (bans_in words) s (Tell 0) nogoods
      (on_back (self_of own) (bans_in words) (agent_in s nogoods) from lhs v)
  unfolding on_back holds outdated agent_of
  takes-other n =
      let other : holds (self_of own) (agent_in s nogoods) lhs v ≡ false = rw (ne_eqb v s.value n) in
      rw (other, on_back, ne_eqb v s.value n)
      (takes-quiet own (bans_in words) s nogoods 0 [] sound h.conflicts_of (none_in _) (news-none s.value))

  -- as the code has it
  module _ (own_value : v ≡ s.value) where
    held : (b : Bool) → all_to (above (self_of own)) (matches (agent_in s []) lhs) ≡ b → holds (self_of own) (agent_in s nogoods) lhs v ≡ b
    unfolding holds matches agent_of
    held b e = rw (eq-eqb v s.value own_value) e

    pub takes-outdated : (told : ℕ) → Hears own (bans_in words) s lhs None → members told ≡ at (members 0) from true
        → Takes own (bans_in words) s (Tell told) nogoods
        (on_back (self_of own) (bans_in words) (agent_in s nogoods) from lhs v)
    unfolding on_back outdated agent_of self_of
    takes-outdated told hears m =
        rw (held false hears, on_back, eq-eqb v s.value own_value)
        (takes-answer own (bans_in words) s nogoods told from h.message.0 h.message.1 m sound h.conflicts_of)

    -- ---- where it holds

    module _ (r : Heard) (hears : Hears own (bans_in words) s lhs (Some r)) where
      -- the agent, its view and its reason stored
      abbrev now : State
      now =
          record s {
            value = 0;
            nogood_mask = bit_or s.nogood_mask (1 * 2 ^ (v - 1) % 2 ^ 8);
            listens = bit_or s.listens r.links;
            view = r.view;
            conflicts = r.conflicts;
          }

      abbrev words-now : List ℕ
      words-now = set nogoods (v - 1) x

      listens-now : (k : ℕ) → members (bit_or s.listens r.links) k ≡ members s.listens k || known (lhs k)
      unfolding unheard agent_of
      listens-now k =
          members-or s.listens r.links k
          ∙ rw (hears.1.links k)
          (test (members s.listens k) (λ t. rw t) (λ t. rw t (and-true (known (lhs k)))))

      nogoods-now : nogoods_of (bit_or s.nogood_mask (1 * 2 ^ (v - 1) % 2 ^ 8)) words-now ≡ (accepting (agent_in s nogoods) lhs v).nogoods
      unfolding accepting agent_of nogoods_of
      nogoods-now =
          let one : suc (v - 1) ≡ v = omega (arith, refused.0) in
          rw one at (nogoods-stored s.nogood_mask nogoods (v - 1) x (omega (arith, refused.1)) (omega (arith, refused.0, refused.1, h.places)))

      is-accepting : agent_in now words-now ≡ accepting (agent_in s nogoods) lhs v
      unfolding agent_of assigned accepting nogoods_of unheard
      is-accepting =
          ap₃
          (λ (l : ℕ → Bool) (f : Assignment) (n : Nogoods). record {
            value = 0;
            last = s.last;
            listens = l;
            informs = members s.informs;
            view = f;
            nogoods = n;
            counts = counts_of none_counted none_counted;
          })
          (fun_ext λ k. listens-now k) (fun_ext λ k. hears.1.view k) nogoods-now

      view-now : assignment r.view ≡ (accepting (agent_in s nogoods) lhs v).view
      unfolding accepting unheard agent_of assigned
      view-now = fun_ext λ k. hears.1.view k

      above-all : Above own r.links
      unfolding unheard agent_of
      above-all k lo hi e =
          (upward k lo hi (both (known (lhs k)) (not (members s.listens k)) (sym (hears.1.links k) ∙ e)).0).0

      pub takes-held : Takes own (bans_in words) now (Choose r.links (Some from)) words-now
          (on_back (self_of own) (bans_in words) (agent_in s nogoods) from lhs v)
      unfolding on_back self_of unheard agent_of
      takes-held =
          let e : holds (self_of own) (agent_in s nogoods) lhs v ≡ true = held true hears.0 in
          record {
            taken =
                rw (
                  e,
                  on_back,
                  is-accepting,
                  links-asked (self_of own) (agent_in s nogoods) lhs r.links h.able.fits.first h.able.fits.last above-all (λ k lo hi. hears.1.links k),
                );
            sound =
                record {
                  places = rw length-set h.places;
                  coherent = rw (view-now, nogoods-now) (coherent-accepting own (agent_in s nogoods) from lhs v h.agent h.message e);
                  downward = sound.downward;
                };
            conflicts_of = hears.1.conflicts_of;
            addresses = (above-all, (h.message.0, h.message.1));
          }
