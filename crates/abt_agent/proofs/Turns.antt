-- The invariant of the loop of backing up: it holds at the start, a turn that refuses keeps it, and the turns that end give the step.
-- The Backs, and then settling from here, is settling from the start; Backs and known agents are few enough that turns are left.
use Rattle.std.proofs.Common.{ℕ, suc, ◌+◌, ◌-◌, ◌^◌, ◌<◌, ◌≤◌, Option, Some, None, ◌≡◌, refl, sym, ap, ap₂, ◌∙◌, Bool, true, false, List, [], ◌++◌, append-nil, not-suc-le-zero, arith, bit_and, length, get_or, set, length-set, get_or-set_same, get_or-set_other}
use mathlib.Core.Path.{fun_ext}
use mathlib.Core.Bool.{false≢true}
use Rattle.model_base.specs.Finite.{at, highest}
use Rattle.model_base.proofs.Tests.{eq_test}
use Rattle.model_sheet.specs.Problem.{max_agents}
use Rattle.model_agent.specs.Message.{Assignment, known, Post as Post'}
use Rattle.model_agent.specs.Agent.{Bans, Nogoods, Agent as Agent', with_last}
use Rattle.model_agent.specs.Choosing.{choice, tells, chosen, union, refusing, forget, after, settle, check_view}
use Rattle.model_agent.specs.Shape.{max_named}
use Rattle.model_base.specs.Sets.{members, mask_from}
use Rattle.abt_packed.specs.Packed.{assignment, number_of}
use Rattle.abt_choosing.specs.Conflicts.{self_of, ConfigFits, byte_of, ConflictsOf}
use Rattle.abt_choosing.specs.Choosing.{nogoods_of, Chose}
use Rattle.abt_choosing.specs.declared.Conflicts.{Conflicts}
use Rattle.abt_choosing.specs.declared.AgentConfig.{AgentConfig}
use Rattle.abt_agent.specs.Abstract.{assigned, none_counted, counts_of, agent_of}
use Rattle.abt_agent.specs.Posting.{links_to, news_to, back_of, backs_from, posts_left, step_of}
use Rattle.abt_agent.specs.Entries.{Above, Below, StepsAs}
use Rattle.abt_agent.specs.Parts.{agent_in, step_with, Sound, refuser_of, Refuser, has_taken, has_failed, keeping, listener}
use Rattle.abt_agent.specs.declared.State.{State}
use Rattle.abt_packed.proofs.Known.{known-true}
use Rattle.abt_choosing.proofs.Barrings.{seen, unknown-bits}
use Rattle.abt_agent.proofs.Coherence.{coherent-keeping}
use Rattle.abt_choosing.proofs.Spared.{spares}
use Rattle.abt_agent.proofs.Views.{kept-other}
use Rattle.abt_agent.proofs.Settling.{named_to, named-le, named-forget, named-above, whom, whom-is, refused-known, after-after, turn-took, turn-failed, turn-back, without-keeping}
use Rattle.abt_agent.proofs.Sending.{Refuses, Addressed, refuses, backs-more, steps-as}
use Rattle.abt_agent.proofs.Telling.{tells-below}
use Rattle.abt_agent.proofs.ToSet.{none_in, news-none, news-infos}

-- what bans and view bar, and what is left to do
pub record Here (own : AgentConfig) (bans : Bans) (refuser : Option ℕ) (a₀ : Agent') (s : State) (nogoods : List ℕ) (backs : List ℕ) (count : ℕ) : Type 0 where
  pub conflicts_of : ConflictsOf bans (assignment s.view) s.conflicts
  pub goes_on : check_view (self_of own) bans (refuser_of refuser) a₀
      ≡ after (backs_from 0 count backs) (settle (own.number - count) (self_of own) bans (refuser_of refuser) (agent_in s nogoods))

-- the agents that are known and the Backs sent are together no more than the agents above, so there are turns left
pub record Turning (own : AgentConfig) (refuser : Option ℕ) (s₀ : State) (nogoods₀ : List ℕ) (s : State) (nogoods : List ℕ) (backs : List ℕ) (count : ℕ) : Type 0 where
  pub sound : Sound own s nogoods
  pub left : count + named_to (own.number - 1) (assignment s.view) ≤ own.number - 1
  pub places : length backs ≡ 11
  pub sent : (i : ℕ) → i < count → Refuses own (get_or backs i 0)
  pub here : (bans : Bans) → ConflictsOf bans (assignment s₀.view) s₀.conflicts → Here own bans refuser (agent_in s₀ nogoods₀) s nogoods backs count

pub turn-begin : (own : AgentConfig) (refuser : Option ℕ) (s : State) (nogoods backs : List ℕ) → Sound own s nogoods → length backs ≡ 11
    → Turning own refuser s nogoods s nogoods backs 0
unfolding check_view self_of after backs_from
turn-begin own refuser s nogoods backs sound long =
    let n : own.number - 0 ≡ own.number = omega arith in
    record {
      sound = sound;
      left = omega (arith, named-le (own.number - 1) (assignment s.view));
      places = long;
      sent = λ i l. absurd (not-suc-le-zero l);
      here = λ bans conflicts_of. record { conflicts_of = conflicts_of; goes_on = rw n };
    }

-- a turn: what choosing came to
module _ (own : AgentConfig) (fits : ConfigFits own) (refuser : Option ℕ) (s₀ : State) (nogoods₀ : List ℕ) (s : State) (nogoods backs : List ℕ) (count : ℕ)
    (t : Turning own refuser s₀ nogoods₀ s nogoods backs count) (o : Option ℕ) (nogood_mask : ℕ) (new : List ℕ)
    (c : Chose own (assignment s.view) s.conflicts (nogoods_of s.nogood_mask nogoods) o (nogoods_of nogood_mask new)) where
  -- there are turns left
  times : own.number - count ≡ suc (own.number - count - 1)
  times = omega (arith, t.left, fits.first)

  few : count ≤ 11
  few = omega (arith, t.left, fits.last)

  chooses : (bans : Bans) → ConflictsOf bans (assignment s.view) s.conflicts → (v : Option ℕ) → o ≡ v
      → choice (self_of own) bans (agent_in s nogoods) ≡ record { value = v; nogoods = nogoods_of nogood_mask new }
  unfolding choice agent_of assigned nogoods_of self_of
  chooses bans conflicts_of v e = rw e at (c.choice bans conflicts_of)

  -- ---- the turns that end

  module _ (links : ℕ) (up : Above own links) (bans : Bans) (conflicts_of : ConflictsOf bans (assignment s₀.view) s₀.conflicts) where
    here : Here own bans refuser (agent_in s₀ nogoods₀) s nogoods backs count
    here = t.here bans conflicts_of

    goes : after (links_to links) (check_view (self_of own) bans (refuser_of refuser) (agent_in s₀ nogoods₀))
        ≡ after (links_to links ++ backs_from 0 count backs) (settle (suc (own.number - count - 1)) (self_of own) bans (refuser_of refuser) (agent_in s nogoods))
    goes =
        ap (after (links_to links)) (rw times at here.goes_on)
        ∙ after-after (links_to links) (backs_from 0 count backs) (settle (suc (own.number - count - 1)) (self_of own) bans (refuser_of refuser) (agent_in s nogoods))

    -- what is sent, where choosing comes to an end
    ends : (v told last : ℕ) (unsolvable : Bool) (sent : List Post') → Below own told → news_to v told ≡ sent
        → after (links_to links) (check_view (self_of own) bans (refuser_of refuser) (agent_in s₀ nogoods₀))
        ≡ record {
          agent = with_last (chosen (agent_in s nogoods) v (nogoods_of nogood_mask new)) last;
          sent = links_to links ++ backs_from 0 count backs ++ sent;
          unsolvable = unsolvable;
        }
        → StepsAs own bans
        (step_with
        record {
          state = record s { value = v; last = last; nogood_mask = nogood_mask };
          links = links;
          told = told;
          count = count;
          unsolvable = unsolvable;
        }
        new backs)
        (after (links_to links) (check_view (self_of own) bans (refuser_of refuser) (agent_in s₀ nogoods₀)))
    unfolding step_of posts_left agent_of assigned chosen nogoods_of
    ends v told last unsolvable sent down e is =
        let addressed : Addressed own record { links = links; told = told; value = v; next = 0; count = count } backs =
        record { links = up; told = down; next = refl; few = few; places = t.places; wholes = t.sent } in
        steps-as own bans _ _ fits addressed
        (ap (λ (l : List Post'). record {
          agent = with_last (chosen (agent_in s nogoods) v (nogoods_of nogood_mask new)) last;
          sent = links_to links ++ backs_from 0 count backs ++ l;
          unsolvable = unsolvable;
        }) e ∙ sym is)
        here.conflicts_of

    pub took-step : (v : ℕ) → o ≡ Some v → Refuser own refuser → (told : ℕ)
        → ((k : ℕ) → 1 ≤ k → members told k ≡ tells (self_of own) (listener (record s { nogood_mask = nogood_mask })) (refuser_of refuser) v k)
        → StepsAs own bans (step_with (has_taken (record s { nogood_mask = nogood_mask }) v told links count) new backs)
        (after (links_to links) (check_view (self_of own) bans (refuser_of refuser) (agent_in s₀ nogoods₀)))
    unfolding tells agent_of self_of
    took-step v q below told e =
        let down : Below own told = tells-below own (record s { nogood_mask = nogood_mask }) refuser v told t.sound.downward below e in
        ends v told v false _ down (news-infos (self_of own) (agent_in s nogoods) (refuser_of refuser) v told fits.last e down)
        (goes
        ∙ turn-took (own.number - count - 1) (self_of own) bans (refuser_of refuser) (agent_in s nogoods) (links_to links ++ backs_from 0 count backs) (nogoods_of nogood_mask new)
        v (chooses bans here.conflicts_of (Some v) q))

    pub failed-step : o ≡ None → whom (self_of own) (nogoods_of nogood_mask new) ≡ None
        → StepsAs own bans (step_with (has_failed (record s { nogood_mask = nogood_mask }) links count) new backs)
        (after (links_to links) (check_view (self_of own) bans (refuser_of refuser) (agent_in s₀ nogoods₀)))
    unfolding chosen agent_of
    failed-step z e =
        ends 0 0 s.last true [] (none_in (λ k. (own.number < k) × (k ≤ max_agents))) (news-none 0)
        (goes
        ∙ turn-failed (own.number - count - 1) (self_of own) bans (refuser_of refuser) (agent_in s nogoods) (links_to links ++ backs_from 0 count backs) (nogoods_of nogood_mask new)
        (chooses bans here.conflicts_of None z) e
        ∙ ap (λ (l : List Post'). record {
          agent = with_last (chosen (agent_in s nogoods) 0 (nogoods_of nogood_mask new)) s.last;
          sent = l;
          unsolvable = true;
        }) (sym (append-nil (links_to links ++ backs_from 0 count backs))))

  -- ---- a turn that refuses

  module _ (none_free : o ≡ None) (resolvent : ℕ) (joined : assignment resolvent ≡ union own.domain (nogoods_of nogood_mask new)) (top : Option ℕ)
      (highest-in : top ≡ highest max_named (λ j. known (assignment resolvent j))) where
    named : (k : Option ℕ) → top ≡ k → whom (self_of own) (nogoods_of nogood_mask new) ≡ k
    named k e = rw e at (whom-is own fits (assignment s.view) (nogoods_of nogood_mask new) c.coherent (top) (rw joined at highest-in))

    pub nobody : top ≡ None → whom (self_of own) (nogoods_of nogood_mask new) ≡ None
    nobody e = named None e

    module _ (k : ℕ) (one : top ≡ Some k) where
      known-one : (1 ≤ k) × (k < own.number) × (known (assignment s.view k) ≡ true)
          × (known (union own.domain (nogoods_of nogood_mask new) k) ≡ true)
      known-one = refused-known own fits (assignment s.view) (nogoods_of nogood_mask new) c.coherent k (named (Some k) one)

      pub in-range : (1 ≤ k) × (k ≤ 16)
      in-range = let n = known-one in (n.0, omega (arith, n.1, fits.last))

      fewer : suc (named_to (own.number - 1) (at (assignment s.view) k 0)) ≡ named_to (own.number - 1) (assignment s.view)
      fewer = let n = known-one in named-forget (own.number - 1) (assignment s.view) k n.0 (omega (arith, n.1)) n.2

      pub room : count < 11
      room = omega (arith, t.left, fewer, fits.last)

      the-post : back_of resolvent ≡ refusing k (union own.domain (nogoods_of nogood_mask new))
      unfolding back_of number_of
      the-post =
          let h : Some k ≡ highest max_named (λ j. known (assignment resolvent j)) = rw one at highest-in in
          ap₂ refusing (ap number_of (sym h)) joined

      -- the whole nogood, as it is sent
      sendable : resolvent < 2 ^ 64 → Refuses own resolvent
      unfolding max_named
      sendable small =
          refuses own resolvent k small fits.last
          (λ j l h e.
          (named-above own fits (assignment s.view) (nogoods_of nogood_mask new) c.coherent j l h
          (sym (ap (λ (w : Assignment). known (w j)) joined) ∙ e)).1)
          (ap (λ (w : Assignment). known (w k)) joined ∙ known-one.3)

      -- the agent after it
      module _ (mask view : ℕ) (b : Conflicts) (sure : nogood_mask < 2 ^ 8) (spared : mask ≡ mask_from (spares new k) 1 8)
          (seen-now : assignment view ≡ at (assignment s.view) k 0)
          (changed : (j : ℕ) → 1 ≤ j → j ≤ 16 → byte_of b j ≡ at (byte_of s.conflicts) k 0 j) where
        abbrev next : State
        next = record s { nogood_mask = bit_and nogood_mask mask; view = view; conflicts = b }

        kept : nogoods_of (bit_and nogood_mask mask) new ≡ (λ w. keeping k 0 (nogoods_of nogood_mask new w))
        kept =
            kept-other own (assignment s.view) nogood_mask new k 0 c.coherent sure in-range.0 in-range.1 mask
            (λ e. omega (arith, e, known-true (assignment s.view k) known-one.2)) spared

        forgets : agent_in next new ≡ forget k (agent_in s nogoods) (nogoods_of nogood_mask new)
        unfolding agent_of assigned forget nogoods_of
        forgets =
            ap₂ (λ (f : Assignment) (n : Nogoods). record {
              value = s.value;
              last = s.last;
              listens = members s.listens;
              informs = members s.informs;
              view = f;
              nogoods = n;
              counts = counts_of none_counted none_counted;
            }) seen-now (kept ∙ fun_ext λ w. sym (without-keeping k (nogoods_of nogood_mask new w)))

        next_here : (bans : Bans) → ConflictsOf bans (assignment s₀.view) s₀.conflicts
            → Here own bans refuser (agent_in s₀ nogoods₀) next new (set backs count resolvent) (count + 1)
        unfolding self_of
        next_here bans conflicts_of =
            let h = t.here bans conflicts_of in
            let n : own.number - (count + 1) ≡ own.number - count - 1 = omega arith in
            record {
              conflicts_of =
                  rw seen-now
                  (seen bans (assignment s.view) s.conflicts b k 0 0 h.conflicts_of changed (λ w l u. unknown-bits bans k w));
              goes_on =
                  rw (backs-more count backs resolvent (omega (arith, room, t.places)), the-post, n, forgets)
                  ((rw times at h.goes_on)
                  ∙ turn-back (own.number - count - 1) (self_of own) bans (refuser_of refuser) (agent_in s nogoods) (backs_from 0 count backs) (nogoods_of nogood_mask new)
                  (chooses bans h.conflicts_of None none_free) k (named (Some k) one));
            }

        pub next-turn : resolvent < 2 ^ 64 → length new ≡ 8 → Turning own refuser s₀ nogoods₀ next new (set backs count resolvent) (count + 1)
        unfolding known
        next-turn small long =
            record {
              sound =
                  record {
                    places = long;
                    coherent = rw (seen-now, kept) (coherent-keeping own (assignment s.view) (nogoods_of nogood_mask new) k 0 (λ z. absurd (false≢true z)) c.coherent);
                    downward = t.sound.downward;
                  };
              left = rw seen-now (omega (arith, t.left, fewer));
              places = rw length-set t.places;
              sent = λ i l.
                  eq_test i count
                  (λ q. rw (q, get_or-set_same backs count resolvent 0 (omega (arith, room, t.places))) (sendable small))
                  (λ n. rw (get_or-set_other backs count i resolvent 0 n) (t.sent i (omega (arith, n))));
              here = next_here;
            }
