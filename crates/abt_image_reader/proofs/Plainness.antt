-- Every network of the code is plain: it names nobody beyond 16, has reasons at values 1 to 8, and there is no agent beyond 12.
-- The numbers of its record fit their types: a word has sixteen digits, a mask as many bits as its width.
use Rattle.std.proofs.Common.{None, ℕ, zero, suc, ◌+◌, ◌%◌, ◌^◌, ◌<◌, ◌≡◌, refl, false, List, [], ◌∷◌, map, arith, get_or}
use lib.ListN.{length-map, get_or-eq_default}
use Rattle.model_base.specs.Finite.{from_one, within}
use Rattle.model_base.specs.Bits.{bit}
use Rattle.model_base.specs.Lists.{All}
use Rattle.model_base.proofs.Bits.{bit-above}
use Rattle.model_base.proofs.Tests.{test, above_within}
use Rattle.model_sheet.specs.Problem.{max_agents, max_domain}
use Rattle.model_agent.specs.Agent.{unused_agent}
use Rattle.model_agent.specs.Shape.{max_named}
use Rattle.model_base.specs.Sets.{members}
use Rattle.abt_packed.specs.Packed.{assignment}
use Rattle.abt_packed.proofs.Digits.{assignment-above}
use Rattle.abt_choosing.specs.Choosing.{nogood_at}
use Rattle.abt_agent.specs.declared.Agent.{Agent}
use Rattle.abt_agent.specs.declared.Message.{Message}
use Rattle.abt_agent.specs.declared.Message.TheVariants.{Info, Back, AddLink}
use Rattle.abt_agent.specs.Abstract.{assigned, unpacked, message_of, agent_of}
use Rattle.abt_record.specs.declared.Place.{Place}
use Rattle.abt_record.specs.declared.Network.{Network}
use Rattle.abt_record.specs.Abstract.{is_channel, place_of, no_place, ring, channel_of, agents_of, network_of}
use Rattle.model_agent.specs.Plain.{PlainLhs, PlainReason, PlainAgent, PlainMessage}
use Rattle.model_image.specs.Plain.{Plain}
use Rattle.model_image.proofs.Plainness.{unused-plain}
use Rattle.abt_image_reader.proofs.Owned.{AgentFits, MessageFits, NetworkFits}

-- ---- words and masks

word-plain : (x : ℕ) → x < 2 ^ 64 → PlainLhs (assignment x)
unfolding assignment from_one max_named
word-plain x h zero e = refl
word-plain x h (suc k) e = assignment-above x (suc k) h (above_within 16 (suc k) e (omega arith))

mask-plain : (x : ℕ) → x < 2 ^ 16 → (k : ℕ) → within max_named k ≡ false → members x k ≡ false
unfolding members from_one max_named
mask-plain x h zero e = refl
mask-plain x h (suc k) e = bit-above 16 x k h (omega (arith, above_within 16 (suc k) e (omega arith)))

-- ---- an agent

module _ (a : Agent) (f : AgentFits a) where
  no-reason : (v : ℕ) → within max_domain v ≡ false → from_one None (nogood_at a.nogood_mask a.nogoods) v ≡ None
  unfolding from_one nogood_at max_domain
  no-reason zero e = refl
  no-reason (suc v) e = rw (bit-above 8 a.nogood_mask v f.nogood_mask (omega (arith, above_within 8 (suc v) e (omega arith))), nogood_at)

  reason-plain : (v : ℕ) → PlainReason (from_one None (nogood_at a.nogood_mask a.nogoods) v)
  unfolding from_one nogood_at
  reason-plain zero = tt
  reason-plain (suc v) = test (bit a.nogood_mask v) (λ e. rw (e, nogood_at) (word-plain _ (f.nogoods v))) (λ e. rw (e, nogood_at) tt)

  agent-plain : PlainAgent (agent_of a)
  unfolding agent_of assigned
  agent-plain =
      record {
        listens = mask-plain a.listens f.listens;
        informs = mask-plain a.informs f.informs;
        view = word-plain a.view.digits f.view;
        nogoods = no-reason;
        reasons = reason-plain;
      }

-- ---- a message

message-plain : (m : Message) → MessageFits m → PlainMessage (message_of m)
unfolding message_of unpacked
message-plain (Info v) f = tt
message-plain (Back v p) f = word-plain (unpacked p) (omega (arith, f.0, f.1, f.2))
message-plain AddLink f = tt

-- what stands at any place, past the end too
at-any : {A B : Type 0} (g : A → B) (P : A → Type 0) (Q : B → Type 0) → ((x : A) → P x → Q (g x)) → (z : B) → Q z → (l : List A) → All P l
    → (k : ℕ) → Q (get_or (map g l) k z)
at-any g P Q h z d [] p k = d
at-any g P Q h z d (x ∷ xs) p zero = h x p.0
at-any g P Q h z d (x ∷ xs) p (suc k) = at-any g P Q h z d xs p.1 k

place-plain : (places : List Place) → All (λ p. MessageFits p.message) places → (k : ℕ) → PlainMessage (place_of (get_or places k no_place))
unfolding place_of no_place message_of
place-plain [] f k = tt
place-plain (p ∷ ps) f zero = message-plain p.message f.0
place-plain (p ∷ ps) f (suc k) = place-plain ps f.1 k

ring-plain : (places : List Place) → All (λ p. MessageFits p.message) places → (base head count : ℕ) → All PlainMessage (ring places base head count)
unfolding ring
ring-plain places f base head zero = tt
ring-plain places f base head (suc count) = (place-plain places f (base + head % 8), ring-plain places f base (suc head) count)

-- ---- the whole

module _ (r : Network) (f : NetworkFits r) where
  agents-plain : (i : ℕ) → PlainAgent ((network_of r).agents i)
  unfolding network_of agents_of from_one
  agents-plain zero = unused-plain
  agents-plain (suc k) = at-any agent_of AgentFits PlainAgent agent-plain unused_agent unused-plain r.agents f.agents k

  none-beyond : (i : ℕ) → within max_agents i ≡ false → (network_of r).agents i ≡ unused_agent
  unfolding network_of agents_of from_one max_agents
  none-beyond zero e = refl
  none-beyond (suc k) e =
      get_or-eq_default (map agent_of r.agents) unused_agent {n = k}
      (rw length-map (omega (arith, f.long, above_within 12 (suc k) e (omega arith))))

  pub network_of-plain : Plain (network_of r)
  unfolding network_of channel_of
  network_of-plain =
      record {
        agents = agents-plain;
        others = none-beyond;
        channels = λ i j e. rw (e, network_of);
        messages = λ i j. test (is_channel i j) (λ e. rw (e, network_of) (ring-plain r.places f.places _ _ _)) (λ e. rw (e, network_of) tt);
      }
