-- The parts of an agent's record as bytes, from the words that the code holds: masks and reasons; and the records of all agents.
-- A mask is the number that has its bits.
use Rattle.std.proofs.Common.{None, ℕ, suc, ◌+◌, ◌/◌, ◌%◌, ◌^◌, ◌<◌, ◌≡◌, sym, ap, ◌∙◌, List, map, div-one, zero-add, arith, eqb, length, get_or, replicate, take, length-take, get_or-take}
use lib.ListN.{length-map, get_or-map}
use Rattle.std.specs.Bool.{then_some}
use Rattle.model_base.specs.Finite.{from_one, gather}
use Rattle.model_base.specs.Bits.{bit}
use Rattle.model_base.proofs.Arrays.{get_or-below}
use Rattle.model_base.proofs.Tests.{test}
use Rattle.model_base.proofs.Bits.{bit-field}
use Rattle.model_sheet.specs.Problem.{max_agents}
use Rattle.model_agent.specs.Message.{nobody}
use Rattle.model_agent.specs.Agent.{unused_agent}
use Rattle.model_base.specs.Sets.{members}
use Rattle.abt_packed.specs.Packed.{assignment}
use Rattle.model_base.proofs.Masks.{mask_is}
use Rattle.abt_packed.proofs.Digits.{nobody-assigned}
use Rattle.abt_choosing.specs.Choosing.{nogood_at}
use Rattle.abt_agent.specs.Abstract.{agent_of}
use Rattle.abt_agent.specs.declared.Agent.{Agent}
use Rattle.abt_record.specs.declared.Network.{Network}
use Rattle.abt_record.specs.Abstract.{agents_of, network_of}
use Rattle.model_image.specs.Bytes.{bytes_of}
use Rattle.model_image.specs.Image.{slots, mask_bytes, reason_bytes, agent_bytes}
use Rattle.abt_image_writer.specs.Reasons.{reason_of}

-- ---- masks

twelve-bits : (set k : ℕ) → k < 12 → bit (set % 4096) k ≡ members set (1 + k)
unfolding members from_one
twelve-bits set k h =
    let e : 1 + k ≡ suc k = omega arith in
    rw e (rw div-one at (bit-field set 0 12 k h) ∙ rw zero-add)

pub mask-is-put : (set : ℕ) → bytes_of 2 (set % 4096) ≡ mask_bytes (members set)
unfolding mask_bytes max_agents
mask-is-put set = ap (bytes_of 2) (mask_is (members set) 1 12 (set % 4096) (omega arith) (twelve-bits set))

-- ---- reasons

-- a word without digits
pub no-slots-put : slots (assignment 0) ≡ replicate 12 0
unfolding slots gather max_agents nobody
no-slots-put = rw nobody-assigned

-- that of the own value at a place
pub reason-at : (nogood_mask : ℕ) (nogoods : List ℕ) (v : ℕ)
    → reason_bytes (reason_of (then_some (eqb (nogood_mask / 2 ^ v % 2) 1) (get_or nogoods v 0))) ≡ reason_bytes (from_one None (nogood_at nogood_mask nogoods) (1 + v))
unfolding from_one nogood_at bit
reason-at nogood_mask nogoods v = let e : 1 + v ≡ suc v = omega arith in rw e (test (bit nogood_mask v) (λ e. rw (e, nogood_at)) (λ e. rw (e, nogood_at)))

-- ---- the agents of the code's network

pub agent-here : (r : Network) (i : ℕ) (d : Agent) → length (take r.count r.agents) ≡ r.count → i < r.count
    → agent_bytes (agent_of (get_or (take r.count r.agents) i d)) ≡ agent_bytes ((network_of r).agents (1 + i))
unfolding network_of agents_of from_one
agent-here r i d e h =
    let inside : i < length r.agents = omega (arith, length-take r.count r.agents) in
    let one : 1 + i ≡ suc i = omega arith in
    rw (get_or-take r.count r.agents i d h, one)
    (ap agent_bytes (sym (get_or-below (map agent_of r.agents) i unused_agent (agent_of d) (rw length-map inside) ∙ get_or-map agent_of r.agents i d)))
