-- Asking a value: the tests of the definition, one by one, and the value of an agent in the code's array.
use Rattle.std.proofs.Common.{◌≡◌, sym, ap, true, false, ◌&&◌, ℕ, ◌+◌, ◌-◌, ◌≤◌, arith, length, get_or}
use Rattle.model_base.specs.Finite.{within, all_to}
use Rattle.model_base.proofs.Tests.{both}
use Rattle.model_sheet.specs.Problem.{max_agents, in_range}
use Rattle.model_sheet.proofs.Range.{ranged}
use Rattle.model_agent.specs.Agent.{Agent as Agent'}
use Rattle.model_network.specs.Network.{Network as Network', is_rule}
use Rattle.model_network.specs.Shape.{agent_in_shape, channel_in_shape, in_shape}
use Rattle.model_network.specs.Delivery.{BadShape, BadNumbers, Rejected, Accepted, ask_value}
use Rattle.abt_agent.specs.declared.Agent.{Agent}
use Rattle.abt_agent.specs.Abstract.{agent_of}
use Rattle.abt_record.specs.Abstract.{network_of}
use Rattle.abt_record.specs.declared.Network.{Network}
use Rattle.abt_record.proofs.Agents.{agent-at}

module _ (w : Network') (i : ℕ) where
  pub ask-broken : in_shape w ≡ false → ask_value w i ≡ record { answer = Rejected BadShape; value = 0 }
  unfolding ask_value
  ask-broken e = rw (e, ask_value)

  pub ask-nobody : in_shape w ≡ true → within w.problem.count i ≡ false → ask_value w i ≡ record { answer = Rejected BadNumbers; value = 0 }
  unfolding ask_value
  ask-nobody e f = rw (e, ask_value) (rw f)

  pub ask-agent : in_shape w ≡ true → within w.problem.count i ≡ true → ask_value w i ≡ record { answer = Accepted; value = (w.agents i).value }
  unfolding ask_value
  ask-agent e f = rw (e, ask_value) (rw f)

pub shape-count : (w : Network') → in_shape w ≡ true → w.problem.count ≤ 12
unfolding in_shape max_agents
shape-count w e =
    let a = both (in_range w.problem && is_rule w.rule && all_to 12 (agent_in_shape w)) (all_to 12 (λ i. all_to 12 (λ j. channel_in_shape w i j))) e in
    let b = both (in_range w.problem && is_rule w.rule) (all_to 12 (agent_in_shape w)) a.0 in
    (ranged w.problem (both (in_range w.problem) (is_rule w.rule) b.0).0).high

pub value-at : (r : Network) (i : ℕ) (d : Agent) → length r.agents ≡ 12 → 1 ≤ i → i ≤ 12
    → (get_or r.agents (i - 1) d).value ≡ ((network_of r).agents i).value
unfolding agent_of
value-at r i d n l h =
    let e : i - 1 + 1 ≡ i = omega arith in
    sym (ap (λ (a : Agent'). a.value) (rw e at (agent-at r (i - 1) d n (omega arith))))
