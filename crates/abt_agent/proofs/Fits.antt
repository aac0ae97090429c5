-- A record in shape is coherent, and names agents in sixteen bits.
use Rattle.std.proofs.Common.{ℕ, zero, suc, ◌^◌, ◌<◌, ◌≤◌, ◌≡◌, sym, ◌∙◌, true, List, arith, leb, length, leb-true, leb-false}
use mathlib.Core.Bool.{false≢true}
use Rattle.model_base.specs.Finite.{from_one}
use Rattle.model_base.proofs.Bits.{bit-above}
use Rattle.model_base.proofs.Tests.{test, within-true}
use Rattle.model_sheet.specs.Problem.{max_domain}
use Rattle.model_agent.specs.Agent.{Agent as Agent'}
use Rattle.model_agent.specs.Shape.{RecordFits, any_value}
use Rattle.model_base.specs.Sets.{members}
use Rattle.abt_choosing.specs.Conflicts.{self_of}
use Rattle.abt_choosing.specs.Choosing.{nogoods_of, Coherent}
use Rattle.abt_choosing.specs.declared.AgentConfig.{AgentConfig}
use Rattle.abt_agent.specs.Abstract.{assigned, agent_of}
use Rattle.abt_agent.specs.Parts.{agent_in, Sound}
use Rattle.abt_agent.specs.declared.State.{State}

-- a set in sixteen bits names the agents 1 to 16
pub member-range : (m k : ℕ) → m < 2 ^ 16 → members m k ≡ true → k ≤ 16
unfolding members from_one
member-range m zero h e = omega arith
member-range m (suc k) h e =
    test (leb (suc k) 16)
    (λ t. leb-true (suc k) 16 t)
    (λ t. absurd (false≢true (sym (bit-above 16 m k h (omega (arith, leb-false (suc k) 16 t))) ∙ e)))

fits-coherent : (own : AgentConfig) (a : Agent') → RecordFits any_value (self_of own) a → Coherent own a.view a.nogoods
unfolding any_value self_of
fits-coherent own a f =
    record {
      viewed = λ k lo hi e.
          let v = f.viewed k lo hi e in
          (f.upward k lo hi v.0, (within-true max_domain (a.view k) v.1).1);
      agreed = λ v lhs lo hi e. (f.agreed v lhs lo hi e).1;
    }

pub fits-sound : (own : AgentConfig) (s : State) (nogoods : List ℕ) → length nogoods ≡ 8 → RecordFits any_value (self_of own) (agent_in s nogoods)
    → Sound own s nogoods
unfolding agent_of assigned nogoods_of self_of
fits-sound own s nogoods places f =
    record { places = places; coherent = fits-coherent own (agent_in s nogoods) f; downward = f.downward }
