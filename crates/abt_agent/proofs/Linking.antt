-- A record that informs one agent more means the agent that does, and leaves an Info to that agent to do.
use Rattle.std.proofs.Common.{ℕ, ◌≡◌, true, List}
use Rattle.model_base.specs.Finite.{at}
use Rattle.model_base.proofs.Search.{at_other}
use Rattle.model_base.proofs.Tests.{eq_test}
use Rattle.model_agent.specs.Message.{AddLink as AddLink'}
use Rattle.model_agent.specs.Receiving.{answer, informing, on_add_link}
use Rattle.model_base.specs.Sets.{members}
use Rattle.abt_choosing.specs.Conflicts.{self_of, bans_in}
use Rattle.abt_choosing.specs.declared.AgentConfig.{AgentConfig}
use Rattle.abt_agent.specs.Abstract.{agent_of}
use Rattle.abt_agent.specs.Parts.{agent_in, Handed, Takes}
use Rattle.abt_agent.specs.declared.State.{State}
use Rattle.abt_agent.specs.declared.Reaction.TheVariants.{Tell}
use Rattle.abt_agent.proofs.Fits.{fits-sound}
use Rattle.abt_agent.proofs.Steps.{takes-answer}

pub takes-link : (own : AgentConfig) (bans : List ℕ) (s : State) (nogoods : List ℕ) (m told from : ℕ) → Handed own bans s nogoods from AddLink'
    → members m ≡ at (members s.informs) from true → members told ≡ at (members 0) from true
    → Takes own (bans_in bans) (record s { informs = m }) (Tell told) nogoods
    (on_add_link (agent_in s nogoods) from)
unfolding on_add_link informing agent_of self_of answer
takes-link own bans s nogoods m told from h e f =
    let sound = fits-sound own s nogoods h.places h.agent in
    rw (← e)
    (takes-answer own (bans_in bans) (record s { informs = m }) nogoods told from h.message.0 h.message.1 f
    (record {
      places = sound.places;
      coherent = sound.coherent;
      downward = λ k lo hi t.
          eq_test k from
          (λ q. rw q h.message)
          (λ n. sound.downward k lo hi (rw (e, at_other (members s.informs) from true k n) at t));
    })
    h.conflicts_of)
