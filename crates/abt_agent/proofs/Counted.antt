-- A step with its messages counted, from the step of the agent taken apart, which has no counts.
use Rattle.std.proofs.Common.{ℕ, ◌^◌, ◌<◌, Bool, true, ◌≡◌, refl, sym, ap, ap₂, ◌∙◌, List, [], ◌∷◌, arith}
use mathlib.Core.Path.{fun_ext}
use Rattle.model_agent.specs.Message.{Message as Message'}
use Rattle.model_agent.specs.Traffic.{Sort, Infos, Backs, AddLinks, Traffic as Traffic', number, messages_in, top, counting}
use Rattle.model_agent.proofs.Traffic.{raised-none}
use Rattle.model_agent.specs.Agent.{Bans, with_counts}
use Rattle.model_agent.specs.Receiving.{react, counted, receive}
use Rattle.abt_choosing.specs.Conflicts.{self_of}
use Rattle.abt_choosing.specs.declared.Conflicts.{Conflicts}
use Rattle.abt_choosing.specs.declared.AgentConfig.{AgentConfig}
use Rattle.abt_agent.specs.Abstract.{none_counted, count_of, counts_of, agent_of}
use Rattle.abt_agent.specs.Posting.{posts_left, step_of}
use Rattle.abt_agent.specs.Entries.{StepsAs, Raised}
use Rattle.abt_agent.specs.Parts.{apart, agent_in, posts_of, step_with, step_whole, tells_to, stays_with, seen_by}
use Rattle.abt_agent.specs.declared.Agent.{Agent}
use Rattle.abt_agent.specs.declared.Traffic.{Traffic}
use Rattle.abt_agent.specs.declared.State.{State}
use Rattle.abt_agent.specs.declared.backing.Done.{Done}
use Rattle.abt_agent.proofs.Steps.{tells-nobody}
use Rattle.abt_agent.proofs.Uncounted.{receives}

module _ (own : AgentConfig) (bans : Bans) (a : Agent) (b : Conflicts) (from : ℕ) (m : Message') (d : Done) (nogoods backs : List ℕ) (sent received : Traffic)
    (posted : Raised a.sent (messages_in (posts_left (posts_of d) backs)) sent) (got : Raised a.received (m ∷ []) received) where
  counts : counts_of sent received ≡ counting (agent_of a).counts (m ∷ []) (posts_left (posts_of d) backs)
  unfolding counts_of counting agent_of
  counts = ap₂ (λ (f g : Sort → ℕ). record { sent = f; received = g }) (fun_ext λ x. posted x) (fun_ext λ x. got x)

  pub steps-counted : (still : Bool) → StepsAs own bans (step_with d nogoods backs) (react (self_of own) bans (agent_in (apart a b) a.nogoods) from m)
      → StepsAs own bans (step_whole d nogoods backs sent received still) (receive (self_of own) bans (agent_of a) from m)
  unfolding step_of agent_of counted
  steps-counted still s =
      let resolvent = receives (self_of own) bans (counts_of none_counted none_counted) (agent_of a) from m in
      record {
        step =
            ap (λ (c : Traffic'). record {
              agent = with_counts (agent_in d.state nogoods) c;
              sent = posts_left (posts_of d) backs;
              unsolvable = d.unsolvable;
            }) counts
            ∙ ap (counted (agent_of a) (m ∷ [])) s.step
            ∙ sym resolvent;
        ready = s.ready;
        others = rw resolvent s.others;
        conflicts_of = s.conflicts_of;
      }

-- no message leaves the counts as they are
unraised : (c : Traffic) → c.infos < 2 ^ 64 → c.backs < 2 ^ 64 → c.links < 2 ^ 64 → Raised c [] c
unfolding count_of number top
unraised c i b l Infos = sym (raised-none c.infos (omega (arith, i)))
unraised c i b l Backs = sym (raised-none c.backs (omega (arith, b)))
unraised c i b l AddLinks = sym (raised-none c.links (omega (arith, l)))

-- .. so a still step has no other counts than those of what was handed over
pub steps-still : (own : AgentConfig) (bans : Bans) (a : Agent) (b : Conflicts) (from : ℕ) (m : Message') (s : State) (backs : List ℕ) (received : Traffic)
    → a.sent.infos < 2 ^ 64 → a.sent.backs < 2 ^ 64 → a.sent.links < 2 ^ 64 → Raised a.received (m ∷ []) received → s ≡ seen_by (apart a b) s
    → StepsAs own bans (step_with (tells_to s 0) a.nogoods backs) (react (self_of own) bans (agent_in (apart a b) a.nogoods) from m)
    → StepsAs own bans (stays_with a s received backs) (receive (self_of own) bans (agent_of a) from m)
unfolding messages_in
steps-still own bans a b from m s backs received i k l got e settled =
    rw same
    (steps-counted own bans a b from m (tells_to s 0) a.nogoods backs a.sent received
    (rw (tells-nobody s backs) (unraised a.sent i k l)) got true settled)
  where
    same : stays_with a s received backs ≡ step_whole (tells_to s 0) a.nogoods backs a.sent received true
    same =
        rw (ap (λ (x : State). x.value) e, ap (λ (x : State). x.last) e, ap (λ (x : State). x.listens) e, ap (λ (x : State). x.informs) e)
        refl
