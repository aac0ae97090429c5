-- The start as far as it has come in the code: m agents have begun, and every ring begins at its first place. One agent more begins.
use Rattle.std.proofs.Common.{◌≡◌, refl, sym, ap, ◌∙◌, true, false, ℕ, suc, ◌≤◌, ◌<◌, arith, length, replicate, length-set}
use mathlib.Core.Bool.{false≢true}
use lib.ListN.{length-replicate}
use Rattle.model_base.proofs.Tests.{test}
use Rattle.model_sheet.specs.Problem.{Problem}
use Rattle.model_network.specs.Network.{Network as Network', begun, with_step}
use Rattle.abt_agent.specs.declared.Agent.{Agent}
use Rattle.abt_agent.specs.Entries.{BeginsAs}
use Rattle.model_base.specs.Sets.{members}
use Rattle.abt_record.specs.declared.Network.{Network}
use Rattle.abt_record.specs.Abstract.{is_channel, no_place, channel_of, network_of}
use Rattle.abt_record.specs.Empty.{empty_agent, empty_record}
use Rattle.abt_shape.proofs.Numbering.{to-channel}
use Rattle.abt_start.specs.Started.{unbegun}
use Rattle.abt_start.proofs.Posting.{Silent, with_row}
use Rattle.abt_start.proofs.Telling.{Telling}
use Rattle.abt_start.proofs.Told.{all_told}
use Rattle.abt_start.proofs.Beginning.{with_agent, step-put}
use Rattle.abt_start.proofs.Opened.{opened, none-opened, silent-next, opened-next}

pub record Opening (rule : ℕ) (p : Problem) (m : ℕ) (r : Network) : Type 0 where
  pub network : network_of r ≡ opened rule p m
  pub heads : r.heads ≡ replicate 12 0
  pub agents : length r.agents ≡ 12
  pub counts : length r.counts ≡ 12
  pub places : length r.places ≡ 1056

-- nobody has begun: the problem and the rule, and what else the empty network has
pub none-begun : (rule : ℕ) (p : Problem) (e : Network) → e ≡ empty_record
    → Opening rule p 0 (record {
      count = p.count;
      rule = rule;
      domains = p.domains;
      bans = p.bans;
      unsolvable = e.unsolvable;
      agents = e.agents;
      heads = e.heads;
      counts = e.counts;
      places = e.places;
    })
unfolding unbegun empty_record
none-begun rule p e q =
    rw q
    (record {
      network = none-opened rule p;
      heads = refl;
      agents = length-replicate 12 empty_agent;
      counts = length-replicate {A = ℕ} 12 0;
      places = length-replicate 1056 no_place;
    })

-- an agent below is at the other end of a channel
pub told-channel : (m j : ℕ) → m < 12 → (suc m < j) × (j ≤ 12) → is_channel (suc m) j ≡ true
told-channel m j h b = to-channel (suc m) j (omega arith) h (omega arith) b.1 (λ q. omega arith)

module _ (rule : ℕ) (p : Problem) (m : ℕ) (r : Network) (O : Opening rule p m r) (h : m < 12) (a : Agent) (step : BeginsAs a (begun rule p (suc m)))
    (below : (j : ℕ) → members a.informs j ≡ true → (suc m < j) × (j ≤ 12)) where
  -- its record put in
  abbrev begins : Network
  begins = with_agent r m a

  no-others : (j : ℕ) → is_channel (suc m) j ≡ false → 1 ≤ j → j ≤ 12 → members a.informs j ≡ false
  no-others j e l u =
      test (members a.informs j)
      (λ f. absurd (false≢true (sym e ∙ told-channel m j h (below j f))))
      (λ f. f)

  silent : Silent (network_of begins) (suc m)
  unfolding network_of channel_of
  silent j = ap (λ (w : Network'). w.channel (suc m) j) O.network ∙ silent-next rule p m j

  module _ (q : Network) (row told : ℕ) (T : Telling (suc m) a.value a.informs begins q row told) (done : told ≡ 0) where
    reached : network_of (with_row q m row) ≡ opened rule p (suc m)
    reached =
        all_told m a.value a.informs begins q row told T done no-others (omega (arith, O.counts)) O.heads silent
        ∙ step-put r m a (begun rule p (suc m)) step (omega (arith, O.agents))
        ∙ ap (λ (w : Network'). with_step w (suc m) (begun rule p (suc m))) O.network
        ∙ sym (opened-next rule p m)

    pub one_more : Opening rule p (suc m) (with_row q m row)
    one_more =
        record {
          network = reached;
          heads = ap (λ (n : Network). n.heads) T.same ∙ O.heads;
          agents = ap (λ (n : Network). length n.agents) T.same ∙ simp length-set O.agents;
          counts = simp length-set (ap (λ (n : Network). length n.counts) T.same ∙ O.counts);
          places = T.size;
        }
