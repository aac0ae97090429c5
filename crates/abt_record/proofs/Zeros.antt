-- The record with nothing but zeros stands for the empty network: no mask has a bit, no word a digit, no channel a message.
use Rattle.std.proofs.Common.{None, ℕ, zero, suc, ◌≡◌, refl, ap, ◌∙◌, false, List, [], map, get_or, replicate}
use mathlib.Core.Path.{fun_ext}
use Rattle.model_base.specs.Finite.{from_one}
use Rattle.model_base.proofs.Tests.{test}
use Rattle.model_base.proofs.Arrays.{get_or-same, map-replicate}
use Rattle.model_base.proofs.Bits.{bit-of-zero}
use Rattle.model_sheet.specs.Problem.{max_agents, max_pairs, no_bans, empty_problem}
use Rattle.model_agent.specs.Message.{nobody}
use Rattle.model_agent.specs.Traffic.{Sort, Infos, Backs, AddLinks, no_counts}
use Rattle.model_agent.specs.Agent.{Agent as Agent', unused_agent, no_nogoods}
use Rattle.model_network.specs.Network.{empty_network}
use Rattle.model_base.specs.Sets.{members}
use Rattle.abt_choosing.specs.Choosing.{nogood_at}
use Rattle.abt_agent.specs.Abstract.{assigned, count_of, none_counted, agent_of, counts_of}
use Rattle.abt_packed.proofs.Digits.{nobody-assigned}
use Rattle.abt_record.specs.Abstract.{is_channel, ring, row_of, channel_of, problem_of, agents_of, network_of}
use Rattle.abt_record.specs.Empty.{empty_agent, empty_record}
use Rattle.abt_packed.proofs.Sets.{no-members}

no-nogoods : (v : ℕ) → from_one None (nogood_at 0 (replicate 8 0)) v ≡ None
unfolding from_one nogood_at
no-nogoods zero = refl
no-nogoods (suc v) = rw (bit-of-zero v, nogood_at)

no-counts : (x : Sort) → count_of none_counted x ≡ 0
unfolding count_of
no-counts Infos = refl
no-counts Backs = refl
no-counts AddLinks = refl

zero-agent : agent_of empty_agent ≡ unused_agent
unfolding empty_agent agent_of unused_agent no_nogoods assigned counts_of no_counts
zero-agent =
    λ i.
    record {
      value = 0;
      last = 0;
      listens = fun_ext {f = members 0} {g = λ k. false} no-members i;
      informs = fun_ext {f = members 0} {g = λ k. false} no-members i;
      view = nobody-assigned i;
      nogoods = fun_ext no-nogoods i;
      counts = record { sent = fun_ext no-counts i; received = fun_ext no-counts i };
    }

zero-agents : (k : ℕ) → agents_of (map agent_of (replicate 12 empty_agent)) k ≡ unused_agent
unfolding agents_of from_one
zero-agents zero = refl
zero-agents (suc k) =
    ap (λ (l : List Agent'). get_or l k unused_agent) (map-replicate agent_of 12 empty_agent)
    ∙ ap (λ (a : Agent'). get_or (replicate 12 a) k unused_agent) zero-agent
    ∙ get_or-same 12 unused_agent k

pub zero_row : (n i j : ℕ) → row_of (replicate n 0) i j ≡ 0
unfolding row_of from_one nobody
zero_row n zero j = rw nobody-assigned
zero_row n (suc i) j = rw (get_or-same {A = ℕ} n 0 i, nobody-assigned)

zero-channel : (i j : ℕ) → channel_of empty_record i j ≡ []
unfolding empty_record channel_of ring
zero-channel i j = rw (zero_row 12 i j)

zero-channels : (i j : ℕ) → (network_of empty_record).channel i j ≡ []
unfolding network_of
zero-channels i j =
    test (is_channel i j)
    (λ t. rw (t, network_of) (zero-channel i j))
    (λ t. rw (t, network_of))

pub record-empty : network_of empty_record ≡ empty_network
unfolding empty_record network_of problem_of empty_network empty_problem no_bans max_agents max_pairs
record-empty =
    λ i.
    record {
      problem = empty_problem;
      rule = 0;
      unsolvable = false;
      agents = fun_ext zero-agents i;
      channel = fun_ext (λ x. fun_ext (zero-channels x)) i;
    }
