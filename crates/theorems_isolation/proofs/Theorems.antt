-- The claims about two networks alike in one agent. A list of calls leaves what its tries leave, so what holds of tries holds of calls; and where all
-- bans that name the agent are alike, those with agents above it are.
use Rattle.std.proofs.Common.{inr, ℕ}
use Rattle.model_network.specs.Network.{Network}
use Rattle.theorems_network.specs.Calls.{tried_by_all}
use Rattle.theorems_network.proofs.Replay.{calls-replay}
use Rattle.theorems_network.specs.Deeds.{handed_in, posts_in}
use Rattle.theorems_isolation.specs.Tenants.{Naming, NamingAbove, Alike}
use Rattle.theorems_isolation.specs.Claims.{ActsAlike, AnsweredAlike}
use Rattle.theorems_isolation.proofs.Acting.{same-record, same-posts}
use Rattle.theorems_isolation.proofs.Answering.{same_answer}

-- Handed the same, it has the same record and has sent the same.
pub acts-alike : ActsAlike NamingAbove
unfolding handed_in posts_in
acts-alike j w v A calls others h =
    record {
      agent = rw (calls-replay calls w, calls-replay others v) (same-record A (tried_by_all calls w) (tried_by_all others v) h);
      sent = same-posts A (tried_by_all calls w) (tried_by_all others v) h;
    }

-- Shape, verdict and room the same, its next message is answered the same.
pub answered-alike : AnsweredAlike NamingAbove
answered-alike = same_answer

-- ---- all the bans that name the agent

above-alike : {j : ℕ} {w v : Network} → Alike Naming j w v → Alike NamingAbove j w v
above-alike A = record { rule = A.rule; agent = A.agent; domain = A.domain; bans = λ i k x y e. A.bans i k x y (inr e) }

pub named-acts-alike : ActsAlike Naming
named-acts-alike j w v A = acts-alike j w v (above-alike A)

pub named-answered-alike : AnsweredAlike Naming
named-answered-alike j w v A = answered-alike j w v (above-alike A)
