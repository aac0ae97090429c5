-- The start, agent by agent: with the first m agents begun it is the start of a problem of those, and each further agent's step is put into it.
-- The agents' first steps do not depend on each other, so the order does not matter.
use Rattle.std.proofs.Common.{◌≡◌, refl, sym, ap, ◌∙◌, ◌≢◌, Bool, true, false, not, ◌&&◌, ◌||◌, List, [], ℕ, suc, arith, leb, eq-eqb, ne_eqb, le-leb, leb-true, leb-false}
use mathlib.Core.Path.{fun_ext}
use borrow.Author.Tests.{lt-leb}
use Rattle.model_base.specs.Finite.{at, within, all_to}
use Rattle.model_base.proofs.Tests.{test, eq_test, to-within, not_within}
use Rattle.model_base.proofs.Search.{at_same, at_other}
use Rattle.model_sheet.specs.Problem.{Problem}
use Rattle.model_agent.specs.Message.{Message, sent_to}
use Rattle.model_agent.specs.Agent.{Agent, unused_agent}
use Rattle.model_network.specs.Network.{Network as Network', empty_network, posted, with_step, begun, start_agent, start_channel, start}
use Rattle.abt_record.specs.Abstract.{problem_of, channel_of, network_of}
use Rattle.abt_record.proofs.Zeros.{record-empty}
use Rattle.abt_start.specs.Started.{unbegun}
use Rattle.abt_start.proofs.Posting.{Silent}

-- the first m agents have begun
opened_agent : ℕ → Problem → ℕ → ℕ → Agent
opened_agent rule p m i = elim (within m i) [ true ↦ (begun rule p i).agent | false ↦ unused_agent ]

opened_channel : ℕ → Problem → ℕ → ℕ → ℕ → List Message
opened_channel rule p m i j = elim (within m i) [ true ↦ sent_to j (begun rule p i).sent | false ↦ [] ]

pub opened : ℕ → Problem → ℕ → Network'
opened rule p m =
    record {
      problem = p;
      rule = rule;
      unsolvable = not (all_to m (λ i. not (begun rule p i).unsolvable));
      agents = opened_agent rule p m;
      channel = opened_channel rule p m;
    }

pub all-opened : (rule : ℕ) (p : Problem) → opened rule p p.count ≡ start rule p
unfolding opened opened_agent opened_channel start start_agent start_channel
all-opened rule p = refl

-- one that has not
waits-agent : (rule : ℕ) (p : Problem) (m i : ℕ) → within m i ≡ false → opened_agent rule p m i ≡ unused_agent
unfolding opened_agent
waits-agent rule p m i e = rw (e, opened_agent)

waits-channel : (rule : ℕ) (p : Problem) (m i j : ℕ) → within m i ≡ false → opened_channel rule p m i j ≡ []
unfolding opened_channel
waits-channel rule p m i j e = rw (e, opened_channel)

-- ---- nobody has begun

pub none-opened : (rule : ℕ) (p : Problem) → network_of (unbegun rule p.count p.domains p.bans) ≡ opened rule p 0
unfolding unbegun network_of channel_of problem_of empty_network opened all_to
none-opened rule p = λ k. record {
  problem = p;
  rule = rule;
  unsolvable = ap (λ (w : Network'). w.unsolvable) record-empty k;
  agents =
      (ap (λ (w : Network'). w.agents) record-empty ∙ sym (fun_ext (λ i. waits-agent rule p 0 i (not_within 0 i (λ l h. omega arith))))) k;
  channel =
      (ap (λ (w : Network'). w.channel) record-empty
      ∙ sym (fun_ext (λ i. fun_ext (λ j. waits-channel rule p 0 i j (not_within 0 i (λ l h. omega arith)))))) k;
}

-- ---- one more

within_more : (m i : ℕ) → i ≢ suc m → within (suc m) i ≡ within m i
unfolding within
within_more m i n =
    test (leb i m)
    (λ t. rw (t, le-leb i (suc m) (omega (arith, leb-true i m t))))
    (λ t. rw (t, lt-leb i (suc m) (omega (arith, leb-false i m t))))

fell : (v r : Bool) → not (not v && r) ≡ not r || v
fell true true = refl
fell true false = refl
fell false true = refl
fell false false = refl

pub silent-next : (rule : ℕ) (p : Problem) (m : ℕ) → Silent (opened rule p m) (suc m)
unfolding opened
silent-next rule p m j = waits-channel rule p m (suc m) j (not_within m (suc m) (λ l h. omega arith))

module _ (rule : ℕ) (p : Problem) (m : ℕ) where
  last_within : (i : ℕ) → i ≡ suc m → within (suc m) i ≡ true
  last_within i q = to-within (suc m) i (omega arith) (omega arith)

  agents-next : (i : ℕ) → opened_agent rule p (suc m) i ≡ at (opened_agent rule p m) (suc m) (begun rule p (suc m)).agent i
  unfolding opened_agent
  agents-next i =
      eq_test i (suc m)
      (λ q. rw (last_within i q, opened_agent) (rw (q, at_same (opened_agent rule p m) (suc m) (begun rule p (suc m)).agent)))
      (λ q. rw (at_other (opened_agent rule p m) (suc m) (begun rule p (suc m)).agent i q, within_more m i q, opened_agent))

  channels-next : (i j : ℕ) → opened_channel rule p (suc m) i j ≡ posted (suc m) (begun rule p (suc m)).sent (opened_channel rule p m) i j
  unfolding opened_channel posted opened
  channels-next i j =
      eq_test i (suc m)
      (λ q. rw (last_within i q, eq-eqb i (suc m) q, opened_channel, posted) (rw (q, silent-next rule p m j)))
      (λ q. rw (ne_eqb i (suc m) q, posted, within_more m i q, opened_channel))

  pub opened-next : opened rule p (suc m) ≡ with_step (opened rule p m) (suc m) (begun rule p (suc m))
  unfolding opened with_step all_to
  opened-next = λ i. record {
    problem = p;
    rule = rule;
    unsolvable = fell (begun rule p (suc m)).unsolvable (all_to m (λ i. not (begun rule p i).unsolvable)) i;
    agents = fun_ext agents-next i;
    channel = fun_ext (λ x. fun_ext (channels-next x)) i;
  }
