-- What bytes give that are the image of what they give is plain.
-- Slots name agents 1 to 12 whatever the bytes; a mask does where it is one that was written.
use Rattle.std.proofs.Common.{ℕ, zero, suc, pred, ◌+◌, ◌*◌, ◌≡◌, refl, sym, ap, ◌∙◌, true, false, List, [], arith, get_or, drop, eqb}
use mathlib.Core.Bool.{false≢true}
use Rattle.model_base.specs.Finite.{within}
use Rattle.model_base.specs.Lists.{All}
use Rattle.model_base.proofs.Tests.{test, within-true, to-within, not_within, above_within}
use Rattle.model_sheet.specs.Problem.{max_agents, max_domain}
use Rattle.model_agent.specs.Message.{nobody}
use Rattle.model_agent.specs.Agent.{Agent, no_nogoods, unused_agent}
use Rattle.model_agent.specs.Shape.{max_named}
use Rattle.model_agent.specs.Plain.{PlainLhs, PlainReason, PlainAgent, PlainMessage}
use Rattle.model_base.specs.Sets.{members}
use Rattle.model_network.specs.Lines.{is_channel, channel_at}
use Rattle.model_network.specs.Shape.{capacity}
use Rattle.model_image.specs.Bytes.{number_in, stretch}
use Rattle.model_image.specs.Image.{agent_bytes, image}
use Rattle.model_image.specs.Reading.{
  message_length,
  slots_in,
  reason_in,
  reasons_in,
  agent_in,
  message_in,
  next_in,
  chain_in,
  line_in,
  lines_in,
  channel_in,
  agent_length,
  agents_start,
  agents_in,
  problem_in,
  parse,
}
use Rattle.model_image.specs.Plain.{Plain}
use Rattle.model_image.proofs.Agents.{mask-only, placed}
use Rattle.model_image.proofs.Parsing.{Parts, agent-bytes}

wider : (k : ℕ) → within max_named k ≡ false → within max_agents k ≡ false
unfolding max_named max_agents
wider k e =
    test (within 12 k)
    (λ t. let b = within-true 12 k t in absurd (false≢true (sym e ∙ to-within 16 k b.0 (omega arith))))
    (λ t. t)

slots-plain : (s : List ℕ) → PlainLhs (slots_in s)
unfolding slots_in
slots-plain s k e = rw (wider k e)

-- ---- an agent

reason-plain : (s : List ℕ) → PlainReason (reason_in s)
unfolding reason_in
reason-plain s = test (eqb (get_or s 0 0) 1) (λ e. rw e (slots-plain (drop 1 s))) (λ e. rw e tt)

reasons-plain : (s : List ℕ) (v : ℕ) → PlainReason (reasons_in s v)
unfolding reasons_in
reasons-plain s v = test (within max_domain v) (λ e. rw e (reason-plain (stretch (13 * pred v) 13 s))) (λ e. rw e tt)

agent-plain : (a : Agent) → PlainAgent (agent_in (agent_bytes a))
unfolding agent_in reasons_in
agent-plain a =
    record {
      listens = λ k e. ap (λ (s : List ℕ). members (number_in s) k) (placed a).listens ∙ mask-only a.listens k (wider k e);
      informs = λ k e. ap (λ (s : List ℕ). members (number_in s) k) (placed a).informs ∙ mask-only a.informs k (wider k e);
      view = slots-plain _;
      nogoods = λ v e. rw e;
      reasons = reasons-plain _;
    }

pub unused-plain : PlainAgent unused_agent
unfolding unused_agent nobody no_nogoods
unused-plain =
    record { listens = λ k e. refl; informs = λ k e. refl; view = λ k e. refl; nogoods = λ v e. refl; reasons = λ v. tt }

-- ---- lines

message-plain : (s : List ℕ) → PlainMessage (message_in s)
unfolding message_in
message-plain s =
    test (eqb (get_or s 0 0) 1)
    (λ e. rw e tt)
    (λ e. rw e (test (eqb (get_or s 0 0) 2) (λ f. rw f (slots-plain (drop 4 s))) (λ f. rw f tt)))

chain-plain : (most : ℕ) (s : List ℕ) → All PlainMessage (chain_in most s)
unfolding chain_in
chain-plain zero s = tt
chain-plain (suc most) s =
    let rest = chain-plain most (drop message_length s) in
    (message-plain s, test (eqb (next_in s) 0) (λ e. rw e tt) (λ e. rw e rest))

line_plain : (head : ℕ) (s : List ℕ) → All PlainMessage (line_in head s)
unfolding line_in
line_plain head s = test (eqb head 0) (λ e. rw e tt) (λ e. rw e (chain-plain capacity s))

-- the line at any place, where there is none too
lines-plain : (count : ℕ) (heads s : List ℕ) (k : ℕ) → All PlainMessage (get_or (lines_in count heads s) k [])
unfolding lines_in
lines-plain zero heads s k = tt
lines-plain (suc count) heads s zero = line_plain _ s
lines-plain (suc count) heads s (suc k) = lines-plain count (drop 2 heads) _ k

-- ---- the whole

module _ (s : List ℕ) (same : image (parse s) ≡ s) (p : Parts (parse s)) where
  agents-plain : (i : ℕ) → PlainAgent ((parse s).agents i)
  unfolding parse problem_in agents_in
  agents-plain i =
      test (within (get_or s 1 0) i)
      (λ e. rw (e, written i e) (agent-plain ((parse s).agents i)))
      (λ e. rw e unused-plain)
    where
      written : (i : ℕ) → within (get_or s 1 0) i ≡ true
          → stretch (agents_start + agent_length * pred i) agent_length s ≡ agent_bytes ((parse s).agents i)
      written i e = ap (stretch (agents_start + agent_length * pred i) agent_length) (sym same) ∙ agent-bytes (parse s) i e

  none-beyond : (i : ℕ) → within max_agents i ≡ false → (parse s).agents i ≡ unused_agent
  unfolding parse problem_in agents_in
  none-beyond i e =
      rw (not_within (get_or s 1 0) i (λ l u. absurd (omega (arith, above_within max_agents i e l, p.problem.high))))

  pub parse_plain : Plain (parse s)
  unfolding parse channel_in
  parse_plain =
      record {
        agents = agents-plain;
        others = none-beyond;
        channels = λ i j e. rw e;
        messages = λ i j. test (is_channel i j) (λ e. rw e (lines-plain _ _ _ (channel_at i j))) (λ e. rw e tt);
      }
