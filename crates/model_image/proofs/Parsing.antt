-- Parsing the image of a plain network in shape gives that network.
-- Part by part: the problem, the rule and the verdict, each agent, each line.
use Rattle.std.proofs.Common.{ℕ, pred, ◌+◌, ◌-◌, ◌*◌, ◌≤◌, ◌≡◌, refl, sym, ap, ◌∙◌, Bool, true, false, ◌&&◌, List, [], ◌∷◌, arith, length, drop, eqb}
use mathlib.Core.Path.{fun_ext}
use Rattle.model_base.specs.Finite.{within, all_to}
use Rattle.model_base.specs.Lists.{All}
use Rattle.model_base.proofs.Tests.{test, both, within-true, to-within, above_within}
use Rattle.model_base.proofs.Search.{all_to-at}
use Rattle.model_base.proofs.Lists.{gather-all}
use Rattle.model_sheet.specs.Problem.{max_agents, in_range}
use Rattle.model_sheet.proofs.Range.{Ranged, ranged}
use Rattle.model_agent.specs.Message.{Message}
use Rattle.model_network.specs.Lines.{is_channel}
use Rattle.model_network.specs.Network.{Network, is_rule}
use Rattle.model_network.specs.Shape.{capacity, agent_in_shape, channel_in_shape, in_shape}
use Rattle.model_image.specs.Bytes.{stretch}
use Rattle.model_image.specs.Image.{byte_for, header_bytes, agent_bytes, all_lines, image}
use Rattle.model_image.specs.Reading.{agent_length, agents_start, heads_start, messages_start, lines_in, line_count, channel_in, agents_in, parse}
use Rattle.model_image.specs.Plain.{Plain}
use Rattle.model_image.proofs.Stretches.{stands_one, stands-stretch}
use Rattle.model_image.proofs.Lengths.{agent-length, lines-count, total}
use Rattle.model_image.proofs.Agents.{agent-back}
use Rattle.model_image.proofs.Sections.{sections}
use Rattle.model_image.proofs.Problems.{problem-back}
use Rattle.model_image.proofs.Messages.{HeldLine, lines-back}
use Rattle.model_image.proofs.Numbering.{line_at}
use Rattle.model_image.proofs.Holding.{agent-held, beyond-unused, line-held}

-- an agent's record in the image
pub agent-bytes : (w : Network) (i : ℕ) → within w.problem.count i ≡ true
    → stretch (agents_start + agent_length * pred i) agent_length (image w) ≡ agent_bytes (w.agents i)
agent-bytes w i e =
    let b = within-true w.problem.count i e in
    let q : i - 1 ≡ pred i = omega arith in
    stands-stretch agent_length (agent-length (w.agents i))
    (stands_one w.problem.count 1 i agent_length (λ i. agent_bytes (w.agents i)) (agents_start + agent_length * pred i)
    (λ j _ _. agent-length (w.agents j)) b.0 (omega arith) (rw q) (sections w).agents)

-- ---- the shape

pub record Parts (w : Network) : Type 0 where
  pub problem : Ranged w.problem
  pub agents : (i : ℕ) → within max_agents i ≡ true → agent_in_shape w i ≡ true
  pub channels : (i j : ℕ) → within max_agents i ≡ true → within max_agents j ≡ true → channel_in_shape w i j ≡ true

pub parts : (w : Network) → in_shape w ≡ true → Parts w
unfolding in_shape
parts w e =
    let channels = both _ (all_to max_agents (λ i. all_to max_agents (λ j. channel_in_shape w i j))) e in
    let agents = both (in_range w.problem && is_rule w.rule) (all_to max_agents (agent_in_shape w)) channels.0 in
    record {
      problem = ranged w.problem (both (in_range w.problem) (is_rule w.rule) agents.0).0;
      agents = λ i h. let b = within-true max_agents i h in all_to-at max_agents _ agents.1 i b.0 b.1;
      channels = λ i j h k.
          let b = within-true max_agents i h in
          let c = within-true max_agents j k in
          all_to-at max_agents _ (all_to-at max_agents _ channels.1 i b.0 b.1) j c.0 c.1;
    }

-- ---- the verdict

verdict-back : (b : Bool) → eqb (byte_for b) 1 ≡ b
unfolding byte_for
verdict-back true = refl
verdict-back false = refl

-- ---- the messages

total-most : (ls : List (List Message)) → All HeldLine ls → total ls ≤ capacity * length ls
unfolding total
total-most [] h = omega arith
total-most (l ∷ ls) h = omega (arith, h.0.few, total-most ls h.1)

-- what holds of each line holds of all
pub all_lines_lem : (w : Network) (P : List Message → Type 0)
    → ((i j : ℕ) → within max_agents i ≡ true → within max_agents j ≡ true → P (w.channel i j)) → All P (all_lines w)
unfolding all_lines
all_lines_lem w P h =
    gather-all P _ max_agents 1
    (λ i a b. gather-all P _ max_agents 1
    (λ j c d. test (eqb i j)
    (λ e. rw e tt)
    (λ e. rw e (h i j (to-within _ i a (omega arith)) (to-within _ j c (omega arith)), tt))))

module _ (w : Network) (plain : Plain w) (p : Parts w) where
  agents-back : (i : ℕ) → agents_in w.problem.count (image w) i ≡ w.agents i
  unfolding agents_in
  agents-back i =
      test (within n i)
      (λ e. let b = within-true n i e in
      rw (e, agent-bytes w i e)
      (agent-back (w.agents i) (agent-held w i (omega (arith, p.problem.high)) p.problem.high (plain.agents i)
      (p.agents i (to-within max_agents i b.0 (omega (arith, p.problem.high)))) b.1)))
      (λ e. rw e (test (within max_agents i)
      (λ u. sym (beyond-unused w i (plain.agents i) (p.agents i u) (above_within n i e (within-true max_agents i u).0)))
      (λ u. sym (plain.others i u))))
    where
      n : ℕ
      n = w.problem.count

  all_held : All HeldLine (all_lines w)
  all_held = all_lines_lem w HeldLine (λ i j a b. line-held w i j (within-true max_agents j b).1 (p.channels i j a b) (plain.messages i j))

  -- "at most eight messages" each of 132 lines
  pub few-wait : total (all_lines w) ≤ 1056
  unfolding line_count capacity
  few-wait = omega (arith, total-most (all_lines w) all_held, lines-count w)

  lines-read : lines_in line_count (drop (heads_start w.problem.count) (image w)) (drop (messages_start w.problem.count) (image w)) ≡ all_lines w
  unfolding line_count
  lines-read =
      let h = (sections w).heads in
      let m = (sections w).messages in
      rw (h.is, m.is, ← lines-count w)
      (lines-back 0 (all_lines w) h.rest m.rest (omega (arith, few-wait)) all_held)

  channel-back : (i j : ℕ) → channel_in (all_lines w) i j ≡ w.channel i j
  unfolding channel_in
  channel-back i j = test (is_channel i j) (λ e. rw e (line_at w i j e)) (λ e. rw e (sym (plain.channels i j e)))

pub parse-image : (w : Network) → Plain w → in_shape w ≡ true → parse (image w) ≡ w
unfolding parse image header_bytes
parse-image w plain e =
    let p = parts w e in
    λ i.
    record {
      problem = problem-back w p.problem i;
      rule = w.rule;
      unsolvable = verdict-back w.unsolvable i;
      agents = fun_ext (agents-back w plain p) i;
      channel = (ap channel_in (lines-read w plain p) ∙ fun_ext λ x. fun_ext λ y. channel-back w plain p x y) i;
    }
