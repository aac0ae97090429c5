-- The numbers of decoding, of the start and of a run: where the sheet is refused, and where it is not.
use Rattle.std.proofs.Common.{Ok, Err, ℕ, zero, suc, ◌+◌, ◌*◌, ◌%◌, ◌^◌, ◌≤◌, ◌<◌, ◌≡◌, refl, sym, ap, ◌∙◌, true, false, List, map, pow-suc, arith, length, get_or, eq-eqb, ne_eqb, lt-ltb, le-ltb}
use native.Mathlib.Nat.{pow-le-pow_right}
use lib.ListN.{length-map, get_or-map}
use Rattle.model_base.specs.Finite.{from_one}
use Rattle.model_base.proofs.Tests.{test}
use Rattle.model_base.proofs.Arrays.{get_or-below, get_d_past}
use Rattle.model_sheet.specs.Sheet.{Decoded, Valid, Invalid, decode}
use Rattle.model_agent.specs.Message.{nobody}
use Rattle.model_agent.specs.Agent.{Agent as Agent', unused_agent}
use Rattle.model_network.specs.Network.{Network as Network', Started, start_sheet}
use Rattle.model_network.specs.Run.{Ending as Ending', Unsolvable, Plan, Jammed, Open, Broken, run}
use Rattle.abt_packed.specs.Packed.{assignment}
use Rattle.abt_packed.proofs.Digits.{nobody-assigned}
use Rattle.abt_agent.specs.declared.Agent.{Agent}
use Rattle.abt_agent.specs.Abstract.{counts_of, agent_of}
use Rattle.support_rejection.specs.Rejections.{rejection_number}
use Rattle.support_rejection.specs.declared.Rejection.{Rejection}
use Rattle.support_rejection.proofs.Numbers.{refusal-some}
use Rattle.sheet_reader.specs.declared.Problem.{Problem}
use Rattle.sheet_reader.specs.Abstract.{problem_of, Outcome, outcome, outcome_of}
use Rattle.sheet_reader.proofs.Outcomes.{accepted}
use Rattle.abt_start.specs.Started.{StartsAs}
use Rattle.abt_record.specs.declared.Network.{Network}
use Rattle.abt_record.specs.Abstract.{is_channel, row_of, agents_of, network_of}
use Rattle.abt_shape.proofs.Numbering.{ends}
use Rattle.abt_record_laws.specs.Held.{held_at}
use Rattle.abt_record_laws.proofs.Changes.{channel-held}
use Rattle.abt_engine.specs.declared.Answer.{Answer}
use Rattle.abt_engine.specs.Answers.{ending_of}
use Rattle.abt.specs.Answers.{RunsAs}
use Rattle.bench_entry.specs.Giving.{word_for, WaitsFor, ending_digit, values_to, ran_for, settled_for, counts_mixed, counts_for}

-- ---- decoding

module _ (sheet : List ℕ) (word : ℕ) where
  pub fault-given : (e : Rejection) → outcome_of (Err e) ≡ outcome (decode sheet) → rejection_number e ≡ word_for (decode sheet) word
  unfolding outcome_of outcome word_for
  fault-given e o = go (decode sheet) o
    where
      go : (d : Decoded) → outcome_of (Err e) ≡ outcome d → rejection_number e ≡ word_for d word
      go (Valid p) o = absurd (refusal-some e (ap (λ (x : Outcome). x.number) o))
      go (Invalid f) o = ap (λ (x : Outcome). x.number) o

  pub word-given : (p : Problem) → outcome_of (Ok p) ≡ outcome (decode sheet) → get_or p.bans word 0 ≡ word_for (decode sheet) word
  unfolding word_for problem_of
  word-given p o = rw (accepted (decode sheet) p o)

  pub no-word-given : (p : Problem) → outcome_of (Ok p) ≡ outcome (decode sheet) → length p.bans ≤ word → 0 ≡ word_for (decode sheet) word
  no-word-given p o h = sym (get_d_past p.bans word 0 h) ∙ word-given p o

-- ---- the start

module _ (rule : ℕ) (sheet : List ℕ) (o : Network) (sender : ℕ) (s : StartsAs (start_sheet rule sheet) (Ok o)) where
  held : (j : ℕ) → held_at o.counts (suc sender) j ≡ length ((start_sheet rule sheet).network.channel (suc sender) j)
  held j = sym (channel-held o (suc sender) j) ∙ ap (λ (w : Network'). length (w.channel (suc sender) j)) s.network

  pub row-given : (r : ℕ) → ((j : ℕ) → assignment r j ≡ held_at o.counts (suc sender) j) → WaitsFor rule sheet sender r
  row-given r h = record { refused = λ n. absurd (n (sym s.number)); waits = λ _ j. h j ∙ held j }

-- a sender's row, less what is no channel's
pub row-held : (counts : List ℕ) (sender j : ℕ)
    → (elim (is_channel (suc sender) j) [ true ↦ assignment (get_or counts sender 0) j | false ↦ 0 ]) ≡ held_at counts (suc sender) j
unfolding held_at row_of from_one
row-held counts sender j = refl

-- there is no sender beyond the twelfth
pub none-held : (counts : List ℕ) (sender j : ℕ) → 12 ≤ sender → assignment 0 j ≡ held_at counts (suc sender) j
unfolding held_at nobody
none-held counts sender j h =
    test (is_channel (suc sender) j)
    (λ t. absurd (omega (arith, (ends (suc sender) j t).from-high)))
    (λ t. rw (t, held_at) (ap (λ (f : ℕ → ℕ). f j) nobody-assigned))

-- ---- a run

values-below : (k : ℕ) (w : Network') → values_to k w < 9 ^ k
unfolding values_to
values-below zero w = omega arith
values-below (suc k) w = rw pow-suc (omega (arith, values-below k w))

pub values-fit : (k : ℕ) (w : Network') → k ≤ 12 → values_to k w < 282429536481
values-fit k w h =
    let p : 9 ^ k ≤ 9 ^ 12 = pow-le-pow_right (omega arith) {i = k} {j = 12} h in
    omega (arith, values-below k w, p)

pub agent-at : (r : Network) (k : ℕ) (d : Agent) → k < length r.agents → agent_of (get_or r.agents k d) ≡ (network_of r).agents (suc k)
unfolding network_of agents_of from_one
agent-at r k d h = sym (get_or-below (map agent_of r.agents) k unused_agent (agent_of d) (simp length-map h) ∙ get_or-map agent_of r.agents k d)

value-at : (r : Network) (k : ℕ) (d : Agent) → k < length r.agents → (get_or r.agents k d).value ≡ ((network_of r).agents (suc k)).value
unfolding agent_of
value-at r k d h = ap (λ (a : Agent'). a.value) (agent-at r k d h)

pub one_value : (r : Network) (k values : ℕ) (d : Agent) → k < length r.agents → values ≡ values_to k (network_of r)
    → values * 9 + (get_or r.agents k d).value % 9 ≡ values_to (suc k) (network_of r)
unfolding values_to
one_value r k values d h e = rw (value-at r k d h, e)

pub digit-few : (e : Ending') → ending_digit e ≤ 5
unfolding ending_digit
digit-few Unsolvable = omega arith
digit-few Plan = omega arith
digit-few Jammed = omega arith
digit-few Open = omega arith
digit-few Broken = omega arith

pub refused-given : (s : Started) (rounds : ℕ) (e : Rejection) → StartsAs s (Err e) → 8 + rejection_number e ≡ settled_for s rounds
unfolding settled_for
refused-given s rounds e q = rw (q.number, ne_eqb s.number 0 (λ z. refusal-some e (q.number ∙ z)), settled_for)

pub run-given : (s : Started) (rounds : ℕ) (r : Network) (a : Answer) (values : ℕ) → StartsAs s (Ok r)
    → RunsAs r (run rounds (network_of r)) a → values ≡ values_to 12 (network_of a.network)
    → (values * 1048576 + a.rounds % 1048576) * 16 + ending_digit (ending_of a.ending) ≡ settled_for s rounds
unfolding settled_for ran_for
run-given s rounds r a values q x v =
    rw (eq-eqb s.number 0 (sym q.number), settled_for, v, x.network, x.rounds, x.ending, q.network)

-- ---- counts

module _ (s : Started) (rounds : ℕ) (r : Network) (a : Answer) (e : network_of r ≡ s.network) (x : RunsAs r (run rounds (network_of r)) a) (k : ℕ) where
  pub counts-given : (d : Agent) → k < length a.network.agents → k < 12
      → counts_mixed (counts_of (get_or a.network.agents k d).sent (get_or a.network.agents k d).received) ≡ counts_for s rounds k
  unfolding counts_for agent_of
  counts-given d h l =
      rw (lt-ltb k 12 l, counts_for)
      (ap (λ (b : Agent'). counts_mixed b.counts) (agent-at a.network k d h)
      ∙ ap (λ (w : Network'). counts_mixed (w.agents (suc k)).counts) (x.network ∙ ap (λ (w : Network'). (run rounds w).network) e))

  pub nobody-given : 12 ≤ k → 0 ≡ counts_for s rounds k
  unfolding counts_for
  nobody-given h = rw (le-ltb k 12 h, counts_for)
