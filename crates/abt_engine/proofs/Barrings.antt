-- What the agents' views bar, kept in an array beside them where it was worked out; stored for one agent.
use Rattle.std.proofs.Common.{ℕ, pred, ◌-◌, ◌≤◌, ◌≡◌, List, [], arith, length, get_or, set, get_or-set_same, get_or-set_other, Option, None, Some, IfSome}
use Rattle.model_base.proofs.Tests.{eq_test}
use Rattle.model_sheet.specs.Problem.{pairs_before}
use Rattle.abt_choosing.specs.Conflicts.{bans_in, ConflictsOf}
use Rattle.abt_choosing.specs.declared.Conflicts.{Conflicts}
use Rattle.abt_agent.specs.declared.Agent.{Agent}
use Rattle.abt_agent.specs.Abstract.{assigned, none_counted}
use Rattle.abt_record_laws.proofs.Words.{part}

-- what an array past its end has
abbrev pub no_agent : Agent
no_agent =
    record {
      value = 0;
      last = 0;
      nogood_mask = 0;
      listens = 0;
      informs = 0;
      view = record { digits = 0 };
      nogoods = [];
      sent = none_counted;
      received = none_counted;
    }

-- what agent i's view bars stands in its bars, where it was worked out
abbrev pub BarsAt : List ℕ → List Agent → List (Option Conflicts) → ℕ → Type 0
BarsAt bans agents bars i =
    IfSome (get_or bars (i - 1) None)
    (λ b. ConflictsOf (bans_in (part bans (pairs_before (pred i)) i)) (assigned (get_or agents (i - 1) no_agent).view) b)

-- .. for every agent
abbrev pub Barred : List ℕ → List Agent → List (Option Conflicts) → Type 0
Barred bans agents bars = (i : ℕ) → 1 ≤ i → i ≤ 12 → BarsAt bans agents bars i

-- what an agent's view bars, where so many words of bans come before its own, as the code lends them
abbrev pub BarsOf : List ℕ → ℕ → ℕ → Agent → Conflicts → Type 0
BarsOf bans j a agent b = ConflictsOf (bans_in (part bans a j)) (assigned agent.view) b

module _ (bans : List ℕ) (j a : ℕ) (lo : 1 ≤ j) (hi : j ≤ 12) (e : a ≡ pairs_before (pred j)) where
  -- those of agent j that were worked out
  pub bars-had : (agents : List Agent) (bars : List (Option Conflicts)) → Barred bans agents bars → (b : Conflicts) → get_or bars (j - 1) None ≡ Some b
      → BarsOf bans j a (get_or agents (j - 1) no_agent) b
  bars-had agents bars h b q = rw e (rw q at (h j lo hi))

  -- agent j and its bars stored
  pub bars-stored : (agents : List Agent) (bars : List (Option Conflicts)) → length bars ≡ 12 → Barred bans agents bars → (agent : Agent) (b : Conflicts)
      → length agents ≡ 12 → BarsOf bans j a agent b → Barred bans (set agents (j - 1) agent) (set bars (j - 1) (Some b))
  bars-stored agents bars wide h agent b long f x l u =
      eq_test x j
      (λ z. rw (z, get_or-set_same bars (j - 1) (Some b) None (rw wide (omega arith)), get_or-set_same agents (j - 1) agent no_agent (rw long (omega arith)), ← e) f)
      (λ n. rw (get_or-set_other bars (j - 1) (x - 1) (Some b) None (λ z. n (omega arith)), get_or-set_other agents (j - 1) (x - 1) agent no_agent (λ z. n (omega arith)))
      (h x l u))

  -- its bars stored, and the agent as it stands
  pub bars-kept : (agents : List Agent) (bars : List (Option Conflicts)) → length bars ≡ 12 → Barred bans agents bars → (b : Conflicts)
      → BarsOf bans j a (get_or agents (j - 1) no_agent) b → Barred bans agents (set bars (j - 1) (Some b))
  bars-kept agents bars wide h b f x l u =
      eq_test x j
      (λ z. rw (z, get_or-set_same bars (j - 1) (Some b) None (rw wide (omega arith)), ← e) f)
      (λ n. rw (get_or-set_other bars (j - 1) (x - 1) (Some b) None (λ z. n (omega arith))) (h x l u))
