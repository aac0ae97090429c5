-- Whom the news of a value goes to, as the code finds it: those informed or nobody, and the agent whose refusal is being worked.
-- No agent has the number 0, so where no refusal is being worked nobody is added.
use Rattle.std.proofs.Common.{Option, Some, None, ℕ, ◌≤◌, ◌<◌, ◌≡◌, refl, sym, ◌∙◌, ◌≢◌, ◌⊎◌, inl, inr, ⊎_elim, Bool, true, false, not, ◌&&◌, ◌||◌, arith, eqb, eqb-true, eq-eqb, ne_eqb}
use mathlib.Core.Bool.{and-true, and-false, or-true, or-false}
use Rattle.model_base.specs.Finite.{at}
use Rattle.model_base.proofs.Search.{at_same, at_other}
use Rattle.model_base.proofs.Tests.{test, eq_test, both, or_cases}
use Rattle.model_sheet.specs.Problem.{max_agents}
use Rattle.model_agent.specs.Choosing.{quiet_rule, no_refuser, tells}
use Rattle.model_agent.specs.Receiving.{fresh}
use Rattle.model_agent.specs.Agent.{Self, unused_agent}
use Rattle.model_base.specs.Sets.{members}
use Rattle.abt_packed.proofs.Sets.{no-members}
use Rattle.abt_choosing.specs.Conflicts.{self_of}
use Rattle.abt_choosing.specs.declared.AgentConfig.{AgentConfig}
use Rattle.abt_agent.specs.Abstract.{agent_of}
use Rattle.abt_agent.specs.Entries.{Below}
use Rattle.abt_agent.specs.Parts.{listener, refuser_of, Refuser}
use Rattle.abt_agent.specs.declared.State.{State}

pub refuser-range : (own : AgentConfig) (k : ℕ) → Refuser own (Some k) → (1 ≤ k) × (k ≤ 16)
unfolding max_agents
refuser-range own k below = (omega (arith, below.0), omega (arith, below.1))

-- at the start no value was taken before, and no refusal is being worked
pub all_told : (s : Self) (listens informs : ℕ → Bool) (k : ℕ) → 1 ≤ k → informs k ≡ tells s (fresh listens informs) no_refuser 1 k
unfolding tells fresh unused_agent no_refuser
all_told s listens informs k l =
    let n : eqb k 0 ≡ false = ne_eqb k 0 (λ z. omega arith) in
    test (eqb s.rule quiet_rule) (λ t. rw (t, n, or-false (informs k && true)) (sym (and-true (informs k)))) (λ t. rw t)

module _ (own : AgentConfig) (s : State) (refuser : Option ℕ) (v : ℕ) where
  -- the set that has exactly those told
  abbrev Tells : ℕ → Type 0
  Tells told = (k : ℕ) → 1 ≤ k → members told k ≡ tells (self_of own) (listener s) (refuser_of refuser) v k

  -- ---- rule 1

  pub tells-informed : own.rule ≢ 2 → Tells s.informs
  unfolding tells quiet_rule self_of agent_of
  tells-informed n k l = rw (ne_eqb own.rule 2 n)

  -- ---- rule 2

  -- nobody of those informed where the value is the last one taken
  heard : (told : ℕ) → ((v ≢ s.last) × (told ≡ s.informs)) ⊎ ((v ≡ s.last) × (told ≡ 0)) → (k : ℕ)
      → members told k ≡ members s.informs k && not (eqb v s.last)
  heard told (inl (n, e)) k = rw (e, ne_eqb v s.last n, and-true)
  heard told (inr (q, e)) k = rw (e, eq-eqb v s.last q, and-false, no-members k)

  -- the refuser in any case
  abbrev pub With : Option ℕ → ℕ → ℕ → Type 0
  With None told all = all ≡ told
  With (Some r) told all = members all ≡ at (members told) r true

  with-refuser : (o : Option ℕ) (told all : ℕ) → With o told all → (k : ℕ) → 1 ≤ k → members all k ≡ members told k || eqb k (refuser_of o)
  unfolding no_refuser
  with-refuser None told all e k l = rw (e, ne_eqb k 0 (λ q. omega arith), or-false)
  with-refuser (Some r) told all e k l =
      eq_test k r
      (λ q. rw (e, q, at_same (members told) r true, eq-eqb r r refl, or-true))
      (λ m. rw (e, at_other (members told) r true k m, ne_eqb k r m, or-false))

  pub tells-quietly : own.rule ≡ 2 → (told all : ℕ) → ((v ≢ s.last) × (told ≡ s.informs)) ⊎ ((v ≡ s.last) × (told ≡ 0)) → With refuser told all
      → Tells all
  unfolding tells quiet_rule self_of agent_of
  tells-quietly q told all h w k l = rw (eq-eqb own.rule 2 q, with-refuser refuser told all w k l, heard told h k)

  -- ---- all of them are below

  refuser-below : (o : Option ℕ) → Refuser own o → (k : ℕ) → 1 ≤ k → k ≡ refuser_of o → (own.number < k) × (k ≤ max_agents)
  unfolding no_refuser
  refuser-below None below k lo e = absurd (omega (arith, e))
  refuser-below (Some r) below k lo e = rw e below

  pub tells-below : (told : ℕ) → Below own s.informs → Refuser own refuser → Tells told → Below own told
  unfolding tells self_of agent_of
  tells-below told down below e k lo hi t =
      test (eqb own.rule quiet_rule)
      (λ q.
      ⊎_elim
      (λ i. down k lo hi (both (members s.informs k) (not (eqb v s.last)) i).0)
      (λ r. refuser-below refuser below k lo (eqb-true k (refuser_of refuser) r))
      (or_cases (members s.informs k && not (eqb v s.last)) (eqb k (refuser_of refuser)) (rw q at (sym (e k lo) ∙ t))))
      (λ q. down k lo hi (rw q at (sym (e k lo) ∙ t)))
