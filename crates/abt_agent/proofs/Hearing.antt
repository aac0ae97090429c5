-- A walk along a left side: what it has found so far, where it is left early, and what it comes to.
-- Whoever was passed matches, and is in the set and in the view where it was not listened to; the rest is as it was.
use Rattle.std.proofs.Common.{ℕ, pred, ◌-◌, ◌≤◌, Some, None, ◌≡◌, refl, sym, ap, ◌∙◌, Bool, true, false, not, ◌&&◌, ◌||◌, cond, List, arith, eqb, get_or, eqb-true, eq-eqb}
use mathlib.Core.Bool.{and-false}
use Rattle.model_base.specs.Finite.{at, all_to}
use Rattle.model_base.proofs.Tests.{test, eq_test, implied}
use Rattle.model_base.proofs.Search.{at_same, at_other, all_to-at, to-all_to}
use Rattle.model_sheet.specs.Problem.{max_domain}
use Rattle.model_agent.specs.Message.{Assignment, known, nobody}
use Rattle.model_agent.specs.Agent.{Bans, above}
use Rattle.model_agent.specs.Receiving.{matches, unheard}
use Rattle.model_agent.specs.Shape.{max_named}
use Rattle.model_base.specs.Sets.{members}
use Rattle.abt_packed.specs.Packed.{assignment}
use Rattle.abt_choosing.specs.Conflicts.{self_of, Able, ViewFits, bans_in, conflicts_at, byte_of, ConflictsOf}
use Rattle.abt_choosing.specs.declared.Conflicts.{Conflicts}
use Rattle.abt_choosing.specs.declared.AgentConfig.{AgentConfig}
use Rattle.abt_agent.specs.Abstract.{assigned, agent_of}
use Rattle.abt_agent.specs.Parts.{listener, Listening, Hears}
use Rattle.abt_agent.specs.declared.State.{State}
use Rattle.abt_agent.specs.declared.receiving.Heard.{Heard}
use Rattle.abt_packed.proofs.Sets.{no-members}
use Rattle.abt_choosing.proofs.Barrings.{seen, barred-at-bits}
use Rattle.abt_choosing.proofs.Walking.{Left, left_then, near}

module _ (s : State) (lhs : Assignment) where
  -- agent k was passed, and not listened to
  unfoldable pub newly : Assignment → ℕ → Bool
  newly rest k = not (known (rest k)) && unheard (listener s) lhs k

  pub record Hearing (words : List ℕ) (rest : Assignment) (h : Heard) : Type 0 where
    pub left : Left lhs rest
    pub passed : (k : ℕ) → known (rest k) ≡ false → matches (listener s) lhs k ≡ true
    pub links : (k : ℕ) → members h.links k ≡ newly rest k
    pub view : (k : ℕ) → assignment h.view k ≡ cond (newly rest k) (lhs k) (assignment s.view k)
    pub conflicts_of : ConflictsOf (bans_in words) (assignment h.view) h.conflicts

  -- ---- it begins

  pub hear-begins : (words : List ℕ) → ConflictsOf (bans_in words) (assignment s.view) s.conflicts
      → Hearing words lhs record { links = 0; view = s.view; conflicts = s.conflicts }
  unfolding matches newly unheard
  hear-begins words conflicts_of =
      record {
        left = λ k e. refl;
        passed = λ k e. rw e;
        links = λ k. no-members k ∙ test (known (lhs k)) (λ t. rw t) (λ t. rw t);
        view = λ k. test (known (lhs k)) (λ t. rw t) (λ t. rw t);
        conflicts_of = conflicts_of;
      }

  -- ---- it goes on

  module _ (words : List ℕ) (rest : Assignment) (h : Heard) (w : Hearing words rest h) (k : ℕ) (here : known (rest k) ≡ true) where
    named : known (lhs k) ≡ true
    named = rw (w.left k here) at here

    passed_then : matches (listener s) lhs k ≡ true → (j : ℕ) → known (at rest k 0 j) ≡ false → matches (listener s) lhs j ≡ true
    passed_then m j e =
        eq_test j k
        (λ q. rw q m)
        (λ n. w.passed j (rw (at_other rest k 0 j n) at e))

    -- whether it was new
    here-then : newly (at rest k 0) k ≡ unheard (listener s) lhs k
    unfolding newly known
    here-then = rw (at_same rest k 0)

    here-before : newly rest k ≡ false
    unfolding newly
    here-before = rw here

    newly-else : (j : ℕ) → (j ≡ k → ⊥) → newly (at rest k 0) j ≡ newly rest j
    unfolding newly
    newly-else j n = rw (at_other rest k 0 j n)

    -- it is listened to, and has that value
    pub hear-matched : members s.listens k ≡ true → assignment s.view k ≡ rest k → Hearing words (at rest k 0) h
    unfolding matches unheard agent_of assigned
    hear-matched l e =
        let none-new : unheard (listener s) lhs k ≡ false = rw (l, and-false) in
        let same : (j : ℕ) → newly (at rest k 0) j ≡ newly rest j =
        (λ j. eq_test j k (λ q. rw q (here-then ∙ none-new ∙ sym here-before)) (λ n. newly-else j n)) in
        record {
          left = left_then lhs rest k w.left;
          passed = passed_then (rw (named, l) (eq-eqb (lhs k) (assignment s.view k) (sym (w.left k here) ∙ sym e)));
          links = λ j. w.links j ∙ sym (same j);
          view = λ j. w.view j ∙ ap (λ (b : Bool). cond b (lhs j) (assignment s.view j)) (sym (same j));
          conflicts_of = w.conflicts_of;
        }

    -- it is not listened to
    module _ (own : AgentConfig) (able : Able own words) (fits : ViewFits own lhs) (lo : 1 ≤ k) (hi : k ≤ 16) where
      pub hear-new : (links view : ℕ) (b : Conflicts) → members s.listens k ≡ false → members links ≡ at (members h.links) k true
          → assignment view ≡ at (assignment h.view) k (rest k)
          → ((j : ℕ) → 1 ≤ j → j ≤ 16 → byte_of b j ≡ at (byte_of h.conflicts) k (conflicts_at (get_or words (k - 1) 0) (rest k)) j)
          → Hearing words (at rest k 0) record { links = links; view = view; conflicts = b }
      unfolding matches unheard agent_of max_domain
      hear-new links view b fresh more wider changed =
          let is-new : unheard (listener s) lhs k ≡ true = rw (named, fresh) in
          let (bound, some, few) = near own words lhs rest able fits w.left k lo hi here in
          record {
            left = left_then lhs rest k w.left;
            passed = passed_then (rw (named, fresh));
            links = λ j.
                eq_test j k
                (λ q. rw (q, more, at_same (members h.links) k true) (sym (here-then ∙ is-new)))
                (λ n. rw (more, at_other (members h.links) k true j n) (w.links j ∙ sym (newly-else j n)));
            view = λ j.
                eq_test j k
                (λ q. rw (q, wider, at_same (assignment h.view) k (rest k), here-then ∙ is-new) (w.left k here))
                (λ n. rw (wider, at_other (assignment h.view) k (rest k) j n, newly-else j n) (w.view j));
            conflicts_of =
                rw wider
                (seen (bans_in words) (assignment h.view) h.conflicts b k (rest k) _ w.conflicts_of changed
                (λ u l m. barred-at-bits words k (rest k) lo bound some few u l m));
          }

  -- ---- it ends

  pub hear-ends : (own : AgentConfig) (words : List ℕ) (h : Heard) → Hearing words nobody h → Hears own (bans_in words) s lhs (Some h)
  unfolding nobody known newly
  hear-ends own words h w = (
    to-all_to (above (self_of own)) (matches (listener s) lhs) (λ k lo hi. w.passed k refl),
    record { links = w.links; view = w.view; conflicts_of = w.conflicts_of },
  )

  pub hear-fails : (own : AgentConfig) (bans : Bans) (k : ℕ) → ViewFits own lhs → 1 ≤ k → k ≤ 16 → known (lhs k) ≡ true → members s.listens k ≡ true
      → (assignment s.view k ≡ lhs k → ⊥) → Hears own bans s lhs None
  unfolding matches above self_of agent_of assigned max_named
  hear-fails own bans k fits lo hi e l n =
      let near : k ≤ pred own.number = omega (arith, (fits k lo hi e).0) in
      test (all_to (pred own.number) (matches (listener s) lhs))
      (λ t.
      absurd (n (sym (eqb-true (lhs k) (assignment s.view k)
      (rw (e, l) at (all_to-at (pred own.number) (matches (listener s) lhs) t k lo near))))))
      (λ t. t)

  -- the view has all of it
  pub hear-within : (own : AgentConfig) (words : List ℕ) → ConflictsOf (bans_in words) (assignment s.view) s.conflicts → Listening s
      → ((k : ℕ) → known (lhs k) ≡ true → (1 ≤ k) × (k ≤ 16))
      → all_to max_named (λ k. not (known (lhs k)) || eqb (lhs k) (assignment s.view k)) ≡ true
      → Hears own (bans_in words) s lhs (Some record { links = 0; view = s.view; conflicts = s.conflicts })
  unfolding matches unheard agent_of assigned max_named
  hear-within own words conflicts_of listening range all = (
    to-all_to (above (self_of own)) (matches (listener s) lhs) (λ k lo hi. test (known (lhs k)) (λ t. in-view k t) (λ t. rw t)),
    record {
      links = λ k. no-members k ∙ sym (none-new k);
      view = λ k. rw (none-new k);
      conflicts_of = conflicts_of;
    },
  )
    where
      same : (k : ℕ) → known (lhs k) ≡ true → eqb (lhs k) (assignment s.view k) ≡ true
      same k t =
          let r = range k t in
          implied (known (lhs k)) _ (all_to-at 16 (λ k. not (known (lhs k)) || eqb (lhs k) (assignment s.view k)) all k r.0 r.1) t

      heard : (k : ℕ) → known (lhs k) ≡ true → members s.listens k ≡ true
      heard k t =
          let r = range k t in
          listening k r.0 r.1 (rw (eqb-true (lhs k) (assignment s.view k) (same k t)) at t)

      in-view : (k : ℕ) → known (lhs k) ≡ true → matches (listener s) lhs k ≡ true
      in-view k t = rw (t, heard k t, same k t)

      none-new : (k : ℕ) → unheard (listener s) lhs k ≡ false
      none-new k = test (known (lhs k)) (λ t. rw (t, heard k t)) (λ t. rw t)
