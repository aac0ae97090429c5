-- The bytes of a view, agent by agent as a walk along the view's named digits finds them.
-- The bytes are those of the view less the agents that are left.
-- What a walk says of those left serves any walk along a word.
use Rattle.std.proofs.Common.{ℕ, ◌-◌, ◌≤◌, ◌≡◌, refl, ap, ◌∙◌, subst, true, cond, List, arith, length, get_or}
use mathlib.Core.Path.{fun_ext}
use Rattle.model_base.specs.Finite.{at}
use Rattle.model_base.proofs.Tests.{test, eq_test}
use Rattle.model_base.proofs.Search.{at_same, at_other}
use Rattle.model_sheet.specs.Problem.{max_domain}
use Rattle.model_agent.specs.Message.{Assignment, known, nobody}
use Rattle.model_agent.specs.Shape.{max_named}
use Rattle.model_agent.proofs.Assignments.{unknown-zero}
use Rattle.abt_choosing.specs.Conflicts.{Able, ViewFits, bans_in, conflicts_at, byte_of, ConflictsOf}
use Rattle.abt_choosing.specs.declared.Conflicts.{Conflicts}
use Rattle.abt_choosing.specs.declared.AgentConfig.{AgentConfig}
use Rattle.abt_packed.proofs.Known.{known-true}
use Rattle.abt_choosing.proofs.Barrings.{seen, barred-at-bits, default-bars, nothing-barred}

-- ---- those left

-- they have their values still
abbrev pub Left : Assignment → Assignment → Type 0
Left view rest = (k : ℕ) → known (rest k) ≡ true → rest k ≡ view k

pub left_then : (view rest : Assignment) (k : ℕ) → Left view rest → Left view (at rest k 0)
unfolding known
left_then view rest k left j e =
    eq_test j k
    (λ q. absurd (omega (arith, known-true (at rest k 0 j) e, ap (at rest k 0) q ∙ at_same rest k 0)))
    (λ n. at_other rest k 0 j n ∙ left j (rw (at_other rest k 0 j n) at e))

-- each is above, at a value that a word of bans has room for
pub near : (own : AgentConfig) (words : List ℕ) (view rest : Assignment) → Able own words → ViewFits own view → Left view rest
    → (k : ℕ) → 1 ≤ k → k ≤ 16 → known (rest k) ≡ true → (k ≤ length words) × (1 ≤ rest k) × (rest k ≤ 8)
unfolding max_named max_domain
near own words view rest able fits left k lo hi here =
    let e = left k here in
    let f = fits k lo hi (rw e at here) in
    (omega (arith, f.0, able.bans), known-true (rest k) here, rw e f.1)

-- ---- the bytes

-- the view less the agents that are left
unfoldable pub less : Assignment → Assignment → Assignment
less view rest k = cond (known (rest k)) 0 (view k)

pub record Walked (words : List ℕ) (view : Assignment) (b : Conflicts) (rest : Assignment) : Type 0 where
  pub left : Left view rest
  pub conflicts_of : ConflictsOf (bans_in words) (less view rest) b

pub walk_begins : (words : List ℕ) (view : Assignment) (b : Conflicts) → (b.low ≡ 0) × (b.high ≡ 0) → Walked words view b view
unfolding less
walk_begins words view b zero =
    rw (default-bars b zero)
    (record {
      left = λ k e. refl;
      conflicts_of = nothing-barred (bans_in words) (less view view) (λ k l h. test (known (view k)) (λ t. rw t) (λ t. rw t (unknown-zero (view k) t)));
    })

pub walk_ends : (words : List ℕ) (view : Assignment) (b : Conflicts) → Walked words view b nobody → ConflictsOf (bans_in words) view b
unfolding less nobody known
walk_ends words view b w = w.conflicts_of

module _ (own : AgentConfig) (words : List ℕ) (view : Assignment) (b : Conflicts) (rest : Assignment) (able : Able own words) (fits : ViewFits own view)
    (w : Walked words view b rest) (k : ℕ) (lo : 1 ≤ k) (hi : k ≤ 16) (here : known (rest k) ≡ true) where
  one_less : at (less view rest) k (rest k) ≡ less view (at rest k 0)
  unfolding less known
  one_less =
      fun_ext λ j.
      eq_test j k
      (λ e. rw (e, at_same (less view rest) k (rest k), at_same rest k 0) (w.left k here))
      (λ n. rw (at_other (less view rest) k (rest k) j n, at_other rest k 0 j n))

  pub walk-goes : (b' : Conflicts) → ((j : ℕ) → 1 ≤ j → j ≤ 16 → byte_of b' j ≡ at (byte_of b) k (conflicts_at (get_or words (k - 1) 0) (rest k)) j)
      → Walked words view b' (at rest k 0)
  unfolding max_domain
  walk-goes b' changed =
      let (bound, some, few) = near own words view rest able fits w.left k lo hi here in
      record {
        left = left_then view rest k w.left;
        conflicts_of =
            subst (λ (v : Assignment). ConflictsOf (bans_in words) v b') one_less
            (seen (bans_in words) (less view rest) b b' k (rest k) (conflicts_at (get_or words (k - 1) 0) (rest k)) w.conflicts_of changed
            (λ u l h. barred-at-bits words k (rest k) lo bound some few u l h));
      }
