-- Choosing takes the lowest free value, with the reasons of those below it given.
-- Where the reasons are given, the definition stops at the next value, or has none left.
use Rattle.std.proofs.Common.{ℕ, suc, ◌+◌, ◌-◌, ◌<◌, Some, None, ◌≡◌, sym, ◌∙◌, true, List, add-one, arith}
use native.Mathlib.Nat.{sub_self}
use borrow.Author.Tests.{not-true}
use Rattle.model_base.specs.Finite.{lowest}
use Rattle.model_base.proofs.Tests.{is_some-false}
use Rattle.model_base.proofs.Search.{lowest-some, lowest-range, lowest-none, lowest-before}
use Rattle.model_agent.specs.Message.{Assignment}
use Rattle.model_agent.specs.Agent.{Self, Bans, Nogoods}
use Rattle.model_agent.specs.Choosing.{reason, choose}
use Rattle.abt_choosing.specs.Conflicts.{self_of, ConfigFits, ConflictsOf}
use Rattle.abt_choosing.specs.Choosing.{nogoods_of, left_free, Barred, Reasoned, Chose}
use Rattle.abt_choosing.specs.declared.Conflicts.{Conflicts}
use Rattle.abt_choosing.specs.declared.AgentConfig.{AgentConfig}
use Rattle.abt_choosing.proofs.LeftFree.{left-free}

-- ---- none is free

pub tried-all : (nogood_mask d : ℕ) (b : Conflicts) → lowest d 1 (left_free nogood_mask b) ≡ None → Barred nogood_mask b d
tried-all nogood_mask d b e v l h = lowest-none d 1 (left_free nogood_mask b) e v l (omega arith)

pub chose_none : (own : AgentConfig) (view : Assignment) (b : Conflicts) (old new : Nogoods) → Reasoned own view b own.domain old new
    → Chose own view b old None new
unfolding choose
chose_none own view b old new r =
    record { coherent = r.coherent; choice = λ bans conflicts_of. sym (rw (sub_self own.domain) at (r.goes_on bans conflicts_of)) }

-- ---- the lowest that is free

module _ (nogood_mask d : ℕ) (b : Conflicts) (z : ℕ) (e : lowest d 1 (left_free nogood_mask b) ≡ Some (1 + z)) where
  pub tried-below : (z < d) × Barred nogood_mask b z
  tried-below = (
    omega (arith, (lowest-range d 1 (left_free nogood_mask b) (1 + z) e).1),
    λ v l h. lowest-before d 1 (left_free nogood_mask b) (1 + z) v e l (omega arith),
  )

  pub next-free : left_free nogood_mask b (suc z) ≡ true
  next-free = let one : 1 + z ≡ suc z = omega arith in rw one at (lowest-some d 1 (left_free nogood_mask b) (1 + z) e)

-- the next value is free
choose-free : (m v : ℕ) (s : Self) (bans : Bans) (view : Assignment) (nogoods : Nogoods) → reason s bans view nogoods v ≡ None
    → choose (suc m) v s bans view nogoods ≡ record { value = Some v; nogoods = nogoods }
unfolding choose
choose-free m v s bans view nogoods e = rw (e, choose)

module _ (own : AgentConfig) (view : Assignment) (b : Conflicts) (nogood_mask : ℕ) (nogoods : List ℕ) (new : Nogoods) (z : ℕ) (fits : ConfigFits own)
    (r : Reasoned own view b z (nogoods_of nogood_mask nogoods) new) (h : z < own.domain) (free : left_free nogood_mask b (suc z) ≡ true) where
  no-reason : (bans : Bans) → ConflictsOf bans view b → reason (self_of own) bans view new (suc z) ≡ None
  no-reason bans conflicts_of =
      is_some-false (reason (self_of own) bans view new (suc z))
      (not-true _
      (sym (left-free own bans view b nogood_mask nogoods new fits r.coherent.viewed conflicts_of (suc z) (omega arith) (omega (arith, fits.few))
      (r.later (suc z) (omega arith)))
      ∙ free))

  pub chose-some : Chose own view b (nogoods_of nogood_mask nogoods) (Some (z + 1)) new
  chose-some =
      let d : own.domain - z ≡ suc (own.domain - suc z) = omega arith in
      record {
        coherent = r.coherent;
        choice = λ bans conflicts_of.
            rw (add-one z)
            (sym (rw d at (r.goes_on bans conflicts_of))
            ∙ choose-free (own.domain - suc z) (suc z) (self_of own) bans view new (no-reason bans conflicts_of));
      }
