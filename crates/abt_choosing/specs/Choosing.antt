-- What the parts of choosing compute or need, where the rules have no name for it.
use Rattle.std.specs.Prelude.{ℕ, suc, pred, ◌-◌, ◌≤◌, ◌<◌, ◌≡◌, Bool, true, false, not, ◌||◌, List, get_or, Option, None, Some}
use Rattle.model_base.specs.Finite.{from_one, is_some, lowest}
use Rattle.model_base.specs.Bits.{bit}
use Rattle.model_sheet.specs.Problem.{max_domain}
use Rattle.model_agent.specs.Message.{Assignment}
use Rattle.model_agent.specs.Agent.{Bans, Nogoods}
use Rattle.model_agent.specs.Choosing.{blame, choose}
use Rattle.model_agent.specs.Shape.{max_named, EachNamed}
use Rattle.abt_packed.specs.Packed.{assignment}
use Rattle.abt_choosing.specs.Conflicts.{self_of, ViewFits, byte_of, ConflictsOf}
use Rattle.abt_choosing.specs.declared.Conflicts.{Conflicts}
use Rattle.abt_choosing.specs.declared.AgentConfig.{AgentConfig}

-- ---- nogoods

-- what the left side of a nogood that is not stored holds is no part of the agent
unfoldable pub nogood_at : ℕ → List ℕ → ℕ → Option Assignment
nogood_at nogood_mask nogoods i = elim (bit nogood_mask i) [ true ↦ Some (assignment (get_or nogoods i 0)) | false ↦ None ]

-- the nogoods of a mask and eight words
unfoldable pub nogoods_of : ℕ → List ℕ → Nogoods
nogoods_of nogood_mask nogoods = from_one None (nogood_at nogood_mask nogoods)

-- a left side names agents at their values in the view
abbrev pub Agreed : Assignment → Assignment → Type 0
Agreed view lhs = EachNamed lhs (λ k u. u ≡ view k)

-- the view names agents above, at values that there are, and the nogoods agree with it
pub record Coherent (own : AgentConfig) (view : Assignment) (nogoods : Nogoods) : Type 0 where
  pub viewed : ViewFits own view
  pub agreed : (v : ℕ) (lhs : Assignment) → 1 ≤ v → v ≤ max_domain → nogoods v ≡ Some lhs → Agreed view lhs

-- ---- choosing

-- own value v has no stored reason, and no byte bars it
unfoldable pub left_free : ℕ → Conflicts → ℕ → Bool
left_free nogood_mask b v = not (bit nogood_mask (pred v) || is_some (lowest max_named 1 (λ k. bit (byte_of b k) (pred v))))

-- none of the values 1 to m is left free
abbrev pub Barred : ℕ → Conflicts → ℕ → Type 0
Barred nogood_mask b m = (v : ℕ) → 1 ≤ v → v ≤ m → left_free nogood_mask b v ≡ false

-- own value w has agent k to blame
abbrev pub Blames : AgentConfig → Conflicts → Nogoods → ℕ → ℕ → Type 0
Blames own b nogoods w k =
    (1 ≤ k) × (k ≤ max_named)
    × ((bans : Bans) (view : Assignment) → ConflictsOf bans view b → ViewFits own view → blame (self_of own) bans view nogoods w ≡ Some k)

-- the nogoods with the reasons of the values 1 to m: from there, choosing has only the values above m left to try
pub record Reasoned (own : AgentConfig) (view : Assignment) (b : Conflicts) (m : ℕ) (old new : Nogoods) : Type 0 where
  pub coherent : Coherent own view new
  pub later : (v : ℕ) → m < v → new v ≡ old v
  pub goes_on : (bans : Bans) → ConflictsOf bans view b
      → choose (own.domain - m) (suc m) (self_of own) bans view new ≡ choose own.domain 1 (self_of own) bans view old

-- choosing takes value v, or none, and leaves these nogoods
pub record Chose (own : AgentConfig) (view : Assignment) (b : Conflicts) (old : Nogoods) (v : Option ℕ) (new : Nogoods) : Type 0 where
  pub coherent : Coherent own view new
  pub choice : (bans : Bans) → ConflictsOf bans view b
      → choose own.domain 1 (self_of own) bans view old ≡ record { value = v; nogoods = new }
