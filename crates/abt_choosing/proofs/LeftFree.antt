-- The values that stored reasons and bytes leave free, as the code's mask has them and as the rule does.
use Rattle.std.proofs.Common.{None, Option, Some, ℕ, zero, suc, pred, ◌+◌, ◌-◌, ◌/◌, ◌^◌, ◌<◌, ◌≤◌, ◌≡◌, refl, sym, Bool, not, ◌&&◌, ◌||◌, List, not-suc-le-zero, lt_of_le_of_lt, arith, bit_and, bit_or, shr_lt}
use lib.Bits.{and_le_l, or_lt}
use Rattle.model_base.specs.Bits.{bit}
use Rattle.model_base.specs.Finite.{is_some, lowest, from_one}
use Rattle.model_base.proofs.Bits.{bit-or, bit-and, bit_not}
use Rattle.model_base.proofs.Peeling.{bit-shr}
use Rattle.model_base.proofs.Tests.{test, opt, both}
use Rattle.model_base.proofs.Search.{lowest-some, lowest-range}
use Rattle.model_base.proofs.Searches.{is_some-passes}
use Rattle.model_sheet.specs.Problem.{max_domain}
use Rattle.model_agent.specs.Message.{Assignment}
use Rattle.model_agent.specs.Agent.{Self, Bans, Nogoods, above}
use Rattle.model_agent.specs.Choosing.{bars, named, blame, reason, reason_of, blaming}
use Rattle.model_agent.specs.Shape.{max_named}
use Rattle.abt_choosing.specs.Conflicts.{self_of, ConfigFits, ViewFits, byte_of, ConflictsOf}
use Rattle.abt_choosing.specs.Choosing.{nogood_at, nogoods_of, left_free}
use Rattle.model_base.specs.Sets.{mask_from}
use Rattle.abt_choosing.specs.declared.AgentConfig.{AgentConfig}
use Rattle.abt_choosing.specs.declared.Conflicts.{Conflicts}
use Rattle.abt_choosing.proofs.Barrings.{first-barring}
use Rattle.abt_packed.proofs.Bitwise.{bit-ones}
use Rattle.model_base.proofs.Masks.{mask_is}
use Rattle.abt_choosing.proofs.Records.{nogood-stored, nogood-none}

-- ---- as the code has it

pub free-mask : (nogood_mask all d : ℕ) (b : Conflicts) → nogood_mask < 2 ^ 8 → all < 2 ^ 8 → d ≤ 8
    → ((w : ℕ) → 1 ≤ w → w ≤ 8 → bit all (pred w) ≡ is_some (lowest max_named 1 (λ k. bit (byte_of b k) (pred w))))
    → bit_and (255 / 2 ^ (8 - d)) (255 - bit_or nogood_mask all) ≡ mask_from (left_free nogood_mask b) 1 d
unfolding left_free
free-mask nogood_mask all d b h k l f =
    mask_is (left_free nogood_mask b) 1 d _
    (let e : d + (8 - d) ≡ 8 = omega arith in
    lt_of_le_of_lt (and_le_l (255 / 2 ^ (8 - d)) _) (shr_lt d (8 - d) (rw e (omega arith))))
    (λ i q.
    let one : 1 + i ≡ suc i = omega arith in
    rw (
      one,
      bit-and (255 / 2 ^ (8 - d)) (255 - bit_or nogood_mask all) i,
      bit-shr 255 (8 - d) i,
      bit-ones 8 (8 - d + i) (omega arith),
      bit_not 8 (bit_or nogood_mask all) i (or_lt 8 nogood_mask all h k) (omega arith),
      bit-or nogood_mask all i,
      f (suc i) (omega arith) (omega arith),
    ))

-- ---- as the rule has it

is_some-blaming : (view : Assignment) (o : Option ℕ) → is_some (blaming view o) ≡ is_some o
unfolding is_some blaming
is_some-blaming view None = refl
is_some-blaming view (Some k) = refl

is_some-reason : (o b : Option Assignment) → is_some (reason_of o b) ≡ is_some o || is_some b
unfolding is_some reason_of
is_some-reason None b = refl
is_some-reason (Some lhs) b = refl

is_some-stored : (nogood_mask : ℕ) (nogoods : List ℕ) (i : ℕ) → is_some (nogood_at nogood_mask nogoods i) ≡ bit nogood_mask i
unfolding is_some
is_some-stored nogood_mask nogoods i =
    test (bit nogood_mask i)
    (λ e. rw (nogood-stored nogood_mask nogoods i e, e))
    (λ e. rw (nogood-none nogood_mask nogoods i e, e))

-- somebody is to blame exactly where somebody bars the value
is_some-blame : (s : Self) (bans : Bans) (view : Assignment) (nogoods : Nogoods) (v : ℕ)
    → is_some (blame s bans view nogoods v) ≡ is_some (lowest (above s) 1 (bars bans view v))
unfolding blame is_some
is_some-blame s bans view nogoods v =
    let p : ℕ → Bool = λ k. bars bans view v k && named s nogoods k in
    opt (lowest (above s) 1 p)
    (λ e. rw (e, blame))
    (λ k e.
    let r = lowest-range (above s) 1 p k e in
    rw (e, blame)
    (sym (is_some-passes (above s) 1 (bars bans view v) k r.0 r.1 (both (bars bans view v k) (named s nogoods k) (lowest-some (above s) 1 p k e)).0)))

-- the nogoods as they stand when the value is tried
pub left-free : (own : AgentConfig) (bans : Bans) (view : Assignment) (b : Conflicts) (nogood_mask : ℕ) (words : List ℕ) (nogoods : Nogoods) → ConfigFits own
    → ViewFits own view → ConflictsOf bans view b → (v : ℕ) → 1 ≤ v → v ≤ 8 → nogoods v ≡ nogoods_of nogood_mask words v
    → left_free nogood_mask b v ≡ not (is_some (reason (self_of own) bans view nogoods v))
unfolding left_free reason nogoods_of from_one max_domain
left-free own bans view b nogood_mask words nogoods fits viewed conflicts_of zero l h e = absurd (not-suc-le-zero l)
left-free own bans view b nogood_mask words nogoods fits viewed conflicts_of (suc v) l h e =
    rw (is_some-reason, e, is_some-stored, is_some-blaming, is_some-blame, ← first-barring own bans view b conflicts_of fits viewed (suc v) l h)
