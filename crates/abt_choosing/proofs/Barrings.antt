-- What a view bars, read off the bytes: the lowest agent that bars an own value, and the bytes after a change of the view.
use Rattle.std.proofs.Common.{ℕ, pred, ◌*◌, ◌-◌, ◌^◌, ◌≤◌, ◌≡◌, refl, ap, ap₂, ◌∙◌, Bool, false, ◌&&◌, List, sub-one, arith, leb, length, get_or}
use native.Mathlib.Nat.{zero-div}
use Rattle.model_base.specs.Finite.{at, lowest}
use Rattle.model_base.specs.Bits.{bit}
use Rattle.model_base.proofs.Tests.{test, eq_test, to-within}
use Rattle.model_base.proofs.Search.{at_same, at_other}
use Rattle.model_base.proofs.Bits.{bit-of-zero, bit-field}
use Rattle.model_sheet.specs.Problem.{max_domain, bit_at}
use Rattle.model_agent.specs.Message.{Assignment, known}
use Rattle.model_agent.specs.Agent.{Bans, above}
use Rattle.model_agent.specs.Choosing.{bars}
use Rattle.model_agent.specs.Shape.{max_named}
use Rattle.abt_choosing.specs.Conflicts.{self_of, ConfigFits, ViewFits, bans_in, conflicts_at, byte, byte_of, ConflictsOf}
use Rattle.abt_choosing.specs.declared.Conflicts.{Conflicts}
use Rattle.abt_choosing.specs.declared.AgentConfig.{AgentConfig}
use Rattle.abt_packed.proofs.Known.{known_from}
use Rattle.model_base.proofs.Searches.{lowest-shorter}

-- an agent that is not above bars nothing
unnamed : (own : AgentConfig) (bans : Bans) (view : Assignment) → ViewFits own view
    → (w k : ℕ) → 1 ≤ k → k ≤ max_named → own.number ≤ k → bars bans view w k ≡ false
unfolding bars
unnamed own bans view viewed w k low high over =
    test (known (view k)) (λ t. absurd (omega (arith, (viewed k low high t).0))) (λ t. rw t)

-- the lowest agent that bars an own value, whatever else is asked of it
pub lowest-barring : (own : AgentConfig) (bans : Bans) (view : Assignment) (b : Conflicts) → ConflictsOf bans view b → ConfigFits own → ViewFits own view
    → (w : ℕ) → 1 ≤ w → w ≤ max_domain → (f : ℕ → Bool → Bool) → ((k : ℕ) → f k false ≡ false)
    → lowest max_named 1 (λ k. f k (bit (byte_of b k) (pred w))) ≡ lowest (above (self_of own)) 1 (λ k. f k (bars bans view w k))
unfolding above max_named self_of
lowest-barring own bans view b conflicts_of fits viewed w low high f strict =
    lowest-shorter 16 (pred own.number) 1 (λ k. f k (bit (byte_of b k) (pred w))) (λ k. f k (bars bans view w k)) (omega (arith, fits.last))
    (λ k l h. ap (f k) (conflicts_of k w l (omega (arith, fits.last)) low high))
    (λ k l h.
    ap (f k) (conflicts_of k w (omega arith) (omega arith) low high ∙ unnamed own bans view viewed w k (omega arith) (omega arith) (omega arith))
    ∙ strict k)

pub first-barring : (own : AgentConfig) (bans : Bans) (view : Assignment) (b : Conflicts) → ConflictsOf bans view b → ConfigFits own → ViewFits own view
    → (w : ℕ) → 1 ≤ w → w ≤ max_domain → lowest max_named 1 (λ k. bit (byte_of b k) (pred w)) ≡ lowest (above (self_of own)) 1 (bars bans view w)
first-barring own bans view b conflicts_of fits viewed w low high =
    lowest-barring own bans view b conflicts_of fits viewed w low high (λ k t. t) (λ k. refl)

-- ---- a changed view

-- value v for agent k, 0 for unknown, and the byte of what it bars
pub seen : (bans : Bans) (view : Assignment) (b b' : Conflicts) (k v barred : ℕ) → ConflictsOf bans view b
    → ((j : ℕ) → 1 ≤ j → j ≤ 16 → byte_of b' j ≡ at (byte_of b) k barred j)
    → ((w : ℕ) → 1 ≤ w → w ≤ max_domain → bit barred (pred w) ≡ known v && bans k v w)
    → ConflictsOf bans (at view k v) b'
unfolding bars max_named
seen bans view b b' k v barred conflicts_of changed bits j w first last low high =
    eq_test j k
    (λ e. rw (changed j first last, e, at_same (byte_of b) k barred, at_same view k v) (bits w low high))
    (λ n. rw (changed j first last, at_other (byte_of b) k barred j n, at_other view k v j n) (conflicts_of j w first last low high))

-- such a byte is one of agent k's word of bans
pub barred-at-bits : (words : List ℕ) (k v : ℕ) → 1 ≤ k → k ≤ length words → 1 ≤ v → v ≤ max_domain
    → (w : ℕ) → 1 ≤ w → w ≤ max_domain → bit (conflicts_at (get_or words (k - 1) 0) v) (pred w) ≡ known v && bans_in words k v w
unfolding conflicts_at bans_in max_domain bit_at
barred-at-bits words k v first last some few w low high =
    rw (known_from v some, ← sub-one k, ← sub-one v, to-within (length words) k first last, to-within 8 v some few, to-within 8 w low high)
    (bit-field (get_or words (k - 1) 0) (8 * (v - 1)) 8 (pred w) (omega arith))

-- .. and 0 for a value that is unknown
pub unknown-bits : (bans : Bans) (k w : ℕ) → bit 0 (pred w) ≡ known 0 && bans k 0 w
unfolding known
unknown-bits bans k w = bit-of-zero (pred w)

-- ---- a view that names nobody

empty-byte : (k : ℕ) → byte_of (record { low = 0; high = 0 }) k ≡ 0
unfolding byte_of byte
empty-byte k =
    test (leb k 8) (λ t. rw (t, byte_of, zero-div (256 ^ pred k))) (λ t. rw (t, byte_of, zero-div (256 ^ (k - 9))))

-- what `Conflicts::default` makes
pub default-bars : (b : Conflicts) → (b.low ≡ 0) × (b.high ≡ 0) → b ≡ record { low = 0; high = 0 }
default-bars b zero = ap₂ (λ (l h : ℕ). let b : Conflicts = record { low = l; high = h } in b) zero.0 zero.1

pub nothing-barred : (bans : Bans) (view : Assignment) → ((k : ℕ) → 1 ≤ k → k ≤ max_named → view k ≡ 0)
    → ConflictsOf bans view (record { low = 0; high = 0 })
unfolding bars
nothing-barred bans view unknown k w first last low high =
    rw (empty-byte k, unknown k first last) (unknown-bits bans k w)
