-- What is asked of each agent that a packed word names or that is in a set, as a test of the whole word or mask.
use Rattle.std.proofs.Common.{ℕ, zero, suc, pred, ◌-◌, ◌/◌, ◌%◌, ◌^◌, ◌≤◌, ◌<◌, ◌≡◌, refl, sym, ap, ◌∙◌, Bool, true, false, not, List, not-suc-le-zero, div-one, arith, bit_and, eqb, ltb, leb, get_or, le-leb}
use mathlib.Core.Path.{fun_ext}
use mathlib.Core.Bool.{or-true, or-false}
use borrow.Author.Tests.{lt-leb}
use Rattle.model_base.specs.Finite.{from_one}
use Rattle.model_base.specs.Bits.{bit}
use Rattle.model_base.proofs.Search.{to-all_to}
use Rattle.model_base.proofs.Peeling.{all_to-same, below-test, above-test}
use Rattle.model_agent.specs.Message.{known, nobody}
use Rattle.model_agent.specs.Shape.{max_named}
use Rattle.model_network.specs.Shape.{each_named, each_in}
use Rattle.model_base.specs.Sets.{members}
use Rattle.abt_packed.specs.Packed.{assignment}
use Rattle.abt_shape.specs.Parts.{set_of}
use Rattle.abt_packed.proofs.Known.{unknown}
use Rattle.abt_packed.proofs.Digits.{nobody-assigned}
use Rattle.abt_packed.proofs.Wordwise.{same_word}
use Rattle.abt_packed.proofs.Bitwise.{only-test}

-- nobody is named
pub none_named : (x : ℕ) → x < 2 ^ 64 → each_named (assignment x) (λ k v. false) ≡ eqb x 0
unfolding each_named nobody
none_named x h =
    all_to-same max_named _ _ (λ k l u. or-false (not (known (assignment x k))) ∙ unknown (assignment x k) ∙ rw nobody-assigned)
    ∙ sym (same_word x 0 h (omega arith))

-- ---- sets

pub in-same : (m : ℕ) (p q : ℕ → Bool) → ((k : ℕ) → 1 ≤ k → k ≤ 16 → p k ≡ q k) → each_in (members m) p ≡ each_in (members m) q
unfolding each_in max_named
in-same m p q h = all_to-same 16 _ _ (λ k l u. rw (h k l u))

member-bit : (m k : ℕ) → 1 ≤ k → members m k ≡ bit m (pred k)
unfolding members from_one
member-bit m zero l = absurd (not-suc-le-zero l)
member-bit m (suc k) l = refl

pub in-to : (m e : ℕ) → m < 2 ^ 16 → each_in (members m) (λ k. leb k e) ≡ eqb (m / 2 ^ e) 0
unfolding each_in max_named
in-to m e h = all_to-same 16 _ _ (λ k l u. rw (member-bit m k l)) ∙ below-test 16 m e h

pub in-above : (m i : ℕ) → i ≤ 16 → each_in (members m) (λ k. ltb i k) ≡ eqb (m % 2 ^ i) 0
unfolding each_in max_named
in-above m i h = all_to-same 16 _ _ (λ k l u. rw (member-bit m k l)) ∙ above-test 16 m i h

-- all are in another set
pub in-other : (m s : ℕ) → m < 2 ^ 16 → s < 2 ^ 16 → each_in (members m) (members s) ≡ eqb (bit_and m (2 ^ 16 - 1 - s)) 0
unfolding each_in max_named
in-other m s h l = all_to-same 16 _ _ (λ k a b. rw (member-bit m k a, member-bit s k a)) ∙ sym (only-test 16 m s h l)

-- a set has nobody above 16
pub in_all : (m e : ℕ) → 16 ≤ e → each_in (members m) (λ k. leb k e) ≡ true
unfolding each_in max_named
in_all m e h = to-all_to 16 _ (λ k l u. rw (le-leb k e (omega arith), or-true))

-- nobody is in the set
pub none_in : (m : ℕ) → m < 2 ^ 16 → each_in (members m) (λ k. false) ≡ eqb m 0
none_in m h =
    in-same m (λ k. false) (λ k. leb k 0) (λ k l u. sym (lt-leb k 0 l)) ∙ in-to m 0 h ∙ ap (λ (n : ℕ). eqb n 0) (div-one m)

-- ---- the masks of all agents

pub set_at : (masks : List ℕ) (k j : ℕ) → 1 ≤ k → set_of masks k j ≡ members (get_or masks (k - 1) 0) j
unfolding set_of from_one
set_at masks zero j h = absurd (not-suc-le-zero h)
set_at masks (suc k) j h = let e : suc k - 1 ≡ k = omega arith in rw e

-- a set that has the same agents as that of agent k
pub set_is : (set : ℕ → Bool) (masks : List ℕ) (k : ℕ) → 1 ≤ k → ((j : ℕ) → set j ≡ set_of masks k j) → set ≡ members (get_or masks (k - 1) 0)
set_is set masks k h e = fun_ext (λ j. e j ∙ set_at masks k j h)
