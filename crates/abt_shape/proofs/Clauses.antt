-- The clauses of the shape, each for a network of which only what the clause reads is known, in the form in which the code goes through it.
use Rattle.std.proofs.Common.{None, ℕ, zero, suc, pred, ◌*◌, ◌-◌, ◌/◌, ◌%◌, ◌^◌, ◌≤◌, ◌<◌, ◌≡◌, refl, sym, ap, ◌∙◌, Bool, true, false, not, cond, ◌&&◌, ◌||◌, List, not-suc-le-zero, div-one, arith, bit_and, eqb, ltb, leb, get_or, eq-eqb, ne_eqb, lt-ltb, le-ltb, le-leb, ltb-true, ltb-false, leb-true, leb-false}
use mathlib.Core.Bool.{and-true, and-false, and_comm, or-false, or-and_distrib_left}
use lib.Dec.{eqb-suc-zero}
use borrow.Author.Tests.{lt-leb}
use Rattle.model_base.proofs.Tests.{test}
use Rattle.model_base.specs.Finite.{from_one, within, all_to, is_some}
use Rattle.model_base.specs.Bits.{bit}
use Rattle.model_base.proofs.Peeling.{all_to-same, all_to-and, below-test}
use Rattle.model_sheet.specs.Problem.{Problem, max_agents, max_domain, domain, owns, word_at, is_pair, linked}
use Rattle.model_agent.specs.Message.{known}
use Rattle.model_agent.specs.Traffic.{Sort, each_sort, each_count, top}
use Rattle.model_agent.specs.Shape.{max_named}
use Rattle.model_agent.proofs.Traffic.{to-each-count}
use Rattle.model_network.specs.Network.{Network as Network'}
use Rattle.model_network.specs.Shape.{each_named, each_in, holds_value, listens_upward, informs_downward, view_listened, nogood_fits, nogoods_fit, counts_fit, unused, lhs_fits}
use Rattle.model_base.specs.Sets.{members}
use Rattle.abt_packed.specs.Packed.{assignment}
use Rattle.abt_packed.proofs.Known.{known-suc}
use Rattle.abt_packed.proofs.Digits.{pow16, cut-before, cut-from}
use Rattle.abt_choosing.specs.Choosing.{nogood_at}
use Rattle.abt_agent.specs.Abstract.{assigned, count_of, counts_of, agent_of}
use Rattle.abt_agent.specs.declared.Agent.{Agent}
use Rattle.abt_shape.specs.Parts.{Domains, set_of}
use Rattle.abt_shape.proofs.Words.{in-same, in-other, none_in, none_named, set_at}
use Rattle.abt_shape.proofs.Ranges.{within-at}

below-is : (k i : ℕ) → 1 ≤ i → ltb k i ≡ leb k (i - 1)
below-is k i h =
    test (ltb k i)
    (λ t. rw (t, le-leb k (i - 1) (omega (arith, ltb-true k i t))))
    (λ t. rw (t, lt-leb k (i - 1) (omega (arith, ltb-false k i t))))

pub upward : (w : Network') (i listens : ℕ) → 1 ≤ i → (w.agents i).listens ≡ members listens
    → listens_upward w i ≡ each_in (members listens) (λ k. leb k (i - 1))
unfolding listens_upward
upward w i listens h e = rw e (in-same listens (λ k. ltb k i) (λ k. leb k (i - 1)) (λ k l u. below-is k i h))

pub downward : (w : Network') (i count informs : ℕ) → w.problem.count ≡ count → (w.agents i).informs ≡ members informs
    → informs_downward w i ≡ each_in (members informs) (λ k. ltb i k) && each_in (members informs) (λ k. leb k count)
unfolding informs_downward each_in
downward w i count informs e f =
    rw (e, f)
    (all_to-same max_named _ _ (λ k l u. or-and_distrib_left (not (members informs k)) (ltb i k) (leb k count))
    ∙ all_to-and max_named (λ k. not (members informs k) || ltb i k) (λ k. not (members informs k) || leb k count))

-- ---- values against the domains

-- a value that an agent owns, if it has one, is at most its domain
owned-to : (p : Problem) (k v : ℕ) → not (known v) || owns p k v ≡ leb v (domain p k)
unfolding owns known
owned-to p k zero = sym (le-leb 0 (domain p k) (omega arith))
owned-to p k (suc v) = rw (known-suc v) (within-at (domain p k) (suc v) (omega arith))

pub value-is : (w : Network') (i d value : ℕ) → domain w.problem i ≡ d → (w.agents i).value ≡ value
    → holds_value w i ≡ cond (eqb value 0) w.unsolvable (leb value d)
unfolding holds_value owns within
value-is w i d zero e f = rw (e, f) (and-true w.unsolvable)
value-is w i d (suc v) e f = rw (e, f, within-at d (suc v) (omega arith), eqb-suc-zero v, and-false, or-false)

pub view-is : (w : Network') (i domains listens view : ℕ) → Domains w.problem domains → (w.agents i).listens ≡ members listens
    → (w.agents i).view ≡ assignment view
    → view_listened w i
    ≡ all_to max_named (λ k. leb (assignment view k) (assignment domains k)) && all_to max_named (λ k. not (known (assignment view k)) || members listens k)
unfolding view_listened each_named
view-is w i domains listens view o e f =
    rw (e, f)
    (all_to-same max_named _ _ (λ k a b. both-asked k)
    ∙ all_to-and max_named (λ k. leb (assignment view k) (assignment domains k)) (λ k. not (known (assignment view k)) || members listens k))
  where
    both-asked : (k : ℕ) → not (known (assignment view k)) || (members listens k && owns w.problem k (assignment view k))
        ≡ leb (assignment view k) (assignment domains k) && (not (known (assignment view k)) || members listens k)
    both-asked k =
        rw (
          and_comm (members listens k) (owns w.problem k (assignment view k)),
          or-and_distrib_left (not (known (assignment view k))) (owns w.problem k (assignment view k)) (members listens k),
          owned-to w.problem k (assignment view k),
          o k,
        )

pub names_in : (view named listens : ℕ) → ((k : ℕ) → members named k ≡ known (assignment view k)) → named < 2 ^ 16 → listens < 2 ^ 16
    → all_to max_named (λ k. not (known (assignment view k)) || members listens k) ≡ eqb (bit_and named (2 ^ 16 - 1 - listens)) 0
unfolding each_in
names_in view named listens g h l = all_to-same max_named _ _ (λ k a b. rw (← g k)) ∙ in-other named listens h l

-- the left side of a refusal to agent j, where the word is cut off before the digit of agent j
pub lhs-is : (p : Problem) (j domains lhs : ℕ) → 1 ≤ j → Domains p domains
    → lhs_fits p j (assignment lhs) ≡ all_to max_named (λ k. leb (assignment lhs k) (assignment (domains % 2 ^ (4 * (j - 1))) k))
unfolding lhs_fits each_named known
lhs-is p j domains lhs h o = rw (← pow16 (j - 1)) (all_to-same max_named _ _ (λ k a b. each k a))
  where
    unnamed : (v : ℕ) → not (known v) ≡ leb v 0
    unnamed zero = refl
    unnamed (suc v) = rw (known-suc v) (sym (lt-leb (suc v) 0 (omega arith)))

    each : (k : ℕ) → 1 ≤ k → not (known (assignment lhs k)) || (ltb k j && owns p k (assignment lhs k))
        ≡ leb (assignment lhs k) (assignment (domains % 16 ^ (j - 1)) k)
    each k a =
        test (ltb k j)
        (λ t. rw (t, owned-to p k (assignment lhs k), ← o k, cut-before (j - 1) domains k (omega (arith, ltb-true k j t))))
        (λ t. rw (t, cut-from (j - 1) domains k (omega (arith, ltb-false k j t)), or-false) (unnamed (assignment lhs k)))

-- ---- nogoods

from_at : {A : Type 0} (z : A) (f : ℕ → A) (v : ℕ) → 1 ≤ v → from_one z f v ≡ f (v - 1)
unfolding from_one
from_at z f zero h = absurd (not-suc-le-zero h)
from_at z f (suc v) h = let e : suc v - 1 ≡ v = omega arith in rw e

-- the nogood of value u + 1 fits, where the domain is d
unfoldable pub stored_fits : ℕ → Agent → ℕ → Bool
stored_fits d a u =
    not (bit a.nogood_mask u)
    || (ltb u d && each_named (assignment (get_or a.nogoods u 0)) (λ k v. eqb v (assignment a.view.digits k)))

nogood-is : (d : ℕ) (a : Agent) (v : ℕ) → 1 ≤ v → nogood_fits (within d v) (agent_of a).view ((agent_of a).nogoods v) ≡ stored_fits d a (v - 1)
unfolding stored_fits agent_of nogood_at nogood_fits assigned
nogood-is d a v h =
    rw (from_at None (nogood_at a.nogood_mask a.nogoods) v h, owned-is)
    (test (bit a.nogood_mask (v - 1)) (λ t. rw (t, nogood_at)) (λ t. rw (t, nogood_at)))
  where
    owned-is : within d v ≡ ltb (v - 1) d
    owned-is =
        within-at d v h
        ∙ test (leb v d)
        (λ t. rw (t, lt-ltb (v - 1) d (omega (arith, leb-true v d t))))
        (λ t. rw (t, le-ltb (v - 1) d (omega (arith, leb-false v d t))))

pub nogoods-is : (w : Network') (i d : ℕ) (a : Agent) → domain w.problem i ≡ d → w.agents i ≡ agent_of a
    → nogoods_fit w i ≡ all_to 8 (λ v. stored_fits d a (v - 1))
unfolding nogoods_fit max_domain owns
nogoods-is w i d a e f = rw (e, f) (all_to-same 8 _ _ (λ v l u. nogood-is d a v l))

-- as the code tests it: at a value that is not owned; at an owned one; and no nogood
pub stored-out : (d : ℕ) (a : Agent) (u : ℕ) → a.nogood_mask / 2 ^ u % 2 ≡ 1 → d ≤ u → stored_fits d a u ≡ false
unfolding stored_fits bit
stored-out d a u e h = rw (eq-eqb (a.nogood_mask / 2 ^ u % 2) 1 e, le-ltb u d h)

pub stored-seen : (d : ℕ) (a : Agent) (u : ℕ) → a.nogood_mask / 2 ^ u % 2 ≡ 1 → u < d
    → stored_fits d a u
    ≡ all_to max_named (λ k. not (known (assignment (get_or a.nogoods u 0) k)) || eqb (assignment (get_or a.nogoods u 0) k) (assignment a.view.digits k))
unfolding stored_fits bit each_named
stored-seen d a u e h = rw (eq-eqb (a.nogood_mask / 2 ^ u % 2) 1 e, lt-ltb u d h)

pub unstored : (d : ℕ) (a : Agent) (u : ℕ) → (a.nogood_mask / 2 ^ u % 2 ≡ 1 → ⊥) → stored_fits d a u ≡ true
unfolding stored_fits bit
unstored d a u n = rw (ne_eqb (a.nogood_mask / 2 ^ u % 2) 1 n)

stored_is : (a : Agent) (v : ℕ) → 1 ≤ v → is_some ((agent_of a).nogoods v) ≡ bit a.nogood_mask (pred v)
unfolding agent_of nogood_at is_some
stored_is a v h =
    let e : pred v ≡ v - 1 = omega arith in
    rw (from_at None (nogood_at a.nogood_mask a.nogoods) v h, e)
    (test (bit a.nogood_mask (v - 1)) (λ t. rw (t, nogood_at)) (λ t. rw (t, nogood_at)))

none-stored : (a : Agent) → a.nogood_mask < 2 ^ 8 → all_to max_domain (λ v. not (is_some ((agent_of a).nogoods v))) ≡ eqb a.nogood_mask 0
unfolding max_domain
none-stored a h =
    all_to-same 8 _ (λ v. not (bit a.nogood_mask (pred v)) || leb v 0) (λ v l u. rw (stored_is a v l, lt-leb v 0 l, or-false))
    ∙ below-test 8 a.nogood_mask 0 h
    ∙ ap (λ (n : ℕ). eqb n 0) (div-one a.nogood_mask)

-- an agent of which every field is zero
unfoldable pub zeroed : Agent → Bool
zeroed a =
    eqb a.value 0
    && eqb a.last 0
    && eqb a.listens 0
    && eqb a.informs 0
    && eqb a.view.digits 0
    && eqb a.nogood_mask 0
    && (each_sort (count_of a.sent) (λ c. eqb c 0) && each_sort (count_of a.received) (λ c. eqb c 0))

pub unused-is : (a : Agent) → a.listens < 2 ^ 16 → a.informs < 2 ^ 16 → a.view.digits < 2 ^ 64 → a.nogood_mask < 2 ^ 8
    → unused (agent_of a) ≡ zeroed a
unfolding unused zeroed agent_of assigned counts_of each_count
unused-is a l i v s = rw (none_in a.listens l, none_in a.informs i, none_named a.view.digits v, none-stored a s)

-- ---- counts

-- any numbers of 64 bits will do
pub counts-fit : (w : Network') (i : ℕ) (a : Agent) → w.agents i ≡ agent_of a
    → ((x : Sort) → (count_of a.sent x ≤ top) × (count_of a.received x ≤ top)) → counts_fit w i ≡ true
unfolding counts_fit agent_of counts_of
counts-fit w i a e few =
    rw e (to-each-count (counts_of a.sent a.received) (λ c. leb c top) (λ x. (le-leb _ top (few x).0, le-leb _ top (few x).1)))

-- ---- agents that a ban word links

pub linked-at : (p : Problem) (bans : List ℕ) (i j : ℕ) → p.bans ≡ bans → 1 ≤ i → i < j → j ≤ 12
    → linked p i j ≡ ltb 0 (get_or bans (word_at i j) 0)
unfolding linked is_pair max_agents
linked-at p bans i j e h l u = rw (lt-ltb 0 i h, lt-ltb i j l, le-leb j 12 u, e)

-- an agent i above j, as the code looks at it
unfoldable pub heard_from : Network' → ℕ → ℕ → Bool
heard_from w j i = cond ((w.agents i).informs j) ((w.agents j).listens i) (not (linked w.problem i j))

pub heard-is : (w : Network') (bans informs : List ℕ) (i j listens at : ℕ) → w.problem.bans ≡ bans
    → ((k x : ℕ) → (w.agents k).informs x ≡ set_of informs k x) → (w.agents j).listens ≡ members listens
    → 1 ≤ i → i < j → j ≤ 12 → at ≡ word_at i j
    → heard_from w j i ≡ cond (members (get_or informs (i - 1) 0) j) (members listens i) (not (ltb 0 (get_or bans at 0)))
unfolding heard_from
heard-is w bans informs i j listens at e f g a b d h =
    rw (f i j, set_at informs i j a, g, linked-at w.problem bans i j e a b d, h)
