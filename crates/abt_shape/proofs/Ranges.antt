-- The parts of `in_range` as the code tests them: n, and the domains, also as the digits of a word.
use Rattle.std.proofs.Common.{ℕ, zero, suc, ◌+◌, ◌*◌, ◌-◌, ◌/◌, ◌%◌, ◌^◌, ◌≤◌, ◌<◌, ◌≡◌, refl, sym, ap, ◌∙◌, true, false, ◌&&◌, List, [], ◌∷◌, ◌++◌, not-suc-le-zero, pow-suc, mod-lt, lt_of_lt_of_le, arith, eqb, ltb, leb, length, get_or, take, length-append, lt-ltb, le-leb, ltb-true, ltb-false, leb-true, leb-false}
use mathlib.Core.Bool.{and-false}
use native.Mathlib.Nat.{pow-le-pow_right}
use lib.ListN.{get_or-eq_default}
use lib.Seq.{get_or-append_seam, take-append_seam}
use Rattle.std.proofs.lemmas.List.{get_or-take, take-take}
use borrow.Author.Tests.{lt-leb}
use Rattle.model_base.specs.Finite.{from_one, within, all_to}
use Rattle.model_base.proofs.Tests.{test, eq_test, to-within, not_within}
use Rattle.model_sheet.specs.Problem.{Problem, max_agents, max_domain, domain, count_in_range, domain_in_range, bans_owned, sized, in_range}
use Rattle.model_sheet.proofs.Range.{Ranged}
use Rattle.abt_packed.specs.Packed.{assignment}
use Rattle.abt_packed.proofs.Digits.{assigned-first, assigned-next, digit-above}

-- ---- who owns what

pub within-at : (m k : ℕ) → 1 ≤ k → within m k ≡ leb k m
unfolding within
within-at m k h = rw (lt-ltb 0 k h)

pub domain-at : (p : Problem) (domains : List ℕ) (k : ℕ) → p.domains ≡ domains → 1 ≤ k → domain p k ≡ get_or domains (k - 1) 0
unfolding domain
domain-at p domains zero e h = absurd (not-suc-le-zero h)
domain-at p domains (suc k) e h = let d : suc k - 1 ≡ k = omega arith in rw (d, e)

pub domain-next : (p : Problem) (domains : List ℕ) (k : ℕ) → p.domains ≡ domains → domain p (k + 1) ≡ get_or domains k 0
domain-next p domains k e = let one : k + 1 - 1 ≡ k = omega arith in domain-at p domains (k + 1) e (omega arith) ∙ rw one

-- ---- domains

pub in-range-within : (p : Problem) (i : ℕ) → i ≤ p.count → domain_in_range p i ≡ within max_domain (domain p i)
unfolding domain_in_range
in-range-within p i h = rw (le-leb i p.count h, domain_in_range)

pub in-range-zero : (p : Problem) (i : ℕ) → p.count < i → domain_in_range p i ≡ eqb (domain p i) 0
unfolding domain_in_range
in-range-zero p i h = rw (lt-leb i p.count h, domain_in_range)

-- n is one of 1 to 12
pub count-out : (p : Problem) (count : ℕ) → p.count ≡ count → (1 ≤ count → count ≤ 12 → ⊥) → in_range p ≡ false
unfolding in_range count_in_range max_agents
count-out p count e n = rw (e, not_within 12 count n, and-false)

pub in-range : (p : Problem) (count : ℕ) → sized p ≡ true → p.count ≡ count → 1 ≤ count → count ≤ 12
    → in_range p ≡ all_to max_agents (domain_in_range p) && bans_owned p
unfolding in_range count_in_range max_agents
in-range p count s e h l = rw (s, e, to-within max_agents count h l)

-- ---- the domains as digits, from agent 12 down: those of the agents above i stand in the word

pub record Digits (domains : List ℕ) (i word : ℕ) : Type 0 where
  pub few : i ≤ 12
  pub small : word < 16 ^ (12 - i)
  pub are : (k : ℕ) → i < k → k ≤ 12 → assignment word (k - i) ≡ get_or domains (k - 1) 0 % 16

pub none_yet : (domains : List ℕ) → Digits domains 12 0
none_yet domains = record { few = omega arith; small = omega arith; are = λ k a b. absurd (omega arith) }

pub room : (domains : List ℕ) (i word : ℕ) → 0 < i → Digits domains i word → word < 16 ^ 11
room domains i word l s = lt_of_lt_of_le s.small (pow-le-pow_right {n = 16} (omega arith) {j = 11} (omega arith))

pub one_more : (domains : List ℕ) (i word d : ℕ) → 0 < i → Digits domains i word → d ≡ get_or domains (i - 1) 0 % 16
    → Digits domains (i - 1) (word * 16 + d)
one_more domains i word d l s e =
    let t : 12 - (i - 1) ≡ suc (12 - i) = omega (arith, s.few) in
    let f : d < 16 = rw e (mod-lt (get_or domains (i - 1) 0) (omega arith)) in
    record {
      few = omega (arith, s.few);
      small = rw (t, pow-suc 16 (12 - i)) (omega (arith, s.small));
      are = λ k a b. eq_test k i (first f k) (λ n. next f k (omega (arith, n)) b);
    }
  where
    first : d < 16 → (k : ℕ) → k ≡ i → assignment (word * 16 + d) (k - (i - 1)) ≡ get_or domains (k - 1) 0 % 16
    first f k q =
        let o : k - (i - 1) ≡ 1 = omega arith in
        let g : (word * 16 + d) % 16 ≡ d = omega arith in
        rw (o, assigned-first (word * 16 + d), g, q) e

    next : d < 16 → (k : ℕ) → i < k → k ≤ 12 → assignment (word * 16 + d) (k - (i - 1)) ≡ get_or domains (k - 1) 0 % 16
    next f k a b =
        let o : k - (i - 1) ≡ suc (k - i) = omega arith in
        let g : (word * 16 + d) / 16 ≡ word = omega arith in
        rw (o, assigned-next (word * 16 + d) (k - i) (omega arith), g) (s.are k a b)

pub all_digits : (p : Problem) (domains : List ℕ) (i word : ℕ) → Digits domains i word → i ≡ 0 → p.domains ≡ domains → length p.domains ≡ 12
    → (k : ℕ) → assignment word k ≡ domain p k % 16
unfolding assignment from_one domain
all_digits p domains i word s z e l zero = refl
all_digits p domains i word s z e l (suc k) =
    test (ltb k 12)
    (λ t. let h : suc k ≡ suc k - i = omega arith in let g : suc k - 1 ≡ k = omega arith in
    ap (assignment word) h ∙ s.are (suc k) (omega arith) (ltb-true k 12 t) ∙ rw (e, g))
    (λ t. let h : word < 16 ^ 12 = rw z at s.small in
    rw (digit-above 12 word k h (ltb-false k 12 t), get_or-eq_default p.domains 0 {n = k} (omega (arith, ltb-false k 12 t))))

-- going through a list from its end: of a stretch left, which is the list's front, the last is the list's item behind the others
pub from-end : (l left others : List ℕ) (x : ℕ) → take (length left) l ≡ left → left ≡ others ++ (x ∷ [])
    → (take (length others) l ≡ others) × (get_or l (length left - 1) 0 ≡ x) × (length left ≡ suc (length others))
from-end l left others x e q =
    let n = length others in
    let more : length left ≡ suc n = omega (arith, ap length q, length-append others (x ∷ [])) in
    let place : length left - 1 ≡ n = omega (arith, more) in (
      sym (take-take n (length left) l (omega (arith, more))) ∙ ap (take n) (e ∙ q) ∙ take-append_seam others (x ∷ []),
      rw place (sym (get_or-take (length left) l n 0 (omega (arith, more))) ∙ ap (λ (m : List ℕ). get_or m n 0) (e ∙ q) ∙ get_or-append_seam others x [] 0),
      more,
    )

-- a problem in range has domains below 16
pub small-domain : (p : Problem) → Ranged p → (k : ℕ) → domain p k % 16 ≡ domain p k
unfolding max_agents max_domain domain
small-domain p r zero = refl
small-domain p r (suc k) =
    test (leb (suc k) p.count)
    (λ t. let h = (r.domained (suc k) (omega arith) (leb-true (suc k) p.count t)).1 in omega arith)
    (λ t. test (ltb k 12)
    (λ u. rw (r.beyond (suc k) (leb-false (suc k) p.count t) (ltb-true k 12 u)))
    (λ u. rw (get_or-eq_default p.domains 0 {n = k} (omega (arith, r.domains_long, ltb-false k 12 u)))))
