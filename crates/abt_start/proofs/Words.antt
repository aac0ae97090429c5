-- Links read off the ban table: two agents are linked where the word of their pair is not zero.
use Rattle.std.proofs.Common.{◌≡◌, refl, sym, ◌∙◌, Bool, false, not, ◌&&◌, List, [], ℕ, zero, suc, pred, ◌+◌, ◌-◌, ◌≤◌, ◌<◌, arith, eqb, ltb, leb, get_or, ne_eqb, ltb-true, leb-true, leb-false, lt-ltb, le-leb}
use borrow.Author.Tests.{lt-leb}
use Rattle.model_base.proofs.Tests.{test}
use Rattle.model_sheet.specs.Problem.{Problem, max_agents, pairs_before, word_at, is_pair, linked}

-- links hang on the ban table alone
abbrev pub table : List ℕ → Problem
table bans = record { count = 0; domains = []; bans = bans }

pub table-linked : (p : Problem) (bans : List ℕ) → p.bans ≡ bans → (i j : ℕ) → linked (table bans) i j ≡ linked p i j
unfolding linked
table-linked p bans e i j = rw (← e)

pub not-linked : (p : Problem) (i j : ℕ) → (1 ≤ i → i < j → j ≤ 12 → ⊥) → linked p i j ≡ false
unfolding linked is_pair max_agents
not-linked p i j h =
    test (ltb 0 i)
    (λ a. test (ltb i j)
    (λ b. test (leb j 12) (λ c. absurd (h (ltb-true 0 i a) (ltb-true i j b) (leb-true j 12 c))) (λ c. rw (a, b, c)))
    (λ b. rw (a, b)))
    (λ a. rw a)

-- as the code reads it off, at the place of the pair's word
pub is-linked : (bans : List ℕ) (i j x : ℕ) → 1 ≤ i → i < j → j ≤ 12 → x ≡ word_at i j
    → not (eqb (get_or bans x 0) 0) ≡ linked (table bans) i j
unfolding linked is_pair max_agents
is-linked bans i j x l h u e = rw (e, lt-ltb 0 i l, lt-ltb i j h, le-leb j 12 u) (not-zero (get_or bans (word_at i j) 0))
  where
    not-zero : (w : ℕ) → not (eqb w 0) ≡ ltb 0 w
    not-zero zero = refl
    not-zero (suc w) = rw (ne_eqb (suc w) 0 (λ q. omega arith), lt-ltb 0 (suc w) (omega arith))

-- ---- up to agent n

-- the links of agent i as far as agent n
abbrev pub linked_to : List ℕ → ℕ → ℕ → ℕ → Bool
linked_to bans n i k = leb k n && linked (table bans) i k

pub none-beyond : (bans : List ℕ) (n i k : ℕ) → n < k → linked_to bans n i k ≡ false
none-beyond bans n i k h = rw (lt-leb k n h)

pub as-far : (bans : List ℕ) (n i k : ℕ) → k ≤ n → linked_to bans n i k ≡ linked (table bans) i k
as-far bans n i k h = rw (le-leb k n h)

-- where nobody beyond n is linked, these are all
pub all-linked : (p : Problem) (bans : List ℕ) (n i : ℕ) → p.bans ≡ bans → ((k : ℕ) → n < k → linked p i k ≡ false) → (k : ℕ)
    → linked_to bans n i k ≡ linked p i k
all-linked p bans n i e none k =
    test (leb k n)
    (λ t. as-far bans n i k (leb-true k n t) ∙ table-linked p bans e i k)
    (λ t. none-beyond bans n i k (leb-false k n t) ∙ sym (none k (leb-false k n t)))

-- ---- where a word stands

-- the place, from where the words of the higher agent begin
pub word-from : (i j before : ℕ) → before ≡ pairs_before (pred j) → before + (i - 1) ≡ word_at i j
unfolding word_at
word-from i j before e = let d : i - 1 ≡ pred i = omega arith in rw (e, d)
