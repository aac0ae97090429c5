-- The problem that the agents (scanners) solve: how many they are, their domains (slot counts), and the bans between their values
-- (slots). docs/RULES.md, 'The rail' and 'The sheet'.
use Rattle.std.specs.Prelude.{ℕ, zero, suc, pred, ◌+◌, ◌*◌, ◌^◌, ◌≤◌, ◌≡◌, Bool, true, false, not, cond, ◌&&◌, ◌||◌, List, length, get_or, set, replicate, eqb, ltb, leb}
use Rattle.model_base.specs.Finite.{within, all_to, each, greatest}
use Rattle.model_base.specs.Bits.{bit, with_bit}

-- "n scanners, 1 to 12"
unfoldable pub max_agents : ℕ
max_agents = 12

-- "d_i is 1 to 8"
unfoldable pub max_domain : ℕ
max_domain = 8

-- pairs of agents, lower and higher
unfoldable pub max_pairs : ℕ
max_pairs = 66

pub record Problem : Type 0 where
  pub count : ℕ  -- n
  pub domains : List ℕ  -- twelve slot counts, zero beyond n
  pub bans : List ℕ  -- the ban table: 66 words of 64 bits

-- the slot count of agent i
unfoldable pub domain : Problem → ℕ → ℕ
domain p zero = 0
domain p (suc i) = get_or p.domains i 0

-- agent i owns value v
unfoldable pub owns : Problem → ℕ → ℕ → Bool
owns p i v = within (domain p i) v

-- ---- the ban table. The words of one higher agent stand together: agent j has the words of the pairs (1, j) to (j - 1, j).

-- 0 + 1 + .. + (m - 1), the words of the agents before
unfoldable pub pairs_before : ℕ → ℕ
pairs_before zero = 0
pairs_before (suc m) = m + pairs_before m

-- the word of lower agent i and higher agent j
unfoldable pub word_at : ℕ → ℕ → ℕ
word_at i j = pairs_before (pred j) + pred i

-- the bit of the lower's value v and the higher's value w
unfoldable pub bit_at : ℕ → ℕ → ℕ
bit_at v w = 8 * pred v + pred w

-- lower agent i and higher agent j, both possible
unfoldable pub is_pair : ℕ → ℕ → Bool
is_pair i j = ltb 0 i && ltb i j && leb j max_agents

-- agent i at value v and agent j at value w are banned, i the lower-numbered
unfoldable pub banned : Problem → ℕ → ℕ → ℕ → ℕ → Bool
banned p i j v w =
    is_pair i j && within max_domain v && within max_domain w && bit (get_or p.bans (word_at i j) 0) (bit_at v w)

-- "Two scanners are linked from the start exactly if some ban names both"
unfoldable pub linked : Problem → ℕ → ℕ → Bool
linked p i j = is_pair i j && ltb 0 (get_or p.bans (word_at i j) 0)

-- the problem with another table
unfoldable pub with_table : Problem → List ℕ → Problem
with_table p t = record { count = p.count; domains = p.domains; bans = t }

-- a word with the bit of each pair of values, v of 1 to d and w of 1 to e, that h names; the same pair twice counts once
unfoldable pub with_bits : ℕ → ℕ → (ℕ → ℕ → Bool) → ℕ → ℕ
with_bits d e h = each d (λ v. each e (λ w x. cond (h v w) (with_bit x (bit_at v w)) x))

-- the problem with a ban of each pair of owned values of lower agent i and higher agent j that h names
unfoldable pub with_bans : Problem → ℕ → ℕ → (ℕ → ℕ → Bool) → Problem
with_bans p i j h =
    with_table p
    (set p.bans (word_at i j) (with_bits (domain p i) (domain p j) h (get_or p.bans (word_at i j) 0)))

unfoldable pub no_bans : List ℕ
no_bans = replicate max_pairs 0

-- ---- "n and slot counts are in range, and bans are only between owned slots"

unfoldable pub count_in_range : Problem → Bool
count_in_range p = within max_agents p.count

-- of agent i: from 1 to 8, and zero beyond n
unfoldable pub domain_in_range : Problem → ℕ → Bool
domain_in_range p i = elim (leb i p.count) [ true ↦ within max_domain (domain p i) | false ↦ eqb (domain p i) 0 ]

-- every bit of a word stands for owned values of two agents with domains d and e
unfoldable pub word_owned : ℕ → ℕ → ℕ → Bool
word_owned d e word =
    ltb word (2 ^ 64)
    && all_to max_domain (λ v. all_to max_domain (λ w. not (bit word (bit_at v w)) || (within d v && within e w)))

unfoldable pub bans_owned : Problem → Bool
bans_owned p =
    all_to max_agents (λ j. all_to (pred j) (λ i. word_owned (domain p i) (domain p j) (get_or p.bans (word_at i j) 0)))

-- the arrays have their lengths
unfoldable pub sized : Problem → Bool
sized p = eqb (length p.domains) max_agents && eqb (length p.bans) max_pairs

unfoldable pub in_range : Problem → Bool
in_range p = sized p && count_in_range p && all_to max_agents (domain_in_range p) && bans_owned p

-- d, "the largest of the slot counts"
unfoldable pub largest_domain : Problem → ℕ
largest_domain p = greatest p.count (domain p)

-- "n = 0, all else zero"
unfoldable pub empty_problem : Problem
empty_problem = record { count = 0; domains = replicate max_agents 0; bans = no_bans }

-- ---- an assignment of values to agents obeys all bans

pub record Obeys (p : Problem) (σ : ℕ → ℕ) : Type 0 where
  pub owned : (i : ℕ) → 1 ≤ i → i ≤ p.count → owns p i (σ i) ≡ true
  pub allowed : (i j : ℕ) → banned p i j (σ i) (σ j) ≡ false
