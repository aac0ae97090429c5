-- A problem in range, as facts: its lengths and counts, and every bit of the ban table between owned values. The clauses of the test, both
-- ways; and what one more ban does to the table.
use Rattle.std.proofs.Common.{◌≡◌, refl, sym, ◌∙◌, ◌⊎◌, inl, inr, Bool, true, ◌&&◌, List, ℕ, zero, suc, pred, ◌+◌, ◌*◌, ◌^◌, ◌/◌, ◌%◌, ◌≤◌, ◌<◌, arith, length, get_or, set, get_or-set_same, get_or-set_other, eqb, ltb, leb, eqb-true, ltb-true, ltb-false, leb-true, leb-false, eq-eqb, lt-ltb, le-leb}
use mathlib.Core.Bool.{false≢true}
use lib.ListN.{length-replicate, get_or-replicate, get_or-eq_default}
use borrow.Author.Tests.{eqb-false, lt-leb}
use Rattle.model_base.specs.Finite.{within, all_to}
use Rattle.model_base.specs.Bits.{bit}
use Rattle.model_base.proofs.Tests.{test, within-true, to-within, both, to_both, or_cases, implied, to-implied}
use Rattle.model_base.proofs.Search.{all_to-at, to-all_to}
use Rattle.model_base.proofs.Bits.{bit-of-zero, bit-positive, some-bit}
use Rattle.model_sheet.specs.Problem.{
  Problem,
  max_agents,
  max_domain,
  max_pairs,
  domain,
  pairs_before,
  word_at,
  bit_at,
  is_pair,
  banned,
  linked,
  with_table,
  with_bits,
  no_bans,
  count_in_range,
  domain_in_range,
  word_owned,
  bans_owned,
  sized,
  in_range,
}
use Rattle.model_sheet.proofs.Bits.{bits, bits_below}

-- ---- one word

-- every bit of a word stands for owned values of two agents with domains d and e
pub record WordFits (d e word : ℕ) : Type 0 where
  pub short : word < 2 ^ 64
  pub owned : (v w : ℕ) → 1 ≤ v → v ≤ max_domain → 1 ≤ w → w ≤ max_domain → bit word (bit_at v w) ≡ true
      → (within d v ≡ true) × (within e w ≡ true)

pub word_fits : (d e word : ℕ) → word_owned d e word ≡ true → WordFits d e word
unfolding word_owned
word_fits d e word h =
    record {
      short = ltb-true word (2 ^ 64) (both _ _ h).0;
      owned = λ v w lv hv lw hw b.
          let all = (both (ltb word (2 ^ 64)) _ h).1 in
          let row = all_to-at _ _ all v lv hv in
          let one = all_to-at _ _ row w lw hw in
          both _ _ (implied _ _ one b);
    }

pub to-word-fits : (d e word : ℕ) → WordFits d e word → word_owned d e word ≡ true
unfolding word_owned
to-word-fits d e word f =
    to_both _ _ (lt-ltb word (2 ^ 64) f.short)
    (to-all_to _ _ (λ v lv hv. to-all_to _ _ (λ w lw hw.
    to-implied _ _ (λ b. let o = f.owned v w lv hv lw hw b in to_both _ _ o.0 o.1))))

-- the word with the pairs of owned values that h names
pub word-adds : (h : ℕ → ℕ → Bool) (d e word : ℕ) → d ≤ max_domain → e ≤ max_domain → WordFits d e word → WordFits d e (with_bits d e h word)
word-adds h d e word hd he f =
    record {
      short = bits_below h d e word hd he f.short;
      owned = λ v w lv hv lw hw b.
          owned v w lv hv lw hw
          (or_cases _ _ (sym (bits h v w (record { low = lv; high = hv }) (record { low = lw; high = hw }) d e word hd he) ∙ b));
    }
  where
    owned : (v w : ℕ) → 1 ≤ v → v ≤ max_domain → 1 ≤ w → w ≤ max_domain
        → (bit word (bit_at v w) ≡ true) ⊎ (within d v && within e w && h v w ≡ true) → (within d v ≡ true) × (within e w ≡ true)
    owned v w lv hv lw hw (inl b) = f.owned v w lv hv lw hw b
    owned v w lv hv lw hw (inr b) = both (within d v) _ (both (within d v && within e w) _ b).0

-- a word that is not zero names two values
word_value : (word : ℕ) → 1 ≤ word → word < 2 ^ 64
    → (v : ℕ) × (w : ℕ) × (within max_domain v ≡ true) × (within max_domain w ≡ true) × (bit word (bit_at v w) ≡ true)
unfolding max_domain bit_at
word_value word l h =
    let b = some-bit 64 word l h in (
      suc (b.0 / 8),
      suc (b.0 % 8),
      to-within _ _ (omega arith) (omega arith),
      to-within _ _ (omega arith) (omega arith),
      rw (place b.0) b.2,
    )
  where
    place : (k : ℕ) → 8 * (k / 8) + k % 8 ≡ k
    place k = omega arith

-- owned ones, if it fits
word-named : (d e word : ℕ) → WordFits d e word → 1 ≤ word → (1 ≤ d) × (1 ≤ e)
word-named d e word f l =
    let b = word_value word l f.short in
    let v = within-true _ _ b.2 in
    let w = within-true _ _ b.3 in
    let o = f.owned b.0 b.1 v.0 v.1 w.0 w.1 b.4 in
    (omega (arith, within-true d _ o.0), omega (arith, within-true e _ o.1))

-- ---- where a pair's word stands

before-up : (m n : ℕ) → m ≤ n → pairs_before m ≤ pairs_before n
unfolding pairs_before
before-up m zero h = let z : m ≡ 0 = omega arith in rw z (omega arith)
before-up m (suc n) h =
    test (eqb m (suc n))
    (λ q. rw (eqb-true m (suc n) q) (omega arith))
    (λ q. let r = before-up m n (omega (arith, eqb-false m (suc n) q)) in omega arith)

-- agent j's words stand behind those of the agents before it
word-behind : (i j : ℕ) → pairs_before (pred j) ≤ word_at i j
unfolding word_at
word-behind i j = omega arith

word-ahead : (i j : ℕ) → 1 ≤ i → i < j → word_at i j < pairs_before j
unfolding word_at pairs_before
word-ahead i zero l h = absurd (omega arith)
word-ahead i (suc j) l h = omega arith

pub word-in-table : (i j : ℕ) → 1 ≤ i → i < j → j ≤ max_agents → word_at i j < max_pairs
unfolding max_agents max_pairs pairs_before
word-in-table i j l h u = let a = word-ahead i j l h in let b = before-up j 12 u in omega arith

-- one word for each pair
pub word-pair : (i j i' j' : ℕ) → 1 ≤ i → i < j → 1 ≤ i' → i' < j' → word_at i j ≡ word_at i' j' → (i ≡ i') × (j ≡ j')
unfolding word_at
word-pair i j i' j' l h l' h' e =
    test (ltb j j')
    (λ q. absurd (apart i j i' j' l h (ltb-true j j' q) e))
    (λ q. test (ltb j' j)
    (λ r. absurd (apart i' j' i j l' h' (ltb-true j' j r) (sym e)))
    (λ r. let s : j ≡ j' = omega (arith, ltb-false j j' q, ltb-false j' j r) in (same i i' l l' (rw s at e), s)))
  where
    apart : (i j i' j' : ℕ) → 1 ≤ i → i < j → j < j' → word_at i j ≡ word_at i' j' → ⊥
    apart i j i' j' l h u e = omega (arith, word-ahead i j l h, before-up j (pred j') (omega arith), word-behind i' j')

    same : (i i' : ℕ) → 1 ≤ i → 1 ≤ i' → word_at i j' ≡ word_at i' j' → i ≡ i'
    same i i' l l' e = omega arith

-- ---- the table

-- d: the agents' domains
abbrev pub Words : (ℕ → ℕ) → List ℕ → Type 0
Words d t = (i j : ℕ) → 1 ≤ i → i < j → j ≤ max_agents → WordFits (d i) (d j) (get_or t (word_at i j) 0)

pub no_words : (d : ℕ → ℕ) → Words d no_bans
unfolding no_bans
no_words d i j l h u =
    let z : get_or no_bans (word_at i j) 0 ≡ 0 = get_or-replicate max_pairs (word_at i j) 0 0 (word-in-table i j l h u) in
    rw z (record { short = omega arith; owned = λ v w _ _ _ _ b. absurd (false≢true (sym (bit-of-zero (bit_at v w)) ∙ b)) })

-- the table with pairs of owned values of agents i and j
pub words-add : (h : ℕ → ℕ → Bool) (d : ℕ → ℕ) (t : List ℕ) (i j : ℕ) → length t ≡ max_pairs → 1 ≤ i → i < j → j ≤ max_agents
    → d i ≤ max_domain → d j ≤ max_domain → Words d t
    → Words d (set t (word_at i j) (with_bits (d i) (d j) h (get_or t (word_at i j) 0)))
words-add h d t i j n l u r di dj f i' j' l' u' r' =
    test (eqb (word_at i' j') (word_at i j))
    (λ q. here (eqb-true _ _ q) (word-pair i' j' i j l' u' l u (eqb-true _ _ q)))
    (λ q. rw (get_or-set_other t (word_at i j) (word_at i' j') _ 0 (eqb-false _ _ q)) (f i' j' l' u' r'))
  where
    here : word_at i' j' ≡ word_at i j → (i' ≡ i) × (j' ≡ j)
        → WordFits (d i') (d j') (get_or (set t (word_at i j) (with_bits (d i) (d j) h (get_or t (word_at i j) 0))) (word_at i' j') 0)
    here e s =
        rw (e, s.0, s.1, get_or-set_same t (word_at i j) _ 0 (rw n (word-in-table i j l u r)))
        (word-adds h (d i) (d j) _ di dj (f i j l u r))

-- ---- the whole

pub record Ranged (p : Problem) : Type 0 where
  pub domains_long : length p.domains ≡ max_agents
  pub bans_long : length p.bans ≡ max_pairs
  pub low : 1 ≤ p.count
  pub high : p.count ≤ max_agents
  pub domained : (i : ℕ) → 1 ≤ i → i ≤ p.count → (1 ≤ domain p i) × (domain p i ≤ max_domain)
  pub beyond : (i : ℕ) → p.count < i → i ≤ max_agents → domain p i ≡ 0
  pub words : Words (domain p) p.bans

domain-fits : (p : Problem) (i : ℕ) → domain_in_range p i ≡ true
    → (i ≤ p.count → within max_domain (domain p i) ≡ true) × (p.count < i → domain p i ≡ 0)
unfolding domain_in_range
domain-fits p i e = (λ h. rw (le-leb i p.count h, domain_in_range) at e, λ h. eqb-true _ _ (rw (lt-leb i p.count h, domain_in_range) at e))

to-domain-fits : (p : Problem) (i : ℕ) → (i ≤ p.count → within max_domain (domain p i) ≡ true) → (p.count < i → domain p i ≡ 0)
    → domain_in_range p i ≡ true
unfolding domain_in_range
to-domain-fits p i f g =
    test (leb i p.count)
    (λ q. rw (q, domain_in_range) (f (leb-true _ _ q)))
    (λ q. rw (q, domain_in_range) (eq-eqb _ _ (g (leb-false _ _ q))))

-- n and the domains in range, and every word of the table
pub header-ranged : (p : Problem) → length p.domains ≡ max_agents → length p.bans ≡ max_pairs → count_in_range p ≡ true
    → all_to max_agents (domain_in_range p) ≡ true → Words (domain p) p.bans → Ranged p
unfolding count_in_range
header-ranged p dl bl n d f =
    let w = within-true max_agents p.count n in
    record {
      domains_long = dl;
      bans_long = bl;
      low = w.0;
      high = w.1;
      domained = λ i lo hi. within-true _ _ ((domain-fits p i (all_to-at _ _ d i lo (omega arith))).0 hi);
      beyond = λ i lo hi. (domain-fits p i (all_to-at _ _ d i (omega arith) hi)).1 lo;
      words = f;
    }

pub ranged : (p : Problem) → in_range p ≡ true → Ranged p
unfolding in_range sized bans_owned
ranged p e =
    let c = both (sized p && count_in_range p && all_to max_agents (domain_in_range p)) (bans_owned p) e in
    let d = both (sized p && count_in_range p) _ c.0 in
    let n = both (sized p) (count_in_range p) d.0 in
    let l = both (eqb (length p.domains) max_agents) _ n.0 in
    header-ranged p (eqb-true _ _ l.0) (eqb-true _ _ l.1) n.1 d.1 (λ i j lo h hi.
    let row = all_to-at _ _ c.1 j (omega arith) hi in
    word_fits _ _ _ (all_to-at _ _ row i lo (omega arith)))

pub to-count : (p : Problem) → Ranged p → count_in_range p ≡ true
unfolding count_in_range
to-count p r = to-within max_agents p.count r.low r.high

pub to-domains : (p : Problem) → Ranged p → all_to max_agents (domain_in_range p) ≡ true
to-domains p r =
    to-all_to max_agents (domain_in_range p)
    (λ i lo hi. to-domain-fits p i (λ u. let b = r.domained i lo u in to-within _ _ b.0 b.1) (λ u. r.beyond i u hi))

pub to-range : (p : Problem) → Ranged p → in_range p ≡ true
unfolding in_range sized bans_owned
to-range p r =
    let n = to_both (sized p) (count_in_range p)
    (to_both _ _ (eq-eqb _ _ r.domains_long) (eq-eqb _ _ r.bans_long)) (to-count p r) in
    let w = to-all_to max_agents _ (λ j lo hi. to-all_to (pred j) _ (λ i li hj.
    to-word-fits _ _ _ (r.words i j li (omega arith) hi))) in
    to_both _ _ (to_both _ _ n (to-domains p r)) w

-- another table changes no domain
pub domain-same : (p : Problem) (t : List ℕ) (i : ℕ) → domain (with_table p t) i ≡ domain p i
unfolding with_table domain
domain-same p t zero = refl
domain-same p t (suc i) = refl

-- another table in range
pub table-ranged : (p : Problem) (t : List ℕ) → Ranged p → length t ≡ max_pairs → Words (domain p) t → Ranged (with_table p t)
unfolding with_table
table-ranged p t r n f =
    record {
      domains_long = r.domains_long;
      bans_long = n;
      low = r.low;
      high = r.high;
      domained = λ i lo hi. rw (domain-same p t i) (r.domained i lo hi);
      beyond = λ i lo hi. rw (domain-same p t i) (r.beyond i lo hi);
      words = λ i j lo u hi. rw (domain-same p t i, domain-same p t j) (f i j lo u hi);
    }

pub none-long : length no_bans ≡ max_pairs
unfolding no_bans
none-long = length-replicate max_pairs 0

pub bare-ranged : (p : Problem) → Ranged p → Ranged (with_table p no_bans)
bare-ranged p r = table-ranged p no_bans r none-long (no_words (domain p))

-- no domain is larger than 8, of any number
pub domain-small : (p : Problem) → Ranged p → (i : ℕ) → domain p i ≤ max_domain
unfolding domain
domain-small p r zero = omega arith
domain-small p r (suc i) =
    test (leb (suc i) p.count)
    (λ q. (r.domained (suc i) (omega arith) (leb-true _ _ q)).1)
    (λ q. test (leb (suc i) max_agents)
    (λ u. rw (r.beyond (suc i) (leb-false _ _ q) (leb-true _ _ u)) (omega arith))
    (λ u. rw (get_or-eq_default p.domains 0 {n = i} (omega (arith, r.domains_long, leb-false (suc i) max_agents u))) (omega arith)))

-- ---- the links

-- a ban links
pub banned-linked : (p : Problem) (i j v w : ℕ) → banned p i j v w ≡ true → linked p i j ≡ true
unfolding banned linked
banned-linked p i j v w e =
    let b = both (is_pair i j && within max_domain v && within max_domain w) _ e in
    let c = both (is_pair i j && within max_domain v) _ b.0 in
    to_both _ _ (both (is_pair i j) _ c.0).0 (lt-ltb _ _ (bit-positive _ _ b.1))

pub linked-pair : (p : Problem) (i j : ℕ) → linked p i j ≡ true → (1 ≤ i) × (i < j) × (j ≤ max_agents)
unfolding linked is_pair
linked-pair p i j e =
    let h = both (is_pair i j) _ e in
    let u = both (ltb 0 i && ltb i j) (leb j max_agents) h.0 in
    let l = both (ltb 0 i) (ltb i j) u.0 in
    (ltb-true _ _ l.0, ltb-true _ _ l.1, leb-true _ _ u.1)

-- and a link is of some ban
pub linked-banned : (p : Problem) → Ranged p → (i j : ℕ) → linked p i j ≡ true → (v : ℕ) × (w : ℕ) × (banned p i j v w ≡ true)
unfolding linked banned
linked-banned p r i j e =
    let b = linked-pair p i j e in
    let h = both (is_pair i j) _ e in
    let n = word_value _ (ltb-true _ _ h.1) (r.words i j b.0 b.1 b.2).short in
    (n.0, n.1, to_both _ _ (to_both _ _ (to_both _ _ h.0 n.2) n.3) n.4)

-- linked agents are agents of the problem
pub linked-inside : (p : Problem) → Ranged p → (i j : ℕ) → linked p i j ≡ true → (1 ≤ i) × (i < j) × (j ≤ p.count)
unfolding linked
linked-inside p r i j e =
    let b = linked-pair p i j e in
    let h = both (is_pair i j) _ e in
    let o = word-named _ _ _ (r.words i j b.0 b.1 b.2) (ltb-true _ _ h.1) in
    test (leb j p.count)
    (λ q. (b.0, b.1, leb-true _ _ q))
    (λ q. let z = r.beyond j (leb-false _ _ q) b.2 in absurd (omega arith))

pub banned-inside : (p : Problem) → Ranged p → (i j v w : ℕ) → banned p i j v w ≡ true → (1 ≤ i) × (i < j) × (j ≤ p.count)
banned-inside p r i j v w e = linked-inside p r i j (banned-linked p i j v w e)
