-- What more bans between two agents do to the table: the pairs of owned values that are named are banned, and all else stays.
-- A pair of agents has a word of its own, and a pair of values a bit of its own in it.
use Rattle.std.proofs.Common.{◌≡◌, sym, ◌∙◌, ◌⊎◌, inl, inr, Bool, true, false, ◌&&◌, ◌||◌, List, ℕ, ◌≤◌, ◌<◌, arith, get_or, get_or-set_same, get_or-set_other, eqb, ltb, leb, eqb-true, eq-eqb, ltb-true, leb-true, lt-ltb, le-leb}
use mathlib.Core.Bool.{and-false}
use borrow.Author.Tests.{eqb-false}
use Rattle.model_base.specs.Finite.{within}
use Rattle.model_base.specs.Bits.{bit}
use Rattle.model_base.proofs.Tests.{test, within-true, to-within, both, to_both, or_left, or_right, or_cases}
use Rattle.model_base.proofs.Arrays.{get_or-same}
use Rattle.model_base.proofs.Peeling.{same_test}
use Rattle.model_base.proofs.Bits.{bit-of-zero}
use Rattle.model_sheet.specs.Problem.{Problem, max_agents, max_domain, max_pairs, domain, owns, word_at, bit_at, is_pair, banned, with_table, with_bits, with_bans, no_bans}
use Rattle.model_sheet.proofs.Range.{word-in-table, word-pair, Ranged, domain-small}
use Rattle.model_sheet.proofs.Bits.{Value, bits}

-- two possible agents
pub record Pair (i j : ℕ) : Type 0 where
  pub lower : 1 ≤ i
  pub order : i < j
  pub higher : j ≤ max_agents

-- the bit of a ban, between possible agents and values
record Bit (t : List ℕ) (i j v w : ℕ) : Type 0 where
  pair : Pair i j
  value : Value v
  other : Value w
  set : bit (get_or t (word_at i j) 0) (bit_at v w) ≡ true

ban-bit : (p : Problem) (i j v w : ℕ) → banned p i j v w ≡ true → Bit p.bans i j v w
unfolding banned is_pair
ban-bit p i j v w h =
    let b = both (is_pair i j && within max_domain v && within max_domain w) _ h in
    let y = both (is_pair i j && within max_domain v) _ b.0 in
    let x = both (is_pair i j) _ y.0 in
    let u = both (ltb 0 i && ltb i j) _ x.0 in
    let l = both (ltb 0 i) _ u.0 in
    let bv = within-true _ _ x.1 in
    let bw = within-true _ _ y.1 in
    record {
      pair = record { lower = ltb-true _ _ l.0; order = ltb-true _ _ l.1; higher = leb-true _ _ u.1 };
      value = record { low = bv.0; high = bv.1 };
      other = record { low = bw.0; high = bw.1 };
      set = b.1;
    }

bit-ban : (p : Problem) (i j v w : ℕ) → Bit p.bans i j v w → banned p i j v w ≡ true
unfolding banned is_pair
bit-ban p i j v w b =
    let q = b.pair in
    let u = to_both (ltb 0 i && ltb i j) (leb j max_agents) (to_both _ _ (lt-ltb _ _ q.lower) (lt-ltb _ _ q.order)) (le-leb _ _ q.higher) in
    let v = to_both _ _ u (to-within _ _ b.value.low b.value.high) in
    to_both _ _ (to_both _ _ v (to-within _ _ b.other.low b.other.high)) b.set

-- ---- bans of owned values of agents i' and j' that h names

-- the ban is one of those
pub record Added (p : Problem) (i' j' : ℕ) (h : ℕ → ℕ → Bool) (i j v w : ℕ) : Type 0 where
  pub lower : i ≡ i'
  pub higher : j ≡ j'
  pub value : owns p i v ≡ true
  pub other : owns p j w ≡ true
  pub named : h v w ≡ true

pub added : (p : Problem) (i' j' : ℕ) (h : ℕ → ℕ → Bool) (i j v w : ℕ)
    → eqb i i' && eqb j j' && owns p i v && owns p j w && h v w ≡ true → Added p i' j' h i j v w
added p i' j' h i j v w t =
    let n = both (eqb i i' && eqb j j' && owns p i v && owns p j w) _ t in
    let o = both (eqb i i' && eqb j j' && owns p i v) _ n.0 in
    let u = both (eqb i i' && eqb j j') _ o.0 in
    let s = both (eqb i i') _ u.0 in
    record { lower = eqb-true _ _ s.0; higher = eqb-true _ _ s.1; value = u.1; other = o.1; named = n.1 }

pub to-added : (p : Problem) (i' j' : ℕ) (h : ℕ → ℕ → Bool) (i j v w : ℕ) → Added p i' j' h i j v w
    → eqb i i' && eqb j j' && owns p i v && owns p j w && h v w ≡ true
to-added p i' j' h i j v w a =
    to_both _ _
    (to_both _ _ (to_both _ _ (to_both _ _ (eq-eqb i i' a.lower) (eq-eqb j j' a.higher)) a.value) a.other) a.named

module _ (p : Problem) (i' j' : ℕ) (h : ℕ → ℕ → Bool) (r : Ranged p) (q' : Pair i' j') where
  here : get_or (with_bans p i' j' h).bans (word_at i' j') 0 ≡ with_bits (domain p i') (domain p j') h (get_or p.bans (word_at i' j') 0)
  unfolding with_table with_bans
  here = get_or-set_same p.bans (word_at i' j') _ 0 (rw r.bans_long (word-in-table i' j' q'.lower q'.order q'.higher))

  there : (k : ℕ) → (k ≡ word_at i' j' → ⊥) → get_or (with_bans p i' j' h).bans k 0 ≡ get_or p.bans k 0
  unfolding with_table with_bans
  there k e = get_or-set_other p.bans (word_at i' j') k _ 0 e

  -- a bit of their word
  bit-here : (v w : ℕ) → Value v → Value w
      → bit (get_or (with_bans p i' j' h).bans (word_at i' j') 0) (bit_at v w)
      ≡ bit (get_or p.bans (word_at i' j') 0) (bit_at v w) || (owns p i' v && owns p j' w && h v w)
  unfolding owns
  bit-here v w fv fw = rw here (bits h v w fv fw (domain p i') (domain p j') _ (domain-small p r i') (domain-small p r j'))

  -- what stands afterwards stood before or is one of them
  stood : (i j v w : ℕ) → Bit (with_bans p i' j' h).bans i j v w → (Bit p.bans i j v w) ⊎ Added p i' j' h i j v w
  stood i j v w b =
      test (eqb (word_at i j) (word_at i' j'))
      (λ e. at-word (eqb-true _ _ e) (word-pair i j i' j' b.pair.lower b.pair.order q'.lower q'.order (eqb-true _ _ e)))
      (λ e. inl (record { pair = b.pair; value = b.value; other = b.other; set = rw (there (word_at i j) (eqb-false _ _ e)) at b.set }))
    where
      cases : (i ≡ i') × (j ≡ j') → (bit (get_or p.bans (word_at i' j') 0) (bit_at v w) ≡ true) ⊎ (owns p i' v && owns p j' w && h v w ≡ true)
          → (Bit p.bans i j v w) ⊎ Added p i' j' h i j v w
      cases s (inl t) = inl (record { pair = b.pair; value = b.value; other = b.other; set = rw (s.0, s.1) t })
      cases s (inr t) =
          let n = both (owns p i' v && owns p j' w) _ t in
          let o = both (owns p i' v) _ n.0 in
          inr (record { lower = s.0; higher = s.1; value = rw s.0 o.0; other = rw s.1 o.1; named = n.1 })

      at-word : word_at i j ≡ word_at i' j' → (i ≡ i') × (j ≡ j') → (Bit p.bans i j v w) ⊎ Added p i' j' h i j v w
      at-word e s = cases s (or_cases _ _ (sym (bit-here v w b.value b.other) ∙ (rw e at b.set)))

  stays : (i j v w : ℕ) → Bit p.bans i j v w → Bit (with_bans p i' j' h).bans i j v w
  stays i j v w b =
      test (eqb (word_at i j) (word_at i' j'))
      (λ e.
      let s = eqb-true (word_at i j) (word_at i' j') e in
      record {
        pair = b.pair;
        value = b.value;
        other = b.other;
        set = rw (s, bit-here v w b.value b.other) (or_left _ _ (rw s at b.set));
      })
      (λ e. record { pair = b.pair; value = b.value; other = b.other; set = rw (there (word_at i j) (eqb-false _ _ e)) b.set })

  stands : (i j v w : ℕ) → Added p i' j' h i j v w → Bit (with_bans p i' j' h).bans i j v w
  unfolding owns
  stands i j v w a =
      let ov = rw a.lower at a.value in
      let ow = rw a.higher at a.other in
      let fv : Value v = record { low = (within-true _ _ ov).0; high = omega (arith, (within-true _ _ ov).1, domain-small p r i') } in
      let fw : Value w = record { low = (within-true _ _ ow).0; high = omega (arith, (within-true _ _ ow).1, domain-small p r j') } in
      rw (a.lower, a.higher)
      (record {
        pair = q';
        value = fv;
        other = fw;
        set = rw (bit-here v w fv fw) (or_right (bit (get_or p.bans (word_at i' j') 0) (bit_at v w)) _ (to_both _ _ (to_both _ _ ov ow) a.named));
      })

  pub bans-added : (i j v w : ℕ)
      → banned (with_bans p i' j' h) i j v w ≡ banned p i j v w || (eqb i i' && eqb j j' && owns p i v && owns p j w && h v w)
  bans-added i j v w =
      same_test _ _
      (λ t. after (stood i j v w (ban-bit _ i j v w t)))
      (λ t. bit-ban _ i j v w (before (or_cases _ _ t)))
    where
      after : (Bit p.bans i j v w) ⊎ Added p i' j' h i j v w
          → banned p i j v w || (eqb i i' && eqb j j' && owns p i v && owns p j w && h v w) ≡ true
      after (inl b) = or_left _ _ (bit-ban p i j v w b)
      after (inr a) = or_right (banned p i j v w) _ (to-added p i' j' h i j v w a)

      before : (banned p i j v w ≡ true) ⊎ (eqb i i' && eqb j j' && owns p i v && owns p j w && h v w ≡ true)
          → Bit (with_bans p i' j' h).bans i j v w
      before (inl t) = stays i j v w (ban-bit p i j v w t)
      before (inr t) = stands i j v w (added p i' j' h i j v w t)

pub none-banned : (p : Problem) (i j v w : ℕ) → banned (with_table p no_bans) i j v w ≡ false
unfolding with_table no_bans banned
none-banned p i j v w = rw (get_or-same {A = ℕ} max_pairs 0 (word_at i j), bit-of-zero (bit_at v w)) (and-false (is_pair i j && within max_domain v && within max_domain w))
