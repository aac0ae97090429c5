-- Two problems in range with the same n, slot counts and bans are the same problem.
-- Every word of the table is the word of two agents, and every bit of a word the bit of two values.
use Rattle.std.proofs.Common.{◌≡◌, sym, ◌∙◌, ℕ, zero, suc, ◌-◌, ◌/◌, ◌%◌, ◌≤◌, ◌<◌, arith, get_or, ext_get_or, ltb, ltb-true, ltb-false, lt-ltb, le-leb}
use Rattle.model_base.specs.Bits.{bit}
use Rattle.model_base.proofs.Tests.{test, to-within}
use Rattle.model_base.proofs.Bits.{bit-ext}
use Rattle.model_sheet.specs.Problem.{Problem, max_agents, max_domain, max_pairs, pairs_before, word_at, bit_at, is_pair, banned}
use Rattle.model_sheet.proofs.Range.{Ranged}

-- the two agents of a word
record PairOf (m k : ℕ) : Type 0 where
  lower : ℕ
  higher : ℕ
  low : 1 ≤ lower
  order : lower < higher
  high : higher ≤ m
  word : word_at lower higher ≡ k

pair_of : (m k : ℕ) → k < pairs_before m → PairOf m k
unfolding pairs_before word_at
pair_of zero k h = absurd (omega arith)
pair_of (suc m) k h =
    test (ltb k (pairs_before m))
    (λ q.
    let r = pair_of m k (ltb-true _ _ q) in
    record { lower = r.lower; higher = r.higher; low = r.low; order = r.order; high = omega arith; word = r.word })
    (λ q.
    let l : pairs_before m ≤ k = ltb-false _ _ q in
    record { lower = suc (k - pairs_before m); higher = suc m; low = omega arith; order = omega arith; high = omega arith; word = omega arith })

-- a ban is a bit, between possible agents and values
ban-is-bit : (p : Problem) (i j v w : ℕ) → 1 ≤ i → i < j → j ≤ max_agents → 1 ≤ v → v ≤ max_domain → 1 ≤ w → w ≤ max_domain
    → banned p i j v w ≡ bit (get_or p.bans (word_at i j) 0) (bit_at v w)
unfolding banned is_pair
ban-is-bit p i j v w l h u lv hv lw hw =
    rw (lt-ltb 0 i l, lt-ltb i j h, le-leb j max_agents u, to-within max_domain v lv hv, to-within max_domain w lw hw)

module _ (p q : Problem) (rp : Ranged p) (rq : Ranged q) (same : (i j v w : ℕ) → banned p i j v w ≡ banned q i j v w) where
  same_word : (i j : ℕ) → 1 ≤ i → i < j → j ≤ max_agents → get_or p.bans (word_at i j) 0 ≡ get_or q.bans (word_at i j) 0
  unfolding bit_at max_domain
  same_word i j l h u =
      bit-ext 64 _ _ (rp.words i j l h u).short (rq.words i j l h u).short
      (λ k b.
      let v = suc (k / 8) in
      let w = suc (k % 8) in
      let at : bit_at v w ≡ k = omega arith in
      rw at at
      (sym (ban-is-bit p i j v w l h u (omega arith) (omega arith) (omega arith) (omega arith))
      ∙ same i j v w
      ∙ ban-is-bit q i j v w l h u (omega arith) (omega arith) (omega arith) (omega arith)))

  same-table : p.bans ≡ q.bans
  unfolding max_agents max_pairs pairs_before
  same-table =
      ext_get_or 0 p.bans q.bans (rp.bans_long ∙ sym rq.bans_long)
      (λ k h.
      let r = pair_of 12 k (omega (arith, rp.bans_long)) in
      rw r.word at (same_word r.lower r.higher r.low r.order r.high))

  pub problem-same : p.count ≡ q.count → p.domains ≡ q.domains → p ≡ q
  problem-same n d = λ i. record { count = n i; domains = d i; bans = same-table i }
