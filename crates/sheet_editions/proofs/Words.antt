-- What the code says of one word of the table is what the definitions say of two agents.
-- A ban between owned slots is a bit of their word; sets of gaps that agree on owned slots are the same.
use Rattle.std.proofs.Common.{ℕ, suc, pred, ◌-◌, ◌^◌, ◌≤◌, ◌<◌, ◌≡◌, sym, ap, ◌∙◌, Bool, true, not, cond, ◌&&◌, [], ◌∷◌, arith, get_or, eqb, bit_and, lt-ltb, le-leb, eqb-true, eq-eqb, ne_eqb}
use mathlib.Core.Path.{fun_ext}
use lib.Bits.{and_lt}
use Rattle.model_base.specs.Finite.{all_to}
use Rattle.model_base.specs.Bits.{bit}
use Rattle.model_base.proofs.Tests.{not-true, to-within}
use Rattle.model_base.proofs.Search.{all_to-at, to-all_to}
use Rattle.model_base.proofs.Peeling.{same_test, all_to-same, zero_bits}
use Rattle.model_base.proofs.Gathers.{gather-same}
use Rattle.model_base.proofs.Bits.{bit-of-zero, bit-and, bit_not}
use Rattle.model_sheet.specs.Problem.{Problem, max_agents, max_domain, domain, bit_at, word_at, is_pair, banned, in_range}
use Rattle.model_sheet.proofs.Range.{Ranged, ranged, domain-small}
use Rattle.sheet_reader.specs.Abstract.{problem_of}
use Rattle.model_editions.specs.Bans.{pair_row, bans_with, bans_of}
use Rattle.model_editions.specs.Gaps.{gap_places, has_gap, banned_gap, free_gap, mixed_gap, runs_of}
use Rattle.theorems_editions.proofs.Sayable.{has, to-has}
use Rattle.sheet_editions.specs.Rows.{pair_in, pairs_with, pairs_of, Marked}
use Rattle.sheet_editions.specs.Pairs.{Means, in_word, word_sayable, word_rows, rows_of}
use Rattle.sheet_editions.specs.declared.pair.Pair.{Pair}
use Rattle.sheet_reader.specs.declared.Problem.{Problem as Sheet}
use Rattle.sheet_editions.specs.declared.accepted.Accepted.{Accepted}

-- ---- sets of gaps

-- by the bits that are marked in nothing
pub marked-bit : (x : ℕ) (f : ℕ → Bool) → Marked 0 x f → (k : ℕ) → bit x k ≡ f k
marked-bit x f m k = m.bits k ∙ rw (bit-of-zero k)

-- two that have no gap in common
pub none-common : (x y : ℕ) (f g : ℕ → Bool) → Marked 0 x f → Marked 0 y g → eqb (bit_and x y) 0 ≡ all_to 15 (λ k. not (f (pred k) && g (pred k)))
none-common x y f g m n =
    same_test _ _
    (λ t. to-all_to 15 (λ k. not (f (pred k) && g (pred k))) (λ k l u. nothing (pred k) (eqb-true (bit_and x y) 0 t)))
    (λ t. eq-eqb _ _ (zero_bits 15 (bit_and x y) (and_lt 15 x y m.short n.short)
    (λ k h. common k ∙ not-true _ (all_to-at 15 (λ k. not (f (pred k) && g (pred k))) t (suc k) (omega arith) h))))
  where
    common : (k : ℕ) → bit (bit_and x y) k ≡ f k && g k
    common k = bit-and x y k ∙ rw (marked-bit x f m k, marked-bit y g n k)

    nothing : (k : ℕ) → bit_and x y ≡ 0 → not (f k && g k) ≡ true
    nothing k z = rw (← common k, z, bit-of-zero k)

-- the same pairs of values, the same gaps
pub has_same : (d e : ℕ) (f g : ℕ → ℕ → Bool) (k : ℕ) → ((v w : ℕ) → 1 ≤ v → v ≤ d → 1 ≤ w → w ≤ e → f v w ≡ g v w) → has_gap d e f k ≡ has_gap d e g k
has_same d e f g k same = same_test _ _ (moved f g same) (moved g f (λ v w a b c d. sym (same v w a b c d)))
  where
    moved : (f g : ℕ → ℕ → Bool) → ((v w : ℕ) → 1 ≤ v → v ≤ d → 1 ≤ w → w ≤ e → f v w ≡ g v w) → has_gap d e f k ≡ true → has_gap d e g k ≡ true
    moved f g s t =
        let r = has d e f k t in
        let o = r.owned in
        to-has d e g k
        (record {
          low = r.low;
          high = r.high;
          owned = o;
          place = r.place;
          named = sym (s r.low r.high o.0 o.1 o.2 o.3) ∙ r.named;
        })

-- ---- the records of a word

module _ (edition i j d e word : ℕ) where
  pub rows-of-bans : edition ≡ 1 → word_rows edition i j d e word ≡ pairs_of i j d e word
  unfolding word_rows
  rows-of-bans q = rw (eq-eqb edition 1 q)

  pub rows-of-gaps : edition ≡ 2 → (gaps : ℕ) → Marked 0 gaps (has_gap d e (in_word word)) → word_rows edition i j d e word ≡ runs_of i j (bit gaps)
  unfolding word_rows
  rows-of-gaps q gaps m = rw (ne_eqb edition 1 (λ (e : edition ≡ 1). omega arith)) (ap (runs_of i j) (sym (fun_ext (marked-bit gaps _ m))))

-- ---- the word with all bits turned round

pub not-in-word : (word v w : ℕ) → word < 2 ^ 64 → 1 ≤ v → v ≤ 8 → 1 ≤ w → w ≤ 8 → in_word (2 ^ 64 - 1 - word) v w ≡ not (in_word word v w)
unfolding in_word bit_at
not-in-word word v w h lv uv lw uw = bit_not 64 word (bit_at v w) h (omega arith)

-- ---- two agents

-- agents i and j have no gap that is mixed
abbrev pub unmixed : Problem → ℕ → ℕ → Bool
unmixed p j i = all_to gap_places (λ k. not (mixed_gap p i j (pred k)))

-- agent j with each agent above it
abbrev pub unmixed_above : Problem → ℕ → Bool
unmixed_above p j = all_to (pred j) (unmixed p j)

pub most : (p : Sheet) → in_range (problem_of p) ≡ true → p.count ≤ 12
unfolding problem_of max_agents
most p r = (ranged (problem_of p) r).high

module _ (p : Problem) (r : Ranged p) (i j : ℕ) (l : 1 ≤ i) (o : i < j) (u : j ≤ p.count) where
  word : ℕ
  word = get_or p.bans (word_at i j) 0

  ban-in-word : (v w : ℕ) → 1 ≤ v → v ≤ domain p i → 1 ≤ w → w ≤ domain p j → in_word word v w ≡ banned p i j v w
  unfolding word in_word banned is_pair
  ban-in-word v w lv uv lw uw =
      sym (rw (
        lt-ltb 0 i l,
        lt-ltb i j o,
        le-leb j max_agents (omega (arith, r.high)),
        to-within max_domain v lv (omega (arith, domain-small p r i)),
        to-within max_domain w lw (omega (arith, domain-small p r j)),
      ))

  pairs-same : pairs_of i j (domain p i) (domain p j) word ≡ bans_of p i j
  unfolding pairs_of pairs_with pair_in bans_of bans_with in_word
  pairs-same =
      gather-same (domain p i) 1 _ _
      (λ v lv uv. gather-same (domain p j) 1 _ _
      (λ w lw uw. ap (λ (b : Bool). cond b (pair_row i j v w ∷ []) []) (ban-in-word v w lv (omega arith) lw (omega arith))))

  gaps-same : has_gap (domain p i) (domain p j) (in_word word) ≡ banned_gap p i j
  unfolding banned_gap
  gaps-same = fun_ext λ k. has_same (domain p i) (domain p j) _ _ k ban-in-word

  frees-same : (k : ℕ) → has_gap (domain p i) (domain p j) (λ v w. not (in_word word v w)) k ≡ free_gap p i j k
  unfolding free_gap
  frees-same k = has_same (domain p i) (domain p j) _ _ k (λ v w a b c d. ap not (ban-in-word v w a b c d))

  rows_same : (edition : ℕ) → word_rows edition i j (domain p i) (domain p j) word ≡ rows_of edition p i j
  unfolding word_rows rows_of
  rows_same edition = rw (pairs-same, gaps-same)

  sayable-same : word_sayable (domain p i) (domain p j) word ≡ all_to gap_places (λ k. not (mixed_gap p i j (pred k)))
  unfolding word_sayable gap_places mixed_gap
  sayable-same = all_to-same 15 _ _ (λ k a b. rw (gaps-same, frees-same (pred k)))

-- as the code has them
module _ (a : Accepted) (i j : ℕ) (l : 1 ≤ i) (o : i < j) (u : j ≤ a.problem.count) (q : Pair) (m : Means (problem_of a.problem) i j q) where
  pub pair-rows : (edition : ℕ) → word_rows edition q.lower q.higher q.slots q.others q.word ≡ rows_of edition (problem_of a.problem) i j
  unfolding problem_of word
  pair-rows edition = rw (m.lower, m.higher, m.slots, m.others, m.word) (rows_same (problem_of a.problem) (ranged _ a.good) i j l o u edition)

  pub pair-sayable : word_sayable q.slots q.others q.word ≡ unmixed (problem_of a.problem) j i
  unfolding problem_of word
  pair-sayable = rw (m.slots, m.others, m.word) (sayable-same (problem_of a.problem) (ranged _ a.good) i j l o u)
