-- The ban table, word by word: by higher, then lower agent, where the image has them by lower, then higher.
-- A word stands in the table behind those of the higher agents before, and of its own behind those of the lower agents before.
use Rattle.std.proofs.Common.{ℕ, zero, suc, pred, ◌+◌, ◌*◌, ◌-◌, ◌/◌, ◌≤◌, ◌<◌, ◌≡◌, refl, sym, ◌∙◌, List, [], ◌∷◌, arith, eqb, ltb, length, get_or, set, take, length-append, length-set, take_all, eqb-true, ltb-true}
use Rattle.model_base.specs.Finite.{gather, sum, all_to}
use Rattle.model_base.proofs.Arrays.{copied}
use Rattle.model_base.proofs.Lists.{gather-last}
use Rattle.model_base.proofs.Search.{all_to-at}
use Rattle.model_sheet.specs.Problem.{max_agents, pairs_before, word_at}
use Rattle.model_image.specs.Reading.{ban_place, ban_in, bans_in}
use Rattle.model_image.proofs.Stretches.{stands-whole, stands-part, stands_one, stands_read, same-lengths}

-- ---- where the words stand in an image

-- of the lower agents before i, and of i itself: one test of twelve numbers
place_of : (i : ℕ) → 1 ≤ i → i ≤ 12 → (i - 1) * (24 - i) / 2 ≡ sum (pred i) (λ k. max_agents - k)
unfolding sum max_agents all_to
place_of i l h =
    eqb-true _ _ (all_to-at 12 (λ i. eqb ((i - 1) * (24 - i) / 2) (sum (pred i) (λ k. 12 - k))) refl i l h)

pub place_is : (i j : ℕ) → 1 ≤ i → i < j → j ≤ 12
    → ((i - 1) * (24 - i) / 2 + (j - 1 - i) ≡ ban_place i j) × ((i - 1) * (24 - i) / 2 + (j - 1 - i) < 66)
unfolding ban_place all_to
place_is i j l h u =
    let e : j - 1 - i ≡ pred j - i = omega arith in
    let few : (i - 1) * (24 - i) / 2 + (11 - i) < 66 =
    ltb-true _ _ (all_to-at 11 (λ i. ltb ((i - 1) * (24 - i) / 2 + (11 - i)) 66) refl i l (omega arith)) in
    (rw (place_of i l (omega arith), e), below ((i - 1) * (24 - i) / 2) few)
  where
    below : (a : ℕ) → a + (11 - i) < 66 → a + (j - 1 - i) < 66
    below a f = omega arith

-- ---- where they stand in the table

one-further : (i j : ℕ) → 1 ≤ i → word_at (i + 1) j ≡ word_at i j + 1
unfolding word_at
one-further i j l = omega arith

-- behind the last lower agent of one higher agent stands the first of the next
again : (j : ℕ) → 1 ≤ j → word_at j j ≡ word_at 1 (j + 1)
unfolding word_at pairs_before
again j l = let a : pred (j + 1) ≡ suc (pred j) = omega arith in rw a (omega arith)

module _ (s : List ℕ) where
  -- the words of higher agent j
  words : ℕ → List ℕ
  words j = gather (pred j) 1 (λ i. ban_in s i j ∷ [])

  words-length : (j : ℕ) → length (words j) ≡ pred j
  unfolding words
  words-length j = let e = same-lengths (pred j) 1 1 (λ i. ban_in s i j ∷ []) (λ i _ _. refl) in omega (arith, e)

  before-length : (m : ℕ) → length (gather m 1 words) ≡ pairs_before m
  unfolding gather pairs_before
  before-length zero = refl
  before-length (suc m) =
      let e : 1 + m ≡ suc m = omega arith in
      rw (gather-last m 1 words, length-append (gather m 1 words) (words (1 + m)), e) (omega (arith, before-length m, words-length (suc m)))

  bans-length : length (bans_in s) ≡ 66
  unfolding bans_in gather max_agents
  bans-length = refl

  word-there : (i j : ℕ) → 1 ≤ i → i < j → j ≤ 12 → get_or (bans_in s) (word_at i j) 0 ≡ ban_in s i j
  unfolding bans_in word_at words max_agents
  word-there i j l h u =
      let q : j - 1 ≡ pred j = omega arith in
      let z : 0 + pairs_before (pred j) ≡ pairs_before (pred j) = omega arith in
      let row = stands-part 12 1 j words (pairs_before (pred j)) (omega arith) (omega arith) (rw (q, before-length (pred j), z)) (stands-whole (bans_in s)) in
      let one = stands_one (pred j) 1 i 1 (λ i. ban_in s i j ∷ []) (pairs_before (pred j) + pred i) (λ _ _ _. refl) l (omega arith) (omega arith) row in
      stands_read (ban_in s i j) 0 one

  -- ---- the table as far as it is read: the words before that of lower agent i and higher agent j

  pub record Tabled (table : List ℕ) (i j : ℕ) : Type 0 where
    pub long : length table ≡ 66
    pub same : take (word_at i j) table ≡ take (word_at i j) (bans_in s)

  pub none-tabled : (table : List ℕ) → length table ≡ 66 → Tabled table 1 2
  unfolding word_at pairs_before
  none-tabled table e = record { long = e; same = refl }

  -- the next lower agent
  pub next-lower : (table : List ℕ) (i j place x : ℕ) → Tabled table i j → 1 ≤ i → i < j → j ≤ 12 → (place ≡ word_at i j) × (place < 66) → x ≡ ban_in s i j
      → Tabled (set table place x) (i + 1) j
  next-lower table i j place x t l h u p is =
      let k = word_at i j in
      let same : take (k + 1) (set table k x) ≡ take (k + 1) (bans_in s) =
      copied table (bans_in s) k x 0 (omega (arith, t.long)) (omega (arith, bans-length)) t.same (is ∙ sym (word-there i j l h u)) in
      record { long = length-set table place x ∙ t.long; same = rw (one-further i j l, p.0) same }

  -- the next higher agent, and again from the first
  pub next-higher : (table : List ℕ) (j : ℕ) → Tabled table j j → 1 ≤ j → Tabled table 1 (j + 1)
  next-higher table j t l = record { long = t.long; same = rw (← again j l) t.same }

  pub all-tabled : (table : List ℕ) → Tabled table 1 13 → table ≡ bans_in s
  unfolding word_at pairs_before
  all-tabled table t =
      sym (take_all 66 table (omega (arith, t.long))) ∙ t.same ∙ take_all 66 (bans_in s) (omega (arith, bans-length))
