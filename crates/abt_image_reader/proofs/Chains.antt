-- The messages of one line, from a place of the image on: how many they are, and where each stands.
-- One message further is sixteen bytes further.
use Rattle.std.proofs.Common.{ℕ, zero, suc, ◌+◌, ◌*◌, ◌-◌, ◌≤◌, ◌<◌, ◌≡◌, subst, ◌∙◌, ◌≢◌, cond, List, [], ◌∷◌, not-suc-le-zero, arith, eqb, length, get_or, drop, drop-drop, eq-eqb, ne_eqb}
use Rattle.model_base.proofs.Tests.{test}
use Rattle.model_agent.specs.Message.{Message, AddLink}
use Rattle.model_network.specs.Shape.{capacity}
use Rattle.model_image.specs.Bytes.{number_in, stretch}
use Rattle.model_image.specs.Reading.{message_length, message_in, next_in, chain_in, line_in}

module _ (s : List ℕ) where
  next-there : (at : ℕ) → next_in (drop at s) ≡ number_in (stretch (at + 2) 2 s)
  unfolding next_in stretch
  next-there at = rw (drop-drop 2 at s)

  -- the first message of a line that may have one, and the others
  chain-there : (most at : ℕ) → chain_in (suc most) (drop at s)
      ≡ message_in (drop at s) ∷ cond (eqb (number_in (stretch (at + 2) 2 s)) 0) [] (chain_in most (drop (at + 16) s))
  unfolding chain_in message_length
  chain-there most at = rw (next-there at, drop-drop 16 at s)

  -- where each stands
  pub chain-at : (most at q : ℕ) → q < length (chain_in most (drop at s)) → get_or (chain_in most (drop at s)) q AddLink ≡ message_in (drop (at + 16 * q) s)
  unfolding chain_in
  chain-at zero at q h = absurd (not-suc-le-zero h)
  chain-at (suc most) at zero h = let e : at + 16 * 0 ≡ at = omega arith in rw e
  chain-at (suc most) at (suc q) h =
      let e : at + 16 * suc q ≡ at + 16 + 16 * q = omega arith in
      let g = subst (λ (l : List Message). suc q < length l) (chain-there most at) h in
      rw (chain-there most at, e)
      (test (eqb (number_in (stretch (at + 2) 2 s)) 0)
      (λ t. absurd (let f : suc q < 1 = rw t at g in omega arith))
      (λ t. let f : suc q < suc (length (chain_in most (drop (at + 16) s))) = rw t at g in
      rw t (chain-at most (at + 16) q (omega arith))))

  -- ---- how many there are: so many are counted, and those of the rest are left
  pub record Counting (at count : ℕ) : Type 0 where
    pub few : count ≤ 8
    pub left : length (chain_in 8 (drop at s)) ≡ count + length (chain_in (8 - count) (drop (at + 16 * count) s))

  module _ (at count next : ℕ) (more : count < 8) (is : next ≡ number_in (stretch (at + 16 * count + 2) 2 s)) (c : Counting at count) where
    here : length (chain_in 8 (drop at s))
        ≡ count + suc (length (cond (eqb next 0) [] (chain_in (8 - (count + 1)) (drop (at + 16 * (count + 1)) s))))
    here =
        let m : 8 - count ≡ suc (8 - (count + 1)) = omega arith in
        let f : at + 16 * (count + 1) ≡ at + 16 * count + 16 = omega arith in
        c.left ∙ rw (m, chain-there (8 - (count + 1)) (at + 16 * count), is, f)

    pub counted-last : next ≡ 0 → length (chain_in 8 (drop at s)) ≡ count + 1
    counted-last e = here ∙ rw (eq-eqb next 0 e) (omega arith)

    pub one-counted : next ≢ 0 → Counting at (count + 1)
    one-counted n = record { few = omega arith; left = here ∙ rw (ne_eqb next 0 n) (omega arith) }

  pub all-counted : (at count : ℕ) → 8 ≤ count → Counting at count → count ≡ length (chain_in 8 (drop at s))
  unfolding chain_in
  all-counted at count h c =
      let e : 8 - count ≡ 0 = omega (arith, c.few) in
      let l : length (chain_in 8 (drop at s)) ≡ count + 0 = rw e at c.left in
      omega arith

-- ---- a line

pub no_line : (head : ℕ) (s : List ℕ) → head ≡ 0 → line_in head s ≡ []
unfolding line_in
no_line head s e = rw (eq-eqb head 0 e)

pub some-line : (head : ℕ) (s : List ℕ) → head ≢ 0 → line_in head s ≡ chain_in 8 s
unfolding line_in capacity
some-line head s n = rw (ne_eqb head 0 n)

pub line_at : (head : ℕ) (s : List ℕ) (at q : ℕ) → q < length (line_in head (drop at s))
    → get_or (line_in head (drop at s)) q AddLink ≡ message_in (drop (at + 16 * q) s)
unfolding line_in capacity
line_at head s at q h =
    test (eqb head 0)
    (λ t. absurd (let g : q < 0 = rw t at h in omega arith))
    (λ t. rw t (chain-at s 8 at q (rw t at h)))
