-- The engine's loop that stores what the receiver sends: at its head the posts are stored as far as they are not left. At the first that finds no
-- room the delivery is rejected; with none left it is made.
use Rattle.std.proofs.Common.{ℕ, ◌-◌, ◌≤◌, ◌<◌, true, false, ◌≡◌, refl, sym, ap, ◌∙◌, List, ◌∷◌, arith, set, length-set, get_or-set_other}
use mathlib.Core.Bool.{false≢true}
use Rattle.model_base.specs.Finite.{at}
use Rattle.model_base.proofs.Search.{at_other}
use Rattle.model_base.proofs.Tests.{test, eq_test}
use Rattle.model_agent.specs.Message.{Post as Post'}
use Rattle.abt_packed.specs.Packed.{assignment}
use Rattle.abt_agent.specs.declared.Envelope.{Envelope}
use Rattle.abt_agent.specs.Abstract.{post_of}
use Rattle.abt_record.specs.declared.Network.{Network}
use Rattle.abt_record.specs.Abstract.{is_channel, place_of, row_of}
use Rattle.abt_shape.proofs.Numbering.{Ends, ends}
use Rattle.abt_record_laws.specs.Held.{held_at, row_fits, Clean}
use Rattle.abt_record_laws.proofs.Changes.{FullArrays, word_at, placed, row_is, row_same, row_other}
use Rattle.abt_record_laws.proofs.Handing.{Found, found-ends}
use Rattle.abt_record_laws.proofs.Posting.{Posting, Turn, post-line, post-full, post-put}

-- one turn
module _ {o₀ : Network} {j : ℕ} {o : Network} {all left rest : List Post'} {now : ℕ} (h : Posting o₀ j all left o now) (p : Envelope)
    (e : left ≡ post_of p ∷ rest) where
  pub turn-line : is_channel j p.to ≡ true
  unfolding post_of
  turn-line = post-line h (post_of p) rest e

  pub turn-ends : Ends j p.to
  turn-ends = ends j p.to turn-line

  -- the post is stored
  pub turn-stores : {c g t x now' : ℕ} → Turn j (word_at o₀.heads j) now p.to c g t x now' → t < 8
      → Posting o₀ j all rest (placed o x (record { message = p.message })) now'
  unfolding post_of place_of
  turn-stores t l = post-put h (post_of p) rest e t l (record { message = p.message }) refl

  -- its line is full
  pub turn-full : (t : ℕ) → t ≡ assignment now p.to → 8 ≤ t → row_fits (held_at o₀.counts j) all ≡ false
  unfolding post_of
  turn-full t d l = post-full h (post_of p) rest e t d l

-- ---- the message taken off

-- the sender's row of counts is not the receiver's
pub waits-still : {o : Network} {i j x : ℕ} {all left : List Post'} {p : Network} {now : ℕ} → Found o i j x → Posting o j all left p now
    → 1 ≤ assignment (word_at (set p.counts (j - 1) now) i) j
waits-still {i = i} {j = j} {p = p} {now = now} f h =
    let E = found-ends f in
    rw (get_or-set_other p.counts (j - 1) (i - 1) now 0 (λ d. E.apart (omega (arith, E.from_low, E.to_low))), h.kept.counts) (omega (arith, f.waits))

-- ---- the rows stay clean

module _ (o : Network) (i j now heads counts : ℕ) (z : FullArrays o) (clean : Clean o.counts) (b : is_channel i j ≡ true) where
  E : Ends i j
  E = ends i j b

  clean-by : (rows : List ℕ) → ((x y : ℕ) → is_channel x y ≡ false → row_of rows x y ≡ 0) → Clean rows
  unfolding held_at
  clean-by rows f x y = test (is_channel x y) (λ t. rw (t, held_at)) (λ t. rw (t, held_at) (f x y t))

  was-clean : (x y : ℕ) → is_channel x y ≡ false → row_of o.counts x y ≡ 0
  unfolding held_at
  was-clean x y t = clean x y ∙ rw (t, held_at)

  pub stays-clean : ((y : ℕ) → is_channel j y ≡ false → assignment now y ≡ assignment (word_at o.counts j) y)
      → assignment counts ≡ at (assignment (word_at (set o.counts (j - 1) now) i)) j (assignment (word_at (set o.counts (j - 1) now) i) j - 1)
      → Clean (set (set o.counts (j - 1) now) (i - 1) counts)
  stays-clean own e = clean-by _ (λ x y t. eq_test x i (λ q. rw q (sender y (rw q at t))) (λ n. other x y n t))
    where
      inner : (x y : ℕ) → is_channel x y ≡ false → row_of (set o.counts (j - 1) now) x y ≡ 0
      inner x y t =
          eq_test x j
          (λ q.
          rw (q, row_same o.counts j now E.to_low (rw z.counts E.to_high))
          (own y (rw q at t) ∙ ap (λ (f : ℕ → ℕ). f y) (sym (row_is o.counts j E.to_low)) ∙ was-clean j y (rw q at t)))
          (λ n. ap (λ (f : ℕ → ℕ). f y) (row_other o.counts j now E.to_low x n) ∙ was-clean x y t)

      sender : (y : ℕ) → is_channel i y ≡ false → row_of (set (set o.counts (j - 1) now) (i - 1) counts) i y ≡ 0
      sender y t =
          rw (row_same (set o.counts (j - 1) now) i counts E.from_low (rw (length-set, z.counts) E.from-high), e)
          (eq_test y j
          (λ q. absurd (false≢true (sym t ∙ rw q b)))
          (λ n.
          at_other (assignment (word_at (set o.counts (j - 1) now) i)) j (assignment (word_at (set o.counts (j - 1) now) i) j - 1) y n
          ∙ ap (λ (f : ℕ → ℕ). f y) (sym (row_is (set o.counts (j - 1) now) i E.from_low)) ∙ inner i y t))

      other : (x y : ℕ) → (x ≡ i → ⊥) → is_channel x y ≡ false → row_of (set (set o.counts (j - 1) now) (i - 1) counts) x y ≡ 0
      other x y n t = ap (λ (f : ℕ → ℕ). f y) (row_other (set o.counts (j - 1) now) i counts E.from_low x n) ∙ inner x y t
