-- The pieces of a text, one after the other: a piece ends at the first byte that ends one, and the rest is as if it stood alone.
-- So too the words of a line, past the blanks between them.
use Rattle.std.proofs.Common.{ℕ, suc, pred, ◌-◌, ◌≤◌, ◌<◌, ◌≡◌, refl, sym, ap, ◌∙◌, Bool, true, not, List, [], ◌∷◌, arith, ltb, length, get_or, take, drop, length-take, length-drop, drop_of_length-le, drop-cons, take_all, lt-ltb, eq-eqb, ne_eqb, ltb-true, ltb-false}
use Rattle.model_base.proofs.Tests.{test}
use Rattle.model_text.specs.Words.{is_return, is_blank, is_hash, first_at, on_first, pieces_of, filled, without_return, without_comment}
use Rattle.sheet_text_statements.proofs.Searching.{first-here, first-later, first-within}
use Rattle.sheet_text_statements.specs.Parts.{words_in}

-- ---- pieces

pub first_passes : (p : ℕ → Bool) (s : List ℕ) → first_at p s < length s → p (get_or s (first_at p s) 0) ≡ true
unfolding first_at
first_passes p [] h = absurd (omega arith)
first_passes p (b ∷ s) h =
    test (p b)
    (λ e. rw (first-here p b s e) e)
    (λ e. rw (first-later p b s e) (first_passes p s (omega (arith, h, first-later p b s e))))

-- of a text that is not empty
pub piece-first : (p : ℕ → Bool) (b : ℕ) (s : List ℕ)
    → pieces_of p (b ∷ s) ≡ take (first_at p (b ∷ s)) (b ∷ s) ∷ pieces_of p (drop (suc (first_at p (b ∷ s))) (b ∷ s))
unfolding first_at pieces_of on_first
piece-first p b [] = test (p b) (λ e. rw (first-here p b [] e, e, pieces_of)) (λ e. rw (first-later p b [] e, e, pieces_of))
piece-first p b (c ∷ s) =
    test (p b)
    (λ e. rw (first-here p b (c ∷ s) e, e, pieces_of))
    (λ e. rw (first-later p b (c ∷ s) e, e, pieces_of) (ap (on_first b) (piece-first p c s)))

-- ---- words

words-blank : (b : ℕ) (s : List ℕ) → is_blank b ≡ true → words_in (b ∷ s) ≡ words_in s
unfolding words_in pieces_of filled
words-blank b s e = rw (e, pieces_of)

words-skip : (s : List ℕ) → words_in (drop (first_at (λ b. not (is_blank b)) s) s) ≡ words_in s
unfolding first_at
words-skip [] = refl
words-skip (b ∷ s) =
    test (is_blank b)
    (λ e. rw (first-later (λ x. not (is_blank x)) b s (ap not e)) (words-skip s ∙ sym (words-blank b s e)))
    (λ e. rw (first-here (λ x. not (is_blank x)) b s (ap not e)) refl)

words-none : words_in [] ≡ []
unfolding words_in pieces_of filled
words-none = refl

-- behind a word
words-behind : (t : List ℕ) → words_in (drop (first_at is_blank t) t) ≡ words_in (drop (suc (first_at is_blank t)) t)
words-behind t =
    test (ltb (first_at is_blank t) (length t))
    (λ h. let l = ltb-true (first_at is_blank t) (length t) h in
    ap words_in (drop-cons t (first_at is_blank t) 0 l) ∙ words-blank (get_or t (first_at is_blank t) 0) (drop (suc (first_at is_blank t)) t) (first_passes is_blank t l))
    (λ h. let l = ltb-false (first_at is_blank t) (length t) h in
    ap words_in (drop_of_length-le t {i = first_at is_blank t} l ∙ sym (drop_of_length-le t {i = suc (first_at is_blank t)} (omega arith))))

words-first : (t : List ℕ) → 0 < first_at is_blank t → words_in t ≡ take (first_at is_blank t) t ∷ words_in (drop (first_at is_blank t) t)
unfolding words_in filled first_at
words-first [] h = absurd (omega arith)
words-first (b ∷ t) h =
    let n : ℕ = first_at is_blank (b ∷ t) in
    let f : ltb 0 (length (take n (b ∷ t))) ≡ true =
    lt-ltb 0 (length (take n (b ∷ t))) (omega (arith, h, length-take n (b ∷ t), first-within is_blank (b ∷ t))) in
    ap filled (piece-first is_blank b t) ∙ rw (f, filled) (ap (λ (ws : List (List ℕ)). take n (b ∷ t) ∷ ws) (sym (words-behind (b ∷ t))))

-- ---- the next word

word-starts : (s : List ℕ) → first_at (λ b. not (is_blank b)) s < length s → 0 < first_at is_blank (drop (first_at (λ b. not (is_blank b)) s) s)
unfolding first_at
word-starts [] h = absurd (omega arith)
word-starts (b ∷ s) h =
    test (is_blank b)
    (λ e. let k = first-later (λ x. not (is_blank x)) b s (ap not e) in rw k (word-starts s (omega (arith, h, k))))
    (λ e. rw (first-here (λ x. not (is_blank x)) b s (ap not e)) (omega (arith, first-later is_blank b s e)))

module _ (s : List ℕ) where
  pub no_words : length s ≤ first_at (λ b. not (is_blank b)) s → words_in s ≡ []
  no_words h =
      sym (words-skip s) ∙ ap words_in (drop_of_length-le s {i = first_at (λ b. not (is_blank b)) s} h) ∙ words-none

  pub next-is : (start : ℕ) (rest word behind : List ℕ) → start ≡ first_at (λ b. not (is_blank b)) s → start < length s → rest ≡ drop start s
      → word ≡ take (first_at is_blank rest) rest → behind ≡ drop (first_at is_blank rest) rest
      → (words_in s ≡ word ∷ words_in behind) × (length behind < length s)
  next-is start rest word behind a l r w b =
      let h : 0 < first_at is_blank rest = rw (r, a) (word-starts s (omega (arith, a))) in
      let f : words_in rest ≡ words_in s = rw (r, a) (words-skip s) in (
        sym f ∙ words-first rest h ∙ rw (w, b) refl,
        omega (arith, ap length b, length-drop (first_at is_blank rest) rest, ap length r, length-drop start s),
      )

-- ---- what is left of a line

pub empty-bare : (s : List ℕ) → length s ≡ 0 → s ≡ without_return s
unfolding without_return is_return
empty-bare [] e = refl
empty-bare (b ∷ s) e = absurd (omega arith)

module _ (s : List ℕ) where
  last-place : pred (length s) ≡ length s - 1
  last-place = omega arith

  pub return-bare : get_or s (length s - 1) 0 ≡ 13 → take (length s - 1) s ≡ without_return s
  unfolding without_return is_return
  return-bare e = rw (last-place, eq-eqb (get_or s (length s - 1) 0) 13 e) refl

  pub other-bare : (get_or s (length s - 1) 0 ≡ 13 → ⊥) → s ≡ without_return s
  unfolding without_return is_return
  other-bare e = rw (last-place, ne_eqb (get_or s (length s - 1) 0) 13 e) refl

pub comment-bare : (s : List ℕ) (n : ℕ) → n ≡ first_at is_hash s → take n s ≡ without_comment s
unfolding without_comment
comment-bare s n e = rw e refl

pub no-comment : (s : List ℕ) → length s ≤ first_at is_hash s → s ≡ without_comment s
unfolding without_comment
no-comment s h = sym (take_all (first_at is_hash s) s h)
