-- Words with single blanks between them are read back as those words.
-- A word has at least one byte and only bytes from 36 on: none that ends a line or a word or begins a comment.
use Rattle.std.proofs.Common.{ℕ, zero, suc, pred, ◌≤◌, ◌≡◌, refl, ap, ◌∙◌, Bool, false, List, [], ◌∷◌, ◌++◌, append-nil, arith, length, get_or, ne_eqb, lt-ltb}
use lib.Seq.{take-length}
use Rattle.model_base.specs.Lists.{All}
use Rattle.model_base.proofs.Lists.{All-append, All-map}
use Rattle.model_text.specs.Words.{is_newline, is_return, is_blank, is_hash, first_at, pieces_of, filled, without_return, without_comment, words_of}
use Rattle.model_text.proofs.Pieces.{Plain, pieces-ended, pieces-last}

-- each word with a blank in front
unfoldable pub spaced : List (List ℕ) → List ℕ
spaced [] = []
spaced (word ∷ words) = 32 ∷ (word ++ spaced words)

pub record Word (w : List ℕ) : Type 0 where
  pub some : 1 ≤ length w
  pub high : All (λ b. 36 ≤ b) w

-- ---- a line's bytes

pub record Inline (b : ℕ) : Type 0 where
  pub newline : is_newline b ≡ false
  pub return : is_return b ≡ false
  pub hash : is_hash b ≡ false

high-inline : (b : ℕ) → 36 ≤ b → Inline b
unfolding is_newline is_return is_hash
high-inline b h = record { newline = ne_eqb b 10 (λ e. omega arith); return = ne_eqb b 13 (λ e. omega arith); hash = ne_eqb b 35 (λ e. omega arith) }

high-solid : (b : ℕ) → 36 ≤ b → is_blank b ≡ false
unfolding is_blank
high-solid b h = rw (ne_eqb b 32 (λ e. omega arith), ne_eqb b 9 (λ e. omega arith))

blank-inline : Inline 32
unfolding is_newline is_return is_hash
blank-inline = record { newline = refl; return = refl; hash = refl }

word-inline : (w : List ℕ) → Word w → All Inline w
word-inline w h = All-map (λ b. 36 ≤ b) Inline high-inline w h.high

spaced-inline : (words : List (List ℕ)) → All Word words → All Inline (spaced words)
unfolding spaced
spaced-inline [] h = tt
spaced-inline (w ∷ words) h = (blank-inline, All-append Inline w (spaced words) (word-inline w h.0) (spaced-inline words h.1))

pub line-inline : (w : List ℕ) (words : List (List ℕ)) → Word w → All Word words → All Inline (w ++ spaced words)
line-inline w words h k = All-append Inline w (spaced words) (word-inline w h) (spaced-inline words k)

-- ---- no return at its end, no comment

-- what holds of each element and of what stands past the end holds wherever one looks
pub all-anywhere : (P : ℕ → Type 0) (l : List ℕ) (k d : ℕ) → All P l → P d → P (get_or l k d)
all-anywhere P [] k d h e = e
all-anywhere P (x ∷ l) zero d h e = h.0
all-anywhere P (x ∷ l) (suc k) d h e = all-anywhere P l k d h.1 e

pub none_first : (p : ℕ → Bool) (l : List ℕ) → All (λ b. p b ≡ false) l → first_at p l ≡ length l
unfolding first_at
none_first p [] h = refl
none_first p (b ∷ l) h = rw (h.0, first_at) (ap suc (none_first p l h.1))

kept-return : (l : List ℕ) → All Inline l → without_return l ≡ l
unfolding without_return is_return
kept-return l h =
    rw (all-anywhere (λ b. is_return b ≡ false) l (pred (length l)) 0 (All-map Inline (λ b. is_return b ≡ false) (λ b i. i.return) l h) refl)

kept-comment : (l : List ℕ) → All Inline l → without_comment l ≡ l
unfolding without_comment
kept-comment l h = rw (none_first is_hash l (All-map Inline (λ b. is_hash b ≡ false) (λ b i. i.hash) l h)) (take-length l)

-- ---- its words

word-solid : (w : List ℕ) → Word w → Plain is_blank w
word-solid w h = All-map (λ b. 36 ≤ b) (λ b. is_blank b ≡ false) high-solid w h.high

pieces-words : (w : List ℕ) (words : List (List ℕ)) → Word w → All Word words → pieces_of is_blank (w ++ spaced words) ≡ w ∷ words
unfolding spaced is_blank
pieces-words w [] h k = rw append-nil (pieces-last is_blank w (word-solid w h) h.some)
pieces-words w (v ∷ words) h k =
    pieces-ended is_blank w 32 (v ++ spaced words) (word-solid w h) refl ∙ ap (λ (l : List (List ℕ)). w ∷ l) (pieces-words v words k.0 k.1)

all-filled : (words : List (List ℕ)) → All Word words → filled words ≡ words
unfolding filled
all-filled [] h = refl
all-filled (w ∷ words) h = rw (lt-ltb 0 (length w) h.0.some, filled, all-filled words h.1)

pub words_back : (w : List ℕ) (words : List (List ℕ)) → Word w → All Word words → words_of (w ++ spaced words) ≡ w ∷ words
unfolding words_of
words_back w words h k =
    let inline = line-inline w words h k in
    rw (kept-return _ inline, kept-comment _ inline, pieces-words w words h k) (all-filled (w ∷ words) (h, k))
