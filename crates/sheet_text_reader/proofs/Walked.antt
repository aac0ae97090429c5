-- Line by line: the first line of what is left ends at the first newline, and what stands behind that is read on.
use Rattle.std.proofs.Common.{min, ℕ, suc, ◌+◌, ◌≤◌, ◌<◌, ◌≡◌, refl, sym, ap, ◌∙◌, Bool, true, false, ◌&&◌, List, [], ◌∷◌, add-one, arith, ltb, ltb-true, ltb-false, length, take, drop, length-take, length-drop, drop_of_length-le, take_all, nat_eq, Ok, Err}
use Rattle.model_base.proofs.Tests.{test}
use lib.Pointwise.{pointwise}
use Rattle.model_base.specs.Same.{same_numbers}
use Rattle.model_text.specs.Words.{is_newline, is_blank, filled, without_return, without_comment, words_of, first_at, count_of, pieces_of, lines_of, whole_lines}
use Rattle.model_text.specs.Statements.{slots_word, ban_word, gap_word, slots_said, ban_said, gap_said, words_say, line_says}
use Rattle.model_text.specs.Drafts.{NotStatement as NotStatement', Draft as Draft', no_draft, Next, Wrong, begun, with_said, with_line}
use Rattle.sheet_text_statements.specs.Parts.{words_in}
use Rattle.sheet_text_drafts.specs.declared.draft.Draft.{Draft}
use Rattle.sheet_text_drafts.specs.declared.fault.LineRejection.{LineRejection}
use Rattle.sheet_text_drafts.specs.declared.fault.LineRejection.TheVariants.{SlotsFirst, LongText}
use Rattle.sheet_text_drafts.specs.Faults.{fault_of}
use Rattle.sheet_text_drafts.specs.Drafting.{draft_in, judged, taken_of}
use Rattle.model_text.specs.Reading.{longest_text, Outcome, RejectedLine, at_end, read_lines, read_from, sheet_of}
use Rattle.sheet_text_reader.specs.Walking.{lines_in, outcome_of}
use Rattle.sheet_text_statements.proofs.Searching.{first-here, first-later, first-within}
use Rattle.sheet_text_statements.proofs.Pieces.{piece-first}

-- ---- the first line

count_next : (p : ℕ → Bool) (t : List ℕ) → first_at p t < length t → count_of p t ≡ suc (count_of p (drop (suc (first_at p t)) t))
unfolding first_at count_of
count_next p [] h = absurd (omega arith)
count_next p (b ∷ t) h =
    test (p b)
    (λ e. rw (first-here p b t e, e, count_of))
    (λ e. rw (first-later p b t e, e, count_of) (count_next p t (omega (arith, h, first-later p b t e))))

count_none : (p : ℕ → Bool) (t : List ℕ) → length t ≤ first_at p t → count_of p t ≡ 0
unfolding first_at count_of
count_none p [] h = refl
count_none p (b ∷ t) h =
    test (p b)
    (λ e. absurd (omega (arith, h, first-here p b t e)))
    (λ e. rw (e, count_of) (count_none p t (omega (arith, h, first-later p b t e))))

line_first : (cut : Bool) (b : ℕ) (t : List ℕ) → (cut ≡ true → first_at is_newline (b ∷ t) < length (b ∷ t))
    → lines_in cut (b ∷ t) ≡ take (first_at is_newline (b ∷ t)) (b ∷ t) ∷ lines_in cut (drop (suc (first_at is_newline (b ∷ t))) (b ∷ t))
unfolding lines_in lines_of whole_lines
line_first false b t h = piece-first is_newline b t
line_first true b t h = rw (count_next is_newline (b ∷ t) (h refl), piece-first is_newline b t) refl

line-cut : (t : List ℕ) → length t ≤ first_at is_newline t → lines_in true t ≡ []
unfolding lines_in whole_lines
line-cut t h = rw (count_none is_newline t h) refl

no_lines : (cut : Bool) → lines_in cut [] ≡ []
unfolding lines_in lines_of whole_lines pieces_of count_of
no_lines true = refl
no_lines false = refl

pub empty_none : (cut : Bool) (text : List ℕ) → length text ≡ 0 → lines_in cut text ≡ []
empty_none cut [] e = no_lines cut
empty_none cut (b ∷ t) e = absurd (omega arith)

pub next-ended : (cut : Bool) (text : List ℕ) (end : ℕ) (behind : List ℕ) → (end ≡ first_at is_newline text) × (end < length text)
    → behind ≡ drop (end + 1) text → (lines_in cut text ≡ take end text ∷ lines_in cut behind) × (length behind < length text)
next-ended cut [] end behind e b = absurd (omega (arith, e.1))
next-ended cut (b ∷ t) end behind e r =
    (rw (r, add-one, e.0) (line_first cut b t (λ _. omega (arith, e.0, e.1))), omega (arith, ap length r, e.1, length-drop (end + 1) (b ∷ t)))

pub next-cut : (cut : Bool) (text : List ℕ) → cut ≡ true → length text ≤ first_at is_newline text → lines_in cut text ≡ []
next-cut cut text c h = rw c (line-cut text h)

pub next-last : (cut : Bool) (text line behind : List ℕ) → cut ≡ false → (length text ≡ 0 → ⊥) → length text ≤ first_at is_newline text
    → line ≡ take (length text) text → behind ≡ drop (length text) text
    → (lines_in cut text ≡ line ∷ lines_in cut behind) × (length behind < length text)
next-last cut [] line behind c n h l r = absurd (n refl)
next-last cut (b ∷ t) line behind c n h l r =
    let e : first_at is_newline (b ∷ t) ≡ length (b ∷ t) = omega (arith, h, first-within is_newline (b ∷ t)) in
    let f = line_first false b t (λ q. let z : ⊥ = cc in absurd z) in
    let d : drop (suc (length (b ∷ t))) (b ∷ t) ≡ [] = drop_of_length-le (b ∷ t) {i = suc (length (b ∷ t))} (omega arith) in
    let m : drop (length (b ∷ t)) (b ∷ t) ≡ [] = drop_of_length-le (b ∷ t) {i = length (b ∷ t)} (omega arith) in
    (rw (c, l, r, m) (rw (e, d) at f), omega (arith, ap length (r ∙ m)))

-- ---- line by line

pub reads : (cut : Bool) (n : ℕ) (d : Draft') (text : List ℕ) → read_from cut n d text ≡ read_lines cut n d (lines_in cut text)
unfolding read_from lines_in
reads cut n d text = refl

module _ (cut : Bool) (n : ℕ) (d : Draft') (lines : List (List ℕ)) where
  pub reads-none : lines ≡ [] → read_lines cut n d lines ≡ at_end cut n d
  unfolding read_lines
  reads-none e = rw (e, read_lines) refl

  module _ (line : List ℕ) (more : List (List ℕ)) (e : lines ≡ line ∷ more) where
    pub reads-wrong : (f : _) → Wrong f ≡ with_line d line → RejectedLine n f ≡ read_lines cut n d lines
    unfolding read_lines
    reads-wrong f w = sym (rw (e, read_lines, ← w) refl)

    pub reads-next : (o : Draft') → Next o ≡ with_line d line → read_lines cut n d lines ≡ read_lines cut (n + 1) o more
    unfolding read_lines
    reads-next o w = rw (e, read_lines, ← w, add-one n) refl

-- what is read so far, with the lines left, comes to the same
pub record Walks (cut : Bool) (text : List ℕ) (first : Draft) (line : ℕ) (d : Draft) (rest : List ℕ) : Type 0 where
  pub comes : read_from cut 1 (draft_in first) text ≡ read_lines cut line (draft_in d) (lines_in cut rest)
  pub numbered : line + length rest ≤ suc (length text)

pub walks-none : (cut : Bool) (text : List ℕ) (d : Draft) → Walks cut text d 1 d text
walks-none cut text d = record { comes = reads cut 1 (draft_in d) text; numbered = omega arith }

module _ (cut : Bool) (text : List ℕ) (first : Draft) (n : ℕ) (d : Draft) (rest : List ℕ) (S : Walks cut text first n d rest) where
  module _ (line behind : List ℕ) (N : lines_in cut rest ≡ line ∷ lines_in cut behind) (o : Draft) where
    pub walks-one : {u : Unit {0}} → length behind < length rest → taken_of (Ok u) o ≡ with_line (draft_in d) line
        → Walks cut text first (n + 1) o behind
    unfolding taken_of judged
    walks-one l T =
        record {
          comes = S.comes ∙ reads-next cut n (draft_in d) (lines_in cut rest) line (lines_in cut behind) N (draft_in o) T;
          numbered = omega (arith, S.numbered, l);
        }

    pub walks-wrong : (f : LineRejection) → taken_of (Err f) o ≡ with_line (draft_in d) line
        → outcome_of (Err (record { line = n; fault = f })) o ≡ read_from cut 1 (draft_in first) text
    unfolding taken_of judged outcome_of
    walks-wrong f T = reads-wrong cut n (draft_in d) (lines_in cut rest) line (lines_in cut behind) N (fault_of f) T ∙ sym S.comes

  module _ (N : lines_in cut rest ≡ []) where
    ends : at_end cut n (draft_in d) ≡ read_from cut 1 (draft_in first) text
    ends = sym (reads-none cut n (draft_in d) (lines_in cut rest) N) ∙ sym S.comes

    pub ends-cut : cut ≡ true → outcome_of (Err (record { line = n; fault = LongText })) d ≡ read_from cut 1 (draft_in first) text
    unfolding outcome_of at_end
    ends-cut c = sym (rw (c, at_end) refl) ∙ ends

    pub ends-early : cut ≡ false → begun (draft_in d) ≡ false
        → outcome_of (Err (record { line = n; fault = SlotsFirst })) d ≡ read_from cut 1 (draft_in first) text
    unfolding outcome_of at_end
    ends-early c b = sym (rw (c, b, at_end) refl) ∙ ends

    pub ends-made : {u : Unit {0}} → cut ≡ false → begun (draft_in d) ≡ true → outcome_of (Ok u) d ≡ read_from cut 1 (draft_in first) text
    unfolding outcome_of at_end
    ends-made c b = sym (rw (c, b, at_end) refl) ∙ ends

-- ---- a line

pub same-words : (xs ys : List ℕ) → pointwise nat_eq xs ys ≡ same_numbers xs ys
unfolding same_numbers
same-words [] [] = refl
same-words [] (y ∷ ys) = refl
same-words (x ∷ xs) [] = refl
same-words (x ∷ xs) (y ∷ ys) = ap (λ (b : Bool). nat_eq x y && b) (same-words xs ys)

-- a word beside a text
pub compared : (word : List ℕ) {text literal : List ℕ} {same holds : Bool} → text ≡ literal → same ≡ pointwise nat_eq word text → same ≡ holds
    → pointwise nat_eq word literal ≡ holds
compared word l e t = sym (ap (pointwise nat_eq word) l) ∙ sym e ∙ t

module _ (bare line : List ℕ) (e : bare ≡ without_comment (without_return line)) where
  says : line_says line ≡ words_say (words_in bare)
  unfolding line_says words_of words_in
  says = ap (λ (x : List ℕ). words_say (filled (pieces_of is_blank x))) (sym e)

  pub says_nothing : (d : Draft) → words_in bare ≡ [] → {u : Unit {0}} → taken_of (Ok u) d ≡ with_line (draft_in d) line
  unfolding taken_of judged with_line with_said words_say
  says_nothing d n = sym (ap (with_said (draft_in d)) (says ∙ ap words_say n))

  module _ (d : Draft') (word : List ℕ) (args : List (List ℕ)) (n : words_in bare ≡ word ∷ args) where
    said : with_line d line ≡ with_said d (words_say (word ∷ args))
    unfolding with_line
    said = ap (with_said d) (says ∙ ap words_say n)

    pub says-slots : pointwise nat_eq word slots_word ≡ true → with_said d (slots_said args) ≡ with_line d line
    unfolding words_say
    says-slots a = sym (said ∙ rw (sym (same-words word slots_word) ∙ a, words_say) refl)

    module _ (a : pointwise nat_eq word slots_word ≡ false) where
      pub says-ban : pointwise nat_eq word ban_word ≡ true → with_said d (ban_said args) ≡ with_line d line
      unfolding words_say
      says-ban b = sym (said ∙ rw (sym (same-words word slots_word) ∙ a, sym (same-words word ban_word) ∙ b, words_say) refl)

      module _ (b : pointwise nat_eq word ban_word ≡ false) where
        pub says-gap : pointwise nat_eq word gap_word ≡ true → with_said d (gap_said args) ≡ with_line d line
        unfolding words_say
        says-gap g =
            sym (said ∙ rw (sym (same-words word slots_word) ∙ a, sym (same-words word ban_word) ∙ b, sym (same-words word gap_word) ∙ g, words_say) refl)

        pub says-none : pointwise nat_eq word gap_word ≡ false → Wrong NotStatement' ≡ with_line d line
        unfolding words_say with_said
        says-none g =
            sym (said ∙ rw (sym (same-words word slots_word) ∙ a, sym (same-words word ban_word) ∙ b, sym (same-words word gap_word) ∙ g, words_say) refl)

-- ---- the whole text

pub front-is : (text : List ℕ) (n : ℕ) → n ≡ min (length text) 1048576
    → (take n text ≡ take longest_text text) × (length (take n text) ≤ 1048576)
unfolding longest_text
front-is text n e = (
  test (ltb (length text) 1048576)
      (λ t. let l = ltb-true (length text) 1048576 t in
      take_all n text (omega arith) ∙ sym (take_all 1048576 text (omega arith)))
      (λ t. let l = ltb-false (length text) 1048576 t in let q : n ≡ 1048576 = omega arith in ap (λ (k : ℕ). take k text) q),
  omega (arith, e, length-take n text),
)

pub text-comes : (text front : List ℕ) (first : Draft) (x : Outcome) → draft_in first ≡ no_draft → front ≡ take longest_text text
    → x ≡ read_from (ltb 1048576 (length text)) 1 (draft_in first) front → x ≡ sheet_of text
unfolding sheet_of longest_text
text-comes text front first x d f e = e ∙ rw (d, f) refl
