-- The lines of a told text are its slot counts and its rows, each as words with blanks between them.
-- Each line ends in the one newline that it has.
use Rattle.std.proofs.Common.{ℕ, zero, suc, ◌≡◌, refl, sym, ap, ◌∙◌, false, cond, List, [], ◌∷◌, ◌++◌, map, append-nil, append_assoc, ℤ, pos, negsuc, eqb}
use Rattle.model_base.specs.Finite.{gather}
use Rattle.model_base.specs.Lists.{All}
use Rattle.model_base.proofs.Tests.{test}
use Rattle.model_base.proofs.Lists.{All-map}
use Rattle.model_sheet.specs.Problem.{Problem, domain}
use Rattle.model_sheet.specs.Row.{Row, signed}
use Rattle.model_base.specs.Decimal.{decimal, newline}
use Rattle.model_text.specs.Words.{is_newline, lines_of}
use Rattle.model_text.specs.Statements.{slots_word, ban_word, gap_word}
use Rattle.model_text.specs.Telling.{blank, colon, dash, figure, place, signed_figure, slots_line, ban_line, gap_line, row_line, row_lines, text_from}
use Rattle.model_text.proofs.Pieces.{lines_none, lines-ended}
use Rattle.theorems_text.proofs.Spacing.{spaced, Inline, line-inline}
use Rattle.theorems_text.proofs.Figures.{place_word, signed_word}
use Rattle.theorems_text.proofs.Saying.{slots-word, decimal-words, ban-word, ban_words, ban-words, gap_word_lem, gap_words, gap-words}

-- ---- the lines without their newlines

-- f k, f (k + 1), ..
abbrev pub listed : ℕ → ℕ → (ℕ → ℕ) → List ℕ
listed m k f = gather m k (λ i. f i ∷ [])

-- the slot counts of a problem's agents
abbrev pub slots_of : Problem → List ℕ
slots_of p = listed p.count 1 (domain p)

unfoldable pub slots_body : Problem → List ℕ
slots_body p = slots_word ++ spaced (map decimal (slots_of p))

unfoldable pub ban_body : Row → List ℕ
ban_body row = ban_word ++ spaced (ban_words row.lower row.low row.higher row.high)

unfoldable pub gap_body : Row → List ℕ
gap_body row = gap_word ++ spaced (gap_words row.lower row.higher (signed row.low) (signed row.high))

unfoldable pub row_body : ℕ → Row → List ℕ
row_body e row = cond (eqb e 2) (gap_body row) (ban_body row)

-- ---- they have no newline

plain : (l : List ℕ) → All Inline l → All (λ b. is_newline b ≡ false) l
plain = All-map Inline (λ b. is_newline b ≡ false) (λ b i. i.newline)

slots-plain : (p : Problem) → All Inline (slots_body p)
unfolding slots_body
slots-plain p = line-inline slots_word _ slots-word (decimal-words (slots_of p))

row_plain : (e : ℕ) (row : Row) → All Inline (row_body e row)
unfolding row_body ban_body gap_body
row_plain e row =
    test (eqb e 2)
    (λ h. rw h (line-inline gap_word _ gap_word_lem (gap-words _ _ _ _)))
    (λ h. rw h (line-inline ban_word _ ban-word (ban-words _ _ _ _)))

-- ---- and are told with one

figures : (m k : ℕ) (f : ℕ → ℕ) → gather m k (λ i. figure (f i)) ≡ spaced (map decimal (listed m k f))
unfolding gather spaced figure blank
figures zero k f = refl
figures (suc m) k f = rw (figures m (suc k) f)

slots-ended : (p : Problem) → slots_line p ≡ slots_body p ++ newline
unfolding slots_line slots_body
slots-ended p = rw (figures p.count 1 (domain p)) (sym (append_assoc slots_word _ newline))

signed-figure : (z : ℤ) → signed_figure z ≡ 32 ∷ signed_word z
unfolding signed_figure signed_word figure blank dash
signed-figure (pos k) = refl
signed-figure (negsuc k) = refl

place-figure : (i v : ℕ) → place i v ≡ 32 ∷ place_word i v
unfolding place place_word figure blank colon
place-figure i v = refl

ban-ended : (row : Row) → ban_line row ≡ ban_body row ++ newline
unfolding ban_line ban_body ban_words spaced
ban-ended row =
    rw (place-figure row.lower row.low, place-figure row.higher row.high) (simp (append_assoc, append-nil))

gap-ended : (row : Row) → gap_line row ≡ gap_body row ++ newline
unfolding gap_line gap_body gap_words spaced figure blank
gap-ended row = rw (signed-figure (signed row.low), signed-figure (signed row.high)) (simp (append_assoc, append-nil))

row-ended : (e : ℕ) (row : Row) → row_line e row ≡ row_body e row ++ newline
unfolding row_line row_body
row-ended e row = test (eqb e 2) (λ h. rw h (gap-ended row)) (λ h. rw h (ban-ended row))

-- ---- the lines

one_line : (body line rest : List ℕ) → All Inline body → line ≡ body ++ newline → lines_of (line ++ rest) ≡ body ∷ lines_of rest
unfolding newline
one_line body line rest h e = rw (e, append_assoc) (lines-ended body rest (plain body h))

row-lines : (e : ℕ) (rows : List Row) → lines_of (row_lines e rows) ≡ map (row_body e) rows
unfolding row_lines
row-lines e [] = lines_none
row-lines e (row ∷ rows) =
    one_line (row_body e row) (row_line e row) (row_lines e rows) (row_plain e row) (row-ended e row)
    ∙ ap (λ (l : List (List ℕ)). row_body e row ∷ l) (row-lines e rows)

pub text-lines : (e : ℕ) (p : Problem) (rows : List Row) → lines_of (text_from e p rows) ≡ slots_body p ∷ map (row_body e) rows
unfolding text_from
text-lines e p rows =
    one_line (slots_body p) (slots_line p) (row_lines e rows) (slots-plain p) (slots-ended p)
    ∙ ap (λ (l : List (List ℕ)). slots_body p ∷ l) (row-lines e rows)
