-- A text that gives a sheet is read to its end, and the sheet is written of a draft that holds what its lines say.
-- Line by line, no line faulty; a text that is too long gives none.
use Rattle.std.proofs.Common.{ℕ, suc, ◌≤◌, ◌≡◌, refl, sym, inl, inr, Bool, true, false, cond, List, [], ◌∷◌, ◌++◌, append-nil, append_assoc, arith, length, take, take_all, ltb, ltb-false}
use Rattle.model_base.proofs.Tests.{test}
use Rattle.model_text.specs.Words.{lines_of, whole_lines}
use Rattle.model_text.specs.Statements.{Statement, Said, Empty, Says, Unclear, line_says}
use Rattle.model_text.specs.Drafts.{LineRejection, Draft, no_draft, begun, Taken, Next, Wrong, with_said, with_line}
use Rattle.model_text.specs.Reading.{longest_text, Made, RejectedLine, sheet_from, at_end, read_lines, read_from, sheet_of}
use Rattle.model_text.specs.Claims.{in_front, statements_in, statements_of}
use Rattle.theorems_text.proofs.Tests.{wrong}
use Rattle.theorems_text.proofs.Drafts.{Begun, Drafted, now-begun, keeps}

-- the sheet is that of a draft that holds these statements
pub record Written (s : List ℕ) (said : List Statement) : Type 0 where
  pub draft : Draft
  pub begun : Begun draft said
  pub sheet : s ≡ sheet_from draft

faulty : {X : Type 0} {n : ℕ} {fault : LineRejection} {s : List ℕ} → RejectedLine n fault ≡ Made s → X
faulty e = let z : ◌≡◌ {A = ℕ} 0 1 = cc in absurd (omega arith)

taken : (t : Taken) {C : Type 0} → ((d : Draft) → t ≡ Next d → C) → ((fault : LineRejection) → t ≡ Wrong fault → C) → C
taken (Next d) f g = f d refl
taken (Wrong fault) f g = g fault refl

-- a line that is taken, by what it says
said-next : (d e : Draft) (said : List Statement) (l : Said) (rest : List Statement) → Drafted d said → with_said d l ≡ Next e
    → (before : List Statement) × Drafted e before × (said ++ in_front l rest ≡ before ++ rest)
unfolding with_said in_front
said-next d e said Empty rest k h = let same : d ≡ e = cc in (said, rw (← same) k, refl)
said-next d e said (Says s) rest k h = (said ++ (s ∷ []), inr (keeps d said s k e h), sym (append_assoc said (s ∷ []) rest))
said-next d e said Unclear rest k h = wrong h

module _ (s : List ℕ) where
  ends : (cut : Bool) (n : ℕ) (d : Draft) (said : List Statement) → Drafted d said → at_end cut n d ≡ Made s → (cut ≡ false) × Written s said
  unfolding at_end
  ends true n d said k h = faulty h
  ends false n d said k h =
      test (begun d)
      (λ b. let made : Made (sheet_from d) ≡ Made s = rw (b, at_end) at h in (refl, record { draft = d; begun = now-begun d said b k; sheet = cc }))
      (λ b. faulty (rw (b, at_end) at h))

  lines-written : (cut : Bool) (lines : List (List ℕ)) (n : ℕ) (d : Draft) (said : List Statement) → Drafted d said
      → read_lines cut n d lines ≡ Made s → (cut ≡ false) × Written s (said ++ statements_in lines)
  unfolding read_lines statements_in with_line
  lines-written cut [] n d said k h = rw append-nil (ends cut n d said k h)
  lines-written cut (line ∷ lines) n d said k h =
      taken (with_line d line)
      (λ e t.
      let (before, kept, same) = said-next d e said (line_says line) (statements_in lines) k t in
      rw same (lines-written cut lines (suc n) e before kept (rw (t, read_lines) at h)))
      (λ fault t. faulty (rw (t, read_lines) at h))

-- all lines of it, since it is not too long
pub text-written : (text s : List ℕ) → sheet_of text ≡ Made s → Written s (statements_of text)
unfolding statements_of read_from sheet_of
text-written text s h =
    let long = ltb longest_text (length text) in
    let front = take longest_text text in
    let x = lines-written s long (cond long (whole_lines front) (lines_of front)) 1 no_draft [] (inl (refl, refl)) h in
    let whole : length text ≤ longest_text = ltb-false longest_text (length text) x.0 in
    rw (take_all longest_text text whole) at (rw x.0 at x.1)
