-- What was taken so far is read as a stream of its own: the season so far is its season, and no byte of it is more than that needs.
-- While reading goes on this holds whatever follows; where it is over, nothing follows.
use Rattle.std.proofs.Common.{ℕ, suc, ◌+◌, ◌≡◌, ◌≤◌, ◌<◌, Bool, true, false, Option, List, [], ◌∷◌, ◌++◌, None, Some, unwrap_or, length, drop, refl, sym, ap, subst, ◌∙◌, append_assoc, append-nil, length-append, length-drop, arith, leb, leb-true, leb-false}
use Rattle.std.specs.Io.KnownBytes.{Consumes, IsAtEnd}
use Rattle.std.proofs.KnownBytes.{Consumes-nil, Consumes-trans}
use Rattle.model_base.specs.Finite.{gather}
use Rattle.model_base.proofs.Tests.{test}
use Rattle.model_season.specs.Season.{no_figures, figures_of as figures_of'}
use Rattle.model_season.specs.Stream.{most_sheets, length_bytes, length_in, is_whole, split, Season as Season', season_from, season}
use Rattle.season_figures.specs.declared.stream.Reading.TheVariants.{Going}
use Rattle.season_figures.specs.declared.stream.Season.{Season}
use Rattle.season_figures.specs.Abstract.{figures_of}
use Rattle.season_figures.specs.Pieces.{said, is_piece, is_over, over_by, season_of, Steps, Advances}
use Rattle.season_figures.proofs.Pieces.{said_nothing, said_length}
use Rattle.season_figures.proofs.Reading.{Here, here_begins, here_next, over_season, last_season}
use Rattle.support_cli.specs.Streams.{InputState, OutputState, Takes, Puts}
use Rattle.support_cli.proofs.Putting.{puts_then, puts_nothing}
use Rattle.season_cli.specs.Answers.{told, progress, bytes_from, bytes_read}
use Rattle.season_cli.specs.Pieces.{progress_behind, TakesBehind, TakesPiece, StreamRead}
use Rattle.season_cli.proofs.Cutting.{wanted, broken-short, whole-advances, last-advances}
use Rattle.season_cli.proofs.Counting.{told-more, told-still, sheets-are}

pub record Now (tells : Bool) (given now : InputState) (err err' : OutputState) (s : Season) (left : ℕ) : Type 0 where
  pub input : List ℕ
  pub taken : Consumes given.known now.known input
  pub over : given.failed ≡ true → (now.failed ≡ true) × (input ≡ [])
  pub goes : is_over s.reading ≡ false → (more : List ℕ) → Here (input ++ more) more s left
  pub needs : is_over s.reading ≡ false → (more : List ℕ) → bytes_from most_sheets (input ++ more) ≡ length input + bytes_from left more
  pub stops : is_over s.reading ≡ true → Here input [] s left
  pub needed : is_over s.reading ≡ true → bytes_read input ≡ length input
  pub ends : is_over s.reading ≡ true → now.failed ≡ false → IsAtEnd now.known
  pub says : Puts (told tells s.figures.sheets) err err'

-- ---- tests

never : {X : Type 0} (b : Bool) → b ≡ true → b ≡ false → X
never b e f = let clash : true ≡ false = sym e ∙ f in cc

over-by : (b : Bool) → is_over (over_by b) ≡ true
over-by true = refl
over-by false = refl

-- ---- the beginning

no-sheets : (tells : Bool) (n : ℕ) → n ≡ 0 → told tells n ≡ []
unfolding progress gather
no-sheets true n z = rw z refl
no-sheets false n z = refl

pub now_begins : (tells : Bool) (given : InputState) (err : OutputState) (s : Season) → figures_of s.figures ≡ no_figures → s.reading ≡ Going → Now tells given given err err s 1000000
unfolding figures_of' most_sheets
now_begins tells given err s f g =
    let o : is_over s.reading ≡ false = ap is_over g in
    record {
      input = [];
      taken = Consumes-nil given.known;
      over = λ e. (e, refl);
      goes = λ _ more. here_begins more s f g;
      needs = λ _ more. omega arith;
      stops = λ t. never _ t o;
      needed = λ t. never _ t o;
      ends = λ t. never _ t o;
      says = rw (no-sheets tells s.figures.sheets (sheets-are s.figures [] f)) (puts_nothing err);
    }

-- ---- one piece

-- what was taken for a piece, and what reading the stream does with it
record Piece (now now' : InputState) (s r : Season) : Type 0 where
  head : List ℕ
  sheet : List ℕ
  few : length head ≤ 2
  fits : length sheet ≤ wanted head
  taken : Consumes now.known now'.known (head ++ sheet)
  over : now.failed ≡ true → (now'.failed ≡ true) × (head ++ sheet ≡ [])
  ends : is_piece head sheet ≡ false → now'.failed ≡ false → IsAtEnd now'.known
  steps : Steps s head sheet r

module _ (now between now' : InputState) (s r : Season) (head : List ℕ) (first : Takes 2 head now between) where
  short-head : said head ≡ None → length head < 2
  short-head e =
      test (leb 2 (length head))
      (λ t. let whole = said_length head (leb-true 2 (length head) t) in let clash : Some (length_in head) ≡ None = sym whole ∙ e in cc)
      (λ t. leb-false 2 (length head) t)

  whole-head : (n : ℕ) → said head ≡ Some n → 2 ≤ length head
  whole-head n e =
      test (leb 2 (length head))
      (λ t. leb-true 2 (length head) t)
      (λ t. let none = said_nothing head (leb-false 2 (length head) t) in let clash : None ≡ Some n = sym none ∙ e in cc)

  piece-by : (o : Option ℕ) → said head ≡ o → TakesBehind o head between now' s r → Piece now now' s r
  piece-by None e b =
      let end : InputState = between in
      let short = short-head e in
      record {
        head = head;
        sheet = [];
        few = first.few;
        fits = omega arith;
        taken = rw (append-nil head, b.0) first.taken;
        over = λ f. let (g, h) = first.over f in rw (append-nil head, b.0) (g, h);
        ends = λ p f. rw b.0 (first.all (rw b.0 at f) short);
        steps = b.1;
      }
  piece-by (Some n) e b =
      let asked : wanted head ≡ n = ap (λ (o : Option ℕ). unwrap_or o 0) e in
      let long = whole-head n e in
      let fits : length b.sheet ≤ wanted head = omega (arith, b.takes.few) in
      record {
        head = head;
        sheet = b.sheet;
        few = first.few;
        fits = fits;
        taken = Consumes-trans _ _ _ _ _ first.taken b.takes.taken;
        over = λ f. let (g, h) = first.over f in let (k, z) = b.takes.over g in (k, rw (h, z) refl);
        ends = λ p f. b.takes.all f (let l = broken-short head b.sheet first.few fits p long in omega arith);
        steps = b.steps;
      }

piece : (now now' : InputState) (s r : Season) → TakesPiece now now' s r → Piece now now' s r
piece now now' s r t = piece-by now t.between now' s r t.head t.takes (said t.head) refl t.behind

bytes-go : (most : ℕ) (bytes : List ℕ) → is_whole bytes ≡ true
    → bytes_from (suc most) bytes ≡ length_bytes + length_in bytes + bytes_from most (drop (length_bytes + length_in bytes) bytes)
unfolding bytes_from
bytes-go most bytes e = rw (e, bytes_from) refl

bytes-end : (most : ℕ) (bytes : List ℕ) → is_whole bytes ≡ false → bytes_from (suc most) bytes ≡ length bytes
unfolding bytes_from
bytes-end most bytes e = rw (e, bytes_from) refl

-- a whole piece is as long as the part of the stream that is cut off
cut-long : (bytes more : List ℕ) → is_whole bytes ≡ true → more ≡ drop (length_bytes + length_in bytes) bytes → length_bytes + length_in bytes + length more ≡ length bytes
unfolding is_whole
cut-long bytes more w e =
    let fits = leb-true (length_bytes + length_in bytes) (length bytes) w in
    let left = ap length e ∙ length-drop (length_bytes + length_in bytes) bytes in
    omega arith

module _ (tells : Bool) (given now now' : InputState) (err err' err'' : OutputState) (s r : Season) (less : ℕ)
    (N : Now tells given now err err' s (suc less)) (O : is_over s.reading ≡ false) (P : Piece now now' s r) (Q : Puts (progress_behind tells r) err' err'') where
  all-taken : List ℕ
  all-taken = N.input ++ (P.head ++ P.sheet)

  joined : (more : List ℕ) → N.input ++ (P.head ++ (P.sheet ++ more)) ≡ all-taken ++ more
  unfolding all-taken
  joined more = sym (append_assoc N.input (P.head ++ P.sheet) more ∙ ap (λ (l : List ℕ). N.input ++ l) (append_assoc P.head P.sheet more))

  last-joined : N.input ++ (P.head ++ (P.sheet ++ [])) ≡ all-taken
  last-joined = joined [] ∙ append-nil all-taken

  whole : is_over r.reading ≡ false → is_piece P.head P.sheet ≡ true
  whole o =
      test (is_piece P.head P.sheet) (λ t. t)
      (λ t. never _ (ap is_over (P.steps.ends t).1 ∙ over-by _) o)

  broken : is_over r.reading ≡ true → is_piece P.head P.sheet ≡ false
  broken o =
      test (is_piece P.head P.sheet)
      (λ t. never _ o (ap is_over (P.steps.counts t).1 ∙ O))
      (λ t. t)

  -- ---- where reading goes on

  goes-on : is_over r.reading ≡ false → (more : List ℕ) → Advances (P.head ++ (P.sheet ++ more)) s r more
  goes-on o more = whole-advances P.head P.sheet P.few P.fits s r P.steps (whole o) more

  here-goes : is_over r.reading ≡ false → (more : List ℕ) → Here (all-taken ++ more) more r less
  here-goes o more =
      let bytes = P.head ++ (P.sheet ++ more) in
      subst (λ (l : List ℕ). Here l more r less) (joined more)
      (here_next (N.input ++ bytes) bytes more s r (suc less) less refl (N.goes O bytes) O (goes-on o more))

  whole-bytes : (o : is_over r.reading ≡ false) (more : List ℕ) → is_whole (P.head ++ (P.sheet ++ more)) ≡ true
  whole-bytes o more =
      test (is_whole (P.head ++ (P.sheet ++ more))) (λ t. t)
      (λ t. never _ (ap is_over ((goes-on o more).ends t).1 ∙ over-by _) o)

  needs-more : is_over r.reading ≡ false → (more : List ℕ) → bytes_from most_sheets (all-taken ++ more) ≡ length all-taken + bytes_from less more
  unfolding all-taken
  needs-more o more =
      let bytes = P.head ++ (P.sheet ++ more) in
      let w = whole-bytes o more in
      let rest : more ≡ drop (length_bytes + length_in bytes) bytes = ((goes-on o more).counts w).2 in
      let a = ap (bytes_from most_sheets) (sym (joined more)) ∙ N.needs O bytes in
      let b : bytes_from (suc less) bytes ≡ length_bytes + length_in bytes + bytes_from less more =
      bytes-go less bytes w ∙ ap (λ (l : List ℕ). length_bytes + length_in bytes + bytes_from less l) (sym rest) in
      let c = cut-long bytes more w rest in
      omega (
        arith,
        a,
        length-append N.input (P.head ++ P.sheet),
        length-append P.head P.sheet,
        length-append P.head (P.sheet ++ more),
        length-append P.sheet more,
      )

  -- ---- where it is over

  last : Advances (P.head ++ (P.sheet ++ [])) s r []
  last = last-advances P.head P.sheet P.few P.fits s r P.steps

  here-stops : Here all-taken [] r less
  here-stops =
      let bytes = P.head ++ (P.sheet ++ []) in
      subst (λ (l : List ℕ). Here l [] r less) last-joined
      (here_next (N.input ++ bytes) bytes [] s r (suc less) less refl (N.goes O bytes) O last)

  needed-all : is_over r.reading ≡ true → bytes_read all-taken ≡ length all-taken
  unfolding bytes_read
  needed-all o =
      let bytes = P.head ++ (P.sheet ++ []) in
      let w : is_whole bytes ≡ false =
      test (is_whole bytes) (λ t. never _ o (ap is_over (last.counts t).1 ∙ O)) (λ t. t) in
      let a = ap (bytes_from most_sheets) (sym last-joined) ∙ N.needs O bytes in
      let b = bytes-end less bytes w in
      let c = ap length last-joined in
      omega (arith, a, b, c, length-append N.input bytes)

  -- ---- progress

  one-sheet : is_over r.reading ≡ false → r.figures.sheets ≡ suc s.figures.sheets
  one-sheet o =
      let H = N.goes O [] in
      let more = (P.steps.counts (whole o)).0 H.done (omega (arith, H.few)) H.figures in
      omega (arith, sheets-are r.figures _ more, sheets-are s.figures _ H.figures, length-append H.done (P.sheet ∷ []))

  told-so : told tells r.figures.sheets ≡ told tells s.figures.sheets ++ progress_behind tells r
  told-so =
      test (is_over r.reading)
      (λ o. told-still s r tells o (P.steps.ends (broken o)).0)
      (λ o. told-more s r tells o (one-sheet o))

  now_next : Now tells given now' err err'' r less
  now_next = record {
    input = all-taken;
    taken = unfold all-taken in Consumes-trans _ _ _ _ _ N.taken P.taken;
    over = unfold all-taken in (λ e. let (f, z) = N.over e in let (g, y) = P.over f in (g, rw (z, y) refl));
    goes = here-goes;
    needs = needs-more;
    stops = λ _. here-stops;
    needed = needed-all;
    ends = λ o. P.ends (broken o);
    says = rw told-so (puts_then _ _ _ _ _ N.says Q);
  }

pub now_after : (tells : Bool) (given now now' : InputState) (err err' err'' : OutputState) (s r : Season) (left less : ℕ) → left ≡ suc less → Now tells given now err err' s left
    → is_over s.reading ≡ false → TakesPiece now now' s r → Puts (progress_behind tells r) err' err'' → Now tells given now' err err'' r less
now_after tells given now now' err err' err'' s r left less e N O t Q =
    now_next tells given now now' err err' err'' s r less (subst (λ (k : ℕ). Now tells given now err err' s k) e N) O (piece now now' s r t) Q

-- ---- the end

module _ (tells : Bool) (given now : InputState) (err err' : OutputState) (s : Season) (left : ℕ) (N : Now tells given now err err' s left) where
  counted : season_of s ≡ season N.input → s.figures.sheets ≡ length (split most_sheets N.input).sheets
  unfolding season_of season season_from
  counted e = sheets-are s.figures _ (ap (λ (x : Season'). x.figures) e)

  pub read_over : is_over s.reading ≡ true → StreamRead tells given now err err' s
  read_over o =
      let same = over_season N.input [] s left (N.stops o) o in
      record {
        input = N.input;
        reads = record { taken = N.taken; exact = N.needed o; all = λ f l. N.ends o f; over = N.over };
        figures = same;
        says = rw (← counted same) N.says;
      }

  pub read_last : left ≡ 0 → is_over s.reading ≡ false → StreamRead tells given now err err' s
  unfolding bytes_read bytes_from
  read_last z o =
      let H = N.goes o [] in
      let same : season_of s ≡ season N.input = last_season _ _ _ _ H z ∙ ap season (append-nil N.input) in
      let none : bytes_from left [] ≡ 0 = rw z refl in
      let needs = N.needs o [] in
      let read : bytes_from most_sheets N.input ≡ length N.input = ap (bytes_from most_sheets) (sym (append-nil N.input)) ∙ omega arith in
      let full : length (split most_sheets N.input).sheets ≡ most_sheets = omega (arith, counted same, sheets-are s.figures _ H.figures, H.all o) in
      record {
        input = N.input;
        reads = record { taken = N.taken; exact = read; all = λ f l. absurd (omega arith); over = N.over };
        figures = same;
        says = rw (← counted same) N.says;
      }
