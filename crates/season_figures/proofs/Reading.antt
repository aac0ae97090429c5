-- The season so far, with what is left of the stream, is the season of the stream.
-- A whole sheet goes from what is left to what is done; where nothing whole is left, reading is over.
use Rattle.std.proofs.Common.{ℕ, suc, ◌+◌, ◌≤◌, ◌<◌, ◌≡◌, refl, sym, ap, subst, ◌∙◌, Bool, true, false, List, [], ◌∷◌, ◌++◌, append_assoc, append-nil, arith, length, length-append, ltb, lt-ltb, le-ltb}
use mathlib.Core.Bool.{false≢true}
use Rattle.model_base.proofs.Tests.{test}
use Rattle.model_season.specs.Season.{figures_of as figures_of', no_figures}
use Rattle.model_season.specs.Stream.{Stream, most_sheets, is_whole, ended, behind, split, Season as Season', season_from, season}
use Rattle.model_season.proofs.Streams.{split_goes, split-ends}
use Rattle.season_figures.specs.declared.stream.Reading.{Reading}
use Rattle.season_figures.specs.declared.stream.Reading.TheVariants.{Going, Ended, Cut}
use Rattle.season_figures.specs.declared.stream.Season.{Season}
use Rattle.season_figures.specs.Abstract.{figures_of}
use Rattle.season_figures.specs.Pieces.{cut_of, is_over, over_by, first_sheet, reading_of, season_of, Advances}
use Rattle.season_figures.specs.Promised.{CountsTell}
use Rattle.season_figures.proofs.Promised.{counts-tell}

-- these sheets, and behind them the stream
abbrev joined : List (List ℕ) → Stream → Stream
joined done s = record { sheets = done ++ s.sheets; cut = s.cut }

pub record Here (stream rest : List ℕ) (s : Season) (left : ℕ) : Type 0 where
  pub done : List (List ℕ)
  pub few : length done + left ≤ most_sheets
  pub all : is_over s.reading ≡ false → length done + left ≡ most_sheets
  pub early : is_over s.reading ≡ true → length done < most_sheets
  pub figures : figures_of s.figures ≡ figures_of' done
  pub goes : is_over s.reading ≡ false → split most_sheets stream ≡ joined done (split left rest)
  pub stops : is_over s.reading ≡ true → split most_sheets stream ≡ joined done (ended (cut_of s.reading))

-- ---- the beginning

pub here_begins : (stream : List ℕ) (s : Season) → figures_of s.figures ≡ no_figures → s.reading ≡ Going → Here stream stream s 1000000
unfolding most_sheets figures_of'
here_begins stream s f g =
    let o : is_over s.reading ≡ false = ap is_over g in
    record {
      done = [];
      few = omega arith;
      all = λ _. omega arith;
      early = λ t. absurd (false≢true (sym o ∙ t));
      figures = f;
      goes = λ _. refl;
      stops = λ t. absurd (false≢true (sym o ∙ t));
    }

-- ---- one piece

moved : (done : List (List ℕ)) (sheet : List ℕ) (s : Stream) → joined done (behind sheet s) ≡ joined (done ++ (sheet ∷ [])) s
unfolding behind
moved done sheet s = ap (λ (l : List (List ℕ)). record { sheets = l; cut = s.cut }) (sym (append_assoc done (sheet ∷ []) s.sheets))

over-by : (b : Bool) → (is_over (over_by b) ≡ true) × (cut_of (over_by b) ≡ b)
over-by true = (refl, refl)
over-by false = (refl, refl)

module _ (stream rest after : List ℕ) (s r : Season) (left : ℕ) (H : Here stream rest s (suc left)) (O : is_over s.reading ≡ false) (A : Advances rest s r after) where
  here-counts : is_whole rest ≡ true → Here stream after r left
  unfolding first_sheet
  here-counts w =
      let a = A.counts w in
      let o : is_over r.reading ≡ false = ap is_over a.1 ∙ O in
      record {
        done = H.done ++ (first_sheet rest ∷ []);
        few = omega (arith, H.few, length-append H.done (first_sheet rest ∷ []));
        all = λ _. omega (arith, H.all O, length-append H.done (first_sheet rest ∷ []));
        early = λ t. absurd (false≢true (sym o ∙ t));
        figures = a.0 H.done (omega (arith, H.few)) H.figures;
        goes = λ _. H.goes O ∙ ap (joined H.done) (split_goes left rest w) ∙ moved H.done (first_sheet rest) _ ∙ rw a.2 refl;
        stops = λ t. absurd (false≢true (sym o ∙ t));
      }

  here-ends : is_whole rest ≡ false → Here stream after r left
  here-ends w =
      let a = A.ends w in
      let o = over-by (ltb 0 (length rest)) in
      record {
        done = H.done;
        few = omega (arith, H.few);
        all = λ t. absurd (false≢true (sym t ∙ ap is_over a.1 ∙ o.0));
        early = λ _. omega (arith, H.all O);
        figures = ap figures_of a.0 ∙ H.figures;
        goes = λ t. absurd (false≢true (sym t ∙ ap is_over a.1 ∙ o.0));
        stops = λ _. H.goes O ∙ ap (joined H.done) (split-ends left rest w ∙ ap ended (sym (ap cut_of a.1 ∙ o.1)));
      }

  here-goes : Here stream after r left
  here-goes = test (is_whole rest) here-counts here-ends

pub here_next : (stream rest after : List ℕ) (s r : Season) (left less : ℕ) → left ≡ suc less → Here stream rest s left → is_over s.reading ≡ false
    → Advances rest s r after → Here stream after r less
here_next stream rest after s r left less e H = here-goes stream rest after s r less (subst (λ (k : ℕ). Here stream rest s k) e H)

-- ---- the end

reading-ended : (s : Stream) → s.cut ≡ false → length s.sheets < most_sheets → reading_of s ≡ Ended
unfolding reading_of
reading-ended s c l = rw (c, reading_of, lt-ltb (length s.sheets) most_sheets l)

reading-going : (s : Stream) → s.cut ≡ false → most_sheets ≤ length s.sheets → reading_of s ≡ Going
unfolding reading_of
reading-going s c l = rw (c, reading_of, le-ltb (length s.sheets) most_sheets l)

module _ (stream rest : List ℕ) (s : Season) (left : ℕ) (H : Here stream rest s left) where
  here-season : split most_sheets stream ≡ joined H.done (ended (cut_of s.reading)) → season_of s ≡ season stream
  unfolding season_of season season_from ended
  here-season e =
      rw (e, H.figures, append-nil H.done) refl

  pub over_season : is_over s.reading ≡ true → season_of s ≡ season stream
  over_season t = here-season (H.stops t)

  not-cut : (g : Reading) → is_over g ≡ false → cut_of g ≡ false
  not-cut Going t = refl
  not-cut Ended t = refl
  not-cut Cut t = absurd (false≢true (sym t))

  last-split : left ≡ 0 → is_over s.reading ≡ false → split most_sheets stream ≡ joined H.done (ended false)
  unfolding split
  last-split z t = H.goes t ∙ rw z refl

  pub last_season : left ≡ 0 → season_of s ≡ season stream
  last_season z =
      test (is_over s.reading) over_season (λ t. here-season (last-split z t ∙ rw (not-cut s.reading t) refl))

  -- how reading stands, by the sheets that are done
  over-reading : (g : Reading) → is_over g ≡ true → length H.done < most_sheets → g ≡ reading_of (joined H.done (ended (cut_of g)))
  unfolding reading_of ended
  over-reading Going t l = absurd (false≢true t)
  over-reading Ended t l = sym (reading-ended _ refl (rw (append-nil H.done) l))
  over-reading Cut t l = refl

  pub over_reading : is_over s.reading ≡ true → s.reading ≡ reading_of (split most_sheets stream)
  over_reading t = over-reading s.reading t (H.early t) ∙ ap reading_of (sym (H.stops t))

  going : (g : Reading) → is_over g ≡ false → most_sheets ≤ length H.done → g ≡ reading_of (joined H.done (ended false))
  unfolding reading_of ended
  going Going t l = sym (reading-going _ refl (rw (append-nil H.done) l))
  going Ended t l = absurd (false≢true (sym t))
  going Cut t l = absurd (false≢true (sym t))

  pub last_reading : left ≡ 0 → s.reading ≡ reading_of (split most_sheets stream)
  last_reading z =
      test (is_over s.reading) over_reading
      (λ t. going s.reading t (omega (arith, H.all t)) ∙ ap reading_of (sym (last-split z t)))

-- what is read is the season of the stream, and so its counts tell
pub season_tells : (stream : List ℕ) (s : Season) → season_of s ≡ season stream → CountsTell (split most_sheets stream).sheets s.figures
unfolding season_of season season_from
season_tells stream s e = counts-tell (split most_sheets stream).sheets s.figures (ap (λ (x : Season'). x.figures) e)
