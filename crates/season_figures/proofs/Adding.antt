-- What a sheet comes to is counted as the definitions say, each number capped.
-- What the settling of a sheet answers is its outcome; the figures of a list of fewer than 1,000,000 sheets are below the cap.
use Rattle.std.proofs.Common.{ℕ, suc, ◌+◌, ◌-◌, ◌^◌, ◌≤◌, min, ◌≡◌, refl, sym, ap, subst, ◌∙◌, ◌≢◌, List, [], ◌∷◌, ◌++◌, Option, Ok, Err, arith, length-append, ne_eqb}
use Rattle.support_rejection.specs.Rejections.{rejection_number}
use Rattle.support_rejection.specs.declared.Rejection.{Rejection}
use Rattle.support_rejection.proofs.Numbers.{refusal-some}
use Rattle.model_agent.specs.Traffic.{top, raised}
use Rattle.model_network.specs.Network.{start_sheet}
use Rattle.model_network.specs.Run.{Ending as Ending', Ran}
use Rattle.abt_engine.specs.Answers.{ending_of}
use Rattle.abt_engine.specs.declared.Answer.{Answer}
use Rattle.abt_dock_text.specs.Settling.{program_rule, settled, Settles}
use Rattle.model_season.specs.Season.{season_rule, season_rounds, Outcome, Refused, Ended, outcome_by, outcome, Rounds as Rounds', Figures as Figures', place, one_more, counting, with_outcome}
use Rattle.model_season.specs.Capped.{capped_rounds, capped_kinds, capped}
use Rattle.model_season.specs.Stream.{most_sheets}
use Rattle.model_season.specs.Claims.{Known}
use Rattle.model_season.proofs.Theorems.{each-known, one-more-sheet, never-capped}
use Rattle.model_season.proofs.Capped.{rounds_again}
use Rattle.season_figures.specs.declared.figures.Rounds.{Rounds}
use Rattle.season_figures.specs.declared.figures.Figures.{Figures}
use Rattle.season_figures.specs.Abstract.{kinds, rounds_of, figures_of, with_word, AddsSheet, CountsSheet}
use Rattle.season_figures.proofs.Counting.{raised-sum, Small, kept_kinds}

-- ---- one more

module _ (f : Figures) (s : ℕ) (one : s ≡ min (f.sheets + 1) (2 ^ 64 - 1)) (kept : capped_rounds (rounds_of f.rounds) ≡ rounds_of f.rounds) where
  sheets-more : s ≡ raised 0 (suc f.sheets)
  sheets-more = raised-sum s (suc f.sheets) (omega arith)

  pub refused_more : (new : List ℕ) (k : ℕ) → Small f.words → kinds new ≡ capped_kinds (one_more (kinds f.refused) k)
      → figures_of (record { sheets = s; refused = new; words = f.words; rounds = f.rounds }) ≡ capped (with_outcome (Refused k) (figures_of f))
  unfolding figures_of with_outcome capped
  refused_more new k w e = rw (sheets-more, e, kept_kinds f.words w, kept) refl

pub word_more : (f : Figures) (s : ℕ) (new : List ℕ) (k : ℕ) (r : Option Rounds) → s ≡ min (f.sheets + 1) (2 ^ 64 - 1) → Small f.refused
    → capped_rounds (rounds_of r) ≡ rounds_of r → kinds new ≡ capped_kinds (one_more (kinds f.words) k)
    → figures_of (record { sheets = s; refused = f.refused; words = new; rounds = r }) ≡ capped (with_word (figures_of f) k (rounds_of r))
unfolding figures_of with_word capped
word_more f s new k r one h kept e = rw (raised-sum s (suc f.sheets) (omega arith), e, kept_kinds f.refused h, kept) refl

-- a word and the rounds that it leaves are what the definition makes of an ending
pub ended_more : (f g : Figures') (e : Ending') (n : ℕ) (r : Option Rounds') → g ≡ capped (with_word f (place e) r)
    → r ≡ capped_rounds (counting e n f.rounds) → g ≡ capped (with_outcome (Ended e n) f)
unfolding with_word with_outcome capped
ended_more f g e n r w c = w ∙ rw (c, rounds_again) refl

-- ---- a sheet

by-refused : (k : ℕ) (r : Ran) → k ≢ 0 → outcome_by k r ≡ Refused k
unfolding outcome_by
by-refused k r n = rw (ne_eqb k 0 n, outcome_by)

module _ (sheet : List ℕ) (ran : Answer) (S : Settles 100000 sheet (Ok ran)) where
  pub settles_ended : outcome sheet ≡ Ended (ending_of ran.ending) ran.rounds
  unfolding outcome outcome_by settled program_rule season_rule season_rounds
  settles_ended = rw (← S.number, outcome_by, ← S.ran.ending, ← S.ran.made)

  pub ended_known : (1 ≤ place (ending_of ran.ending)) × (ran.rounds ≤ 100000)
  unfolding season_rounds
  ended_known = let k = subst Known settles_ended (each-known sheet) in (k.0, k.2)

module _ (sheet : List ℕ) (e : Rejection) (S : Settles 100000 sheet (Err e)) where
  pub settles_refused : outcome sheet ≡ Refused (rejection_number e)
  unfolding outcome program_rule season_rule
  settles_refused =
      by-refused (start_sheet season_rule sheet).number _ (λ z. refusal-some e (S.number ∙ z)) ∙ ap Refused (sym S.number)

  pub refused_known : (1 ≤ rejection_number e) × (rejection_number e ≤ 4)
  refused_known = subst Known settles_refused (each-known sheet)

-- ---- the sheet counted

pub counts_outcome : (f r : Figures) (sheet : List ℕ) (o : Outcome) → outcome sheet ≡ o → figures_of r ≡ capped (with_outcome o (figures_of f)) → CountsSheet f sheet r
counts_outcome f r sheet o e c = rw e c

-- what is counted so is counted as before, where there are not many sheets
pub counts-adds : (f r : Figures) (sheet : List ℕ) → CountsSheet f sheet r → AddsSheet f sheet r
unfolding season_rounds most_sheets top
counts-adds f r sheet C sheets h m =
    C ∙ rw m (ap capped (sym (one-more-sheet sheets sheet)))
    ∙ never-capped (sheets ++ (sheet ∷ [])) (omega (arith, length-append sheets (sheet ∷ [])))
