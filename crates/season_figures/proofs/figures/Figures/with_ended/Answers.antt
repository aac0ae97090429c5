-- Each word has its place, and two of them have rounds. Assumes nothing.
use Rattle.std.proofs.Common.{rules, Fits, w64, Option, ℕ, ◌≤◌, ◌≡◌, refl, sym, ap, ◌∙◌, ◌⊎◌, inl, inr, arith}
use Rattle.abt_engine.specs.declared.Ending.{Ending}
use Rattle.abt_engine.specs.Answers.{ending_of}
use Rattle.model_season.specs.Season.{Rounds, place, has_rounds, with_rounds, counting}
use Rattle.model_season.specs.Capped.{capped_rounds}
use Rattle.season_figures.specs.Abstract.{figures_of}
use Rattle.season_figures.proofs.Counting.{SmallRounds, kept_rounds}
use Rattle.season_figures.proofs.Adding.{ended_more}
use Rattle.season_figures.proofs.figures.Figures.with_ended.Goals as goal

module _ (e : Ending) (n : ℕ) (r : Option Rounds) where
  counted : (e ≡ Ending.Unsolvable) ⊎ (e ≡ Ending.Plan) → with_rounds n r ≡ counting (ending_of e) n r
  unfolding ending_of has_rounds counting
  counted (inl q) = rw q refl
  counted (inr q) = rw q refl

  left : (e ≡ Ending.Jammed) ⊎ (e ≡ Ending.Open) → r ≡ counting (ending_of e) n r
  unfolding ending_of has_rounds counting
  left (inl q) = rw q refl
  left (inr q) = rw q refl

pub returns-in-Unsolvable : goal.returns-in-Unsolvable
unfolding figures_of
returns-in-Unsolvable c =
    ended_more _ _ (ending_of c.args.e) _ _ c.with_word.ensures (c.with_rounds.ensures ∙ ap capped_rounds (counted c.args.e c.args.n _ c.in-Unsolvable.is))

pub returns-in-Jammed : goal.returns-in-Jammed
unfolding figures_of
returns-in-Jammed c =
    let small : SmallRounds c.args.self.rounds = λ r e. let w = rw e at c.well_formed in let n : Fits w64 r.count = search rules in let m : Fits w64 r.sum = search rules in (n.fits, m.fits) in
    ended_more _ _ (ending_of c.args.e) c.args.n _ c.with_word-in-Jammed.ensures
    (sym (kept_rounds c.args.self.rounds small) ∙ ap capped_rounds (left c.args.e c.args.n _ c.in-Jammed.is))

pub returns-in-Broken : goal.returns-in-Broken
unfolding ending_of place
returns-in-Broken c = let z : 1 ≤ 0 = rw c.in-Broken.is at c.requires in absurd (omega arith)
