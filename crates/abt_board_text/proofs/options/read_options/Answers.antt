-- Word by word; the words left come to what all of them come to.
use Rattle.std.proofs.Common.{◌≡◌, ℕ, List, refl, sym, ap, ◌∙◌, map, vec_items}
use Rattle.abt_board_text.specs.declared.options.Options.{Options}
use Rattle.abt_board_text.specs.Options.{CommandLine, line_from}
use Rattle.abt_board_text.proofs.CommandLines.{line-next, line-stops, line-over, shorter}
use Rattle.abt_board_text.proofs.options.read_options.Goals as goal

pub loop-word-preserved : goal.loop-word-preserved
loop-word-preserved c =
    line-next _ _ _ _ _ c.in-Some.ensures c.option-o.ensures (sym c.goes_on.ensures ∙ c.if-not-goes_on.false) ∙ c.loop-word.invariant

pub loop-word-smaller : goal.loop-word-smaller
loop-word-smaller c = shorter _ _ _ c.in-Some.ensures

pub returns-then-not-goes_on : goal.returns-then-not-goes_on
returns-then-not-goes_on c =
    let e = line-stops _ _ _ _ _ c.in-Some.ensures c.option-o.ensures (sym c.goes_on.ensures ∙ c.if-not-goes_on.true) ∙ c.loop-word.invariant in
    record {
      options = ap (λ (l : CommandLine). l.options) e;
      word = ap (λ (l : CommandLine). l.word) e;
      calls = ap (λ (l : CommandLine). l.calls) e;
    }

pub returns : goal.returns
returns c =
    let none = c.in_default.ensures in
    let e = line-over c.loop-word.o _ none ∙ c.loop-word.invariant in
    record {
      options = ap (λ (l : CommandLine). l.options) e;
      word = ap (λ (l : CommandLine). l.word) e;
      calls = none ∙ ap (λ (l : CommandLine). l.calls) e;
    }
