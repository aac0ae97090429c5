-- The eight lines one behind the other. Assumes nothing.
use Rattle.std.proofs.Common.{refl, ap, ◌∙◌}
use Rattle.std.specs.Int.{from_bool}
use Rattle.support_buffer.proofs.Puts.{adds_then}
use Rattle.support_buffer.proofs.Appending.{from-start, behind-start}
use Rattle.season_figures.specs.Abstract.{figures_of}
use Rattle.season_figures.specs.Pieces.{season_of}
use Rattle.season_text.specs.Text.{sheets, refused, words, cut, season_text}
use Rattle.season_text.proofs.Lines.{one-if, prints}
use Rattle.season_text.proofs.text.Goals as goal

pub returns-clause-prints : goal.returns-clause-prints
unfolding figures_of season_of sheets refused words cut season_text
returns-clause-prints c =
    let last = adds_then (rw (c.from.ensures ∙ ap from_bool c.is_cut.ensures ∙ one-if _) at c.append_line-2.ensures.text) c.append_rounds.ensures in
    prints _
    (from-start refl (adds_then c.append_line.ensures.text (adds_then c.append_four.ensures.text (adds_then c.append_four-2.ensures.text last))))

pub returns-clause-behind : goal.returns-clause-behind
returns-clause-behind c =
    let last = adds_then c.append_line-2.ensures.text c.append_rounds.ensures in
    behind-start refl (adds_then c.append_line.ensures.text (adds_then c.append_four.ensures.text (adds_then c.append_four-2.ensures.text last)))
