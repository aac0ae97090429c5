-- Four numbers one behind the other. Assumes nothing.
use Rattle.std.proofs.Common.{arith, length-append}
use Rattle.support_buffer.proofs.Puts.{adds_then}
use Rattle.season_figures.specs.Abstract.{kinds}
use Rattle.season_text.specs.Text.{blank, four_line}
use Rattle.season_text.proofs.append_four.Goals as goal

pub returns : goal.returns
unfolding kinds blank four_line
returns c =
    record {
      text = adds_then c.append_figure.ensures.text (adds_then c.append_figure-2.ensures.text (adds_then c.append_figure-3.ensures.text c.append_line.ensures.text));
      short = simp length-append (omega (arith, c.append_figure.ensures.short, c.append_figure-2.ensures.short, c.append_figure-3.ensures.short, c.append_line.ensures.short));
    }
