-- Four lines one behind the other. Assumes nothing.
use Rattle.support_buffer.proofs.Puts.{adds_then}
use Rattle.season_figures.specs.Abstract.{rounds_from}
use Rattle.season_text.specs.Text.{fewest, most, sum, rounds_lines}
use Rattle.season_text.proofs.append_some.Goals as goal

pub returns : goal.returns
unfolding rounds_from fewest most sum rounds_lines
returns c =
    adds_then c.append_line.ensures.text (adds_then c.append_line-2.ensures.text (adds_then c.append_line-3.ensures.text c.append_mean.ensures))
