use Rattle.std.proofs.Common.{refl}
use Rattle.support_buffer.proofs.Puts.{adds_then}
use Rattle.support_buffer.proofs.Appending.{from-start}
use Rattle.season_cli.specs.Answers.{progress_line}
use Rattle.season_cli.proofs.line_of_progress.Goals as goal

pub returns-clause-text : goal.returns-clause-text
unfolding progress_line
returns-clause-text c = let line = from-start refl (adds_then c.append_number.ensures.text c.put_all.ensures) in line.text
