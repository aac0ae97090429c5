use Rattle.std.proofs.Common.{◌≡◌, suc, length, take, arith}
use Rattle.model_sheet.specs.Sheet.{longest_sheet}
use Rattle.model_sheet.proofs.Longest.{longest-is}
use Rattle.support_cli.proofs.Behaving.{behaves_filled}
use Rattle.abt_cli_dock.specs.Answers.{dock_answer}
use Rattle.abt_cli_dock.proofs.Settled.{status-told, answer-cut}
use Rattle.abt_cli_dock.proofs.settle_into.Goals as goal

pub returns : goal.returns
unfolding dock_answer
returns g c =
    let room : length c.args.sheet.now ≡ suc longest_sheet = omega (arith, longest-is) in
    let prints = c.program_text-length.ensures.prints in
    let handed = rw (c.status_of.ensures, prints.text, status-told (take c.read_full-count.result c.read_full-count.new.buffer)) at c.print.ensures in
    behaves_filled _ _ _ _ _ room c.read_full-count.ensures answer-cut handed
