use Rattle.std.proofs.Common.{◌≡◌, ◌≤◌, suc, length, take, arith}
use Rattle.model_text.specs.Reading.{longest_text}
use Rattle.support_cli.proofs.Behaving.{behaves_filled}
use Rattle.sheet_cli_scribe.proofs.Reading.{hands-read, sheet-cut, longest-text}
use Rattle.sheet_cli_scribe.proofs.write_sheet.Goals as goal

pub returns : goal.returns
returns g c =
    let room : length c.args.given.now ≡ suc longest_text = omega (arith, longest-text) in
    let fits : 33816 ≤ length c.args.sheet.now = omega arith in
    let given = take c.read_full-count.result c.read_full-count.new.buffer in
    let handed = rw (c.read_sheet-read.ensures, hands-read given c.args.sheet.now fits) at c.answer_sheet.ensures in
    behaves_filled _ _ _ _ _ room c.read_full-count.ensures sheet-cut handed
