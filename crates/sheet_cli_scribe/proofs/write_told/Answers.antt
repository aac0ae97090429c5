use Rattle.std.proofs.Common.{◌≡◌, ◌≤◌, suc, length, take, arith}
use Rattle.model_sheet.specs.Sheet.{longest_sheet}
use Rattle.model_sheet.proofs.Longest.{longest-is}
use Rattle.support_cli.proofs.Behaving.{behaves_filled}
use Rattle.sheet_cli_scribe.proofs.Telling.{hands-told, text-cut}
use Rattle.sheet_cli_scribe.proofs.write_told.Goals as goal

pub returns : goal.returns
returns g c =
    let room : length c.args.given.now ≡ suc longest_sheet = omega (arith, longest-is) in
    let fits : 67614 ≤ length c.args.text.now = omega arith in
    let given = take c.read_full-count.result c.read_full-count.new.buffer in
    let handed = rw (c.write_text-length.ensures, hands-told given c.args.text.now fits) at c.hand_over.ensures in
    behaves_filled _ _ _ _ _ room c.read_full-count.ensures text-cut handed
