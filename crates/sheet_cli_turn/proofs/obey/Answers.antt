use Rattle.std.proofs.Common.{◌≡◌, ◌≤◌, suc, length, take, arith}
use Rattle.model_sheet.specs.Sheet.{longest_sheet}
use Rattle.model_sheet.proofs.Longest.{longest-is}
use Rattle.support_cli.proofs.Behaving.{behaves_filled}
use Rattle.sheet_cli_turn.proofs.Turning.{hands-turned, turned-cut}
use Rattle.sheet_cli_turn.proofs.obey.Goals as goal

pub returns : goal.returns
returns g c =
    let room : length c.args.given.now ≡ suc longest_sheet = omega (arith, longest-is) in
    let given = take c.read_full-count.result c.read_full-count.new.buffer in
    let fits : 33816 ≤ length c.args.sheet.now = omega arith in
    let handed = rw (c.turn_sheet-length.ensures.out_after, hands-turned c.args.command given c.args.sheet.now fits) at c.hand_over.ensures in
    behaves_filled _ _ _ _ _ room c.read_full-count.ensures (turned-cut c.args.command) handed
