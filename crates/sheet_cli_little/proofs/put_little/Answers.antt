use Rattle.std.proofs.Common.{◌≤◌, length, arith}
use Rattle.sheet_cli_little.proofs.Short.{hands-little}
use Rattle.sheet_cli_little.proofs.put_little.Goals as goal

pub returns : goal.returns
returns g c =
    let fits : 120 ≤ length c.args.sheet.now = omega arith in
    rw (c.little-length.ensures.out_after, hands-little c.args.ordinal c.args.sheet.now fits) at c.hand_over.ensures
