-- `without` takes one agent out of a set.
-- One bit less.
use Rattle.std.proofs.Common.{◌*◌, ◌-◌, ◌%◌, ◌^◌}
use Rattle.abt_packed.proofs.Sets.{Without, member-without}
use Rattle.abt_packed.proofs.without.Goals as goal

pub overflow_sub-result-2 : goal.overflow_sub-result-2
overflow_sub-result-2 c =
    let removed : Without c.args.set c.args.k (1 * 2 ^ (c.args.k - 1) % 2 ^ 16) =
    member-without _ _ c.requires.0 c.requires.1 c.requires.2 in
    removed.out

pub returns : goal.returns
returns c =
    let removed : Without c.args.set c.args.k (1 * 2 ^ (c.args.k - 1) % 2 ^ 16) =
    member-without _ _ c.requires.0 c.requires.1 c.requires.2 in
    (removed.is, removed.less)
