-- `one_pair` is the set of one pair of values.
-- A power of two has one bit, the pair's.
use Rattle.std.proofs.Common.{◌≡◌, ◌+◌, ◌-◌, ◌*◌, ◌^◌, mod-eq_of_lt, arith}
use Rattle.model_sheet.specs.Problem.{bit_at}
use Rattle.sheet_records.proofs.Pairs.{single}
use Rattle.sheet_records.proofs.bans.one_pair.Goals as goal

pub returns : goal.returns
unfolding bit_at
returns c =
    let v = c.args.v in
    let w = c.args.w in
    let same : 8 * (v - 1) + (w - 1) ≡ bit_at v w = omega arith in
    let whole : 1 * 2 ^ bit_at v w ≡ 2 ^ bit_at v w = omega arith in
    let set = single v w c.requires.0 c.requires.1 c.requires.2 c.requires.3 in
    rw (same, whole, mod-eq_of_lt set.short) set
