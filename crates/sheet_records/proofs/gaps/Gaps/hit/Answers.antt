-- `Gaps::hit` is the diagonal of a gap that lies from least to greatest, else nothing.
-- The gap of all its pairs is the one that is tested.
use Rattle.std.proofs.Common.{arith, ◌≡◌, true, false, pos, ◌-ℤ◌}
use Rattle.std.proofs.lemmas.Grind.{common_steps}
use Rattle.model_sheet.specs.Row.{between}
use Rattle.sheet_records.proofs.Bands.{kept, dropped}
use Rattle.sheet_records.proofs.gaps.Gaps.hit.Goals as goal

pub returns-then-contains : goal.returns-then-contains
unfolding between
returns-then-contains c =
    let t : between c.args.self.least c.args.self.greatest (pos c.args.k -ℤ pos 7) ≡ true = grind (arith, common_steps) in
    kept (between c.args.self.least c.args.self.greatest) c.args.k _ c.diagonal.ensures t

pub returns-else-contains : goal.returns-else-contains
unfolding between
returns-else-contains c =
    let t : between c.args.self.least c.args.self.greatest (pos c.args.k -ℤ pos 7) ≡ false = grind (arith, common_steps) in
    dropped (between c.args.self.least c.args.self.greatest) c.args.k t
