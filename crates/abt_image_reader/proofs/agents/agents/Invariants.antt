-- `agents` reads agents 1 to n: the first i are read.
use Rattle.std.proofs.Common.{◌≡◌, length}
use Rattle.abt_image_reader.proofs.Filled.{Read}
use Rattle.abt_image_reader.proofs.agents.agents.Given as goal

abbrev pub invariant-loop-i : goal.invariant-loop-i
invariant-loop-i l = record { long : length l.agents ≡ 12; read : Read l.s l.i l.agents }
