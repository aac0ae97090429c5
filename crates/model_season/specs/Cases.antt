-- Worked outcomes and figures: the nights P1, P2, P3, and a sheet of no bytes.
use Rattle.std.specs.Prelude.{◌≡◌, []}
use Rattle.model_network.specs.Run.{Unsolvable, Plan}
use Rattle.model_network.specs.Nights.{sheet1, sheet2, sheet3}
use Rattle.model_season.specs.Season.{Refused, Ended, outcome}

abbrev pub NightsEnd : Type 0
NightsEnd = (outcome sheet1 ≡ Ended Plan 0) × (outcome sheet2 ≡ Ended Unsolvable 2) × (outcome sheet3 ≡ Ended Plan 1) × (outcome [] ≡ Refused 1)
