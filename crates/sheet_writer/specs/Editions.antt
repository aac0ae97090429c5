-- The number of an edition in a sheet's header.
use Rattle.std.specs.Prelude.{ℕ}
use Rattle.sheet_writer.specs.declared.edition.Edition.{Edition}
use Rattle.sheet_writer.specs.declared.edition.Edition.TheVariants.{Bans, Gaps}

abbrev pub number_of : Edition → ℕ
number_of Bans = 1
number_of Gaps = 2
