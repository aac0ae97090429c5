-- The edition of a draft, and the one that it is not.
use Rattle.std.specs.Prelude.{ℕ, Option, Some, None}
use Rattle.sheet_writer.specs.declared.edition.Edition.{Edition}
use Rattle.sheet_writer.specs.declared.edition.Edition.TheVariants.{Bans, Gaps}
use Rattle.sheet_writer.specs.Editions.{number_of}

-- that of the other one
abbrev pub other_edition : Edition → ℕ
other_edition Bans = 2
other_edition Gaps = 1

-- 0 while there is no record
abbrev pub edition_in : Option Edition → ℕ
edition_in None = 0
edition_in (Some e) = number_of e
