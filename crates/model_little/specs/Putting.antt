-- Writing a little sheet into a lent buffer. docs/PROGRAMS.md, 'All the little sheets'.
use Rattle.std.specs.Prelude.{ℕ, true, false, List, ltb}
use Rattle.model_base.specs.Lent.{Written, untouched, put}
use Rattle.model_little.specs.Little.{little_count, little_sheet}

-- "14, an ordinal above 4,995"
unfoldable pub no_ordinal : ℕ
no_ordinal = 14

-- "14 is tested first"
unfoldable pub put_little : ℕ → List ℕ → Written
put_little ordinal buffer =
    elim (ltb ordinal little_count) [ true ↦ put (little_sheet ordinal) buffer | false ↦ untouched no_ordinal buffer ]
