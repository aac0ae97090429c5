-- What a record says, of either edition: the test of its fields and what it bans. Nothing here knows of bytes and places. docs/RULES.md and
-- docs/FORMATS.md, 'The sheet'.
use Rattle.std.specs.Prelude.{ℕ, Bool, false, cond, ◌&&◌, ◌||◌, List, [], ◌∷◌, eqb, ltb, leb, ℤ, pos, neg_ℤ, ◌-ℤ◌}
use Rattle.std.specs.Int.Signed.{le_z}
use Rattle.model_sheet.specs.Problem.{Problem, owns, with_bans}

-- what a record says
pub record Row : Type 0 where
  pub lower : ℕ  -- "lower scanner"
  pub higher : ℕ  -- "higher scanner"
  pub low : ℕ  -- edition 1: "slot of the lower"; edition 2: the least gap, a signed byte
  pub high : ℕ  -- edition 1: "slot of the higher"; edition 2: the greatest gap, a signed byte

-- ---- its fields

-- "1 ≤ lower < higher ≤ n"
unfoldable pub agents_good : Problem → Row → Bool
agents_good p row = ltb 0 row.lower && ltb row.lower row.higher && leb row.higher p.count

-- edition 1: both slots are owned
unfoldable pub values_good : Problem → Row → Bool
values_good p row = owns p row.lower row.low && owns p row.higher row.high

-- a byte as a signed number, two's complement
unfoldable pub signed : ℕ → ℤ
signed b = cond (ltb b 128) (pos b) (pos b -ℤ pos 256)

-- z lies "from least to greatest, both included"
unfoldable pub between : ℤ → ℤ → ℤ → Bool
between least greatest z = le_z least z && le_z z greatest

-- edition 2: "a least and a greatest gap, as signed bytes, each from -7 to 7"; "where a gap lies outside -7 to 7 or the least is above the greatest"
unfoldable pub gaps_good : Row → Bool
gaps_good row =
    between (neg_ℤ (pos 7)) (pos 7) (signed row.low)
    && between (neg_ℤ (pos 7)) (pos 7) (signed row.high)
    && le_z (signed row.low) (signed row.high)

unfoldable pub fields_good : ℕ → Problem → Row → Bool
fields_good edition p row = cond (eqb edition 2) (gaps_good row) (values_good p row)

unfoldable pub row_good : ℕ → Problem → Row → Bool
row_good edition p row = agents_good p row && fields_good edition p row

-- ---- what it bans

-- "the slot of the higher scanner minus the slot of the lower"
unfoldable pub gap : ℕ → ℕ → ℤ
gap v w = pos w -ℤ pos v

-- value v of the row's lower agent and value w of its higher one. Edition 1: its two slots; edition 2: "every pair of owned slots whose gap lies
-- from least to greatest"
unfoldable pub hits : ℕ → Row → ℕ → ℕ → Bool
hits edition row v w =
    cond (eqb edition 2) (between (signed row.low) (signed row.high) (gap v w)) (eqb v row.low && eqb w row.high)

-- the row bans value v of agent i with value w of agent j, both owned
unfoldable pub row_bans : ℕ → Problem → Row → ℕ → ℕ → ℕ → ℕ → Bool
row_bans edition p row i j v w =
    eqb i row.lower && eqb j row.higher && owns p i v && owns p j w && hits edition row v w

-- the problem with what one more row bans. "A record that hits no pair of owned slots bans nothing, makes no link."
unfoldable pub with_row : ℕ → Row → Problem → Problem
with_row edition row p = with_bans p row.lower row.higher (hits edition row)

-- the problem with what these rows ban, one after the other
unfoldable pub with_rows : ℕ → List Row → Problem → Problem
with_rows edition [] p = p
with_rows edition (row ∷ rows) p = with_rows edition rows (with_row edition row p)

-- one of the rows bans value v of agent i with value w of agent j
unfoldable pub rows_ban : ℕ → Problem → List Row → ℕ → ℕ → ℕ → ℕ → Bool
rows_ban edition p [] i j v w = false
rows_ban edition p (row ∷ rows) i j v w = row_bans edition p row i j v w || rows_ban edition p rows i j v w
