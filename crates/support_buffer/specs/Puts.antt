-- What a putting function does to the buffer that it is lent.
use Rattle.std.specs.Prelude.{ℕ, ◌+◌, ◌≤◌, ◌≡◌, List, length}
use Rattle.support_buffer.specs.Abstract.{over}
use Rattle.support_buffer.specs.declared.cursor.Cursor.{Cursor}

-- the buffer has room for so many bytes more
abbrev pub Room : Cursor → ℕ → Type 0
Room c count = c.at + count ≤ length c.buffer.now

-- so many bytes, put behind the others in the same buffer; what stands behind them stays
pub record Puts (old : Cursor) (count : ℕ) (bytes : List ℕ) (new : Cursor) : Type 0 where
  pub same : new.buffer.ghost_name ≡ old.buffer.ghost_name
  pub room : Room old count
  pub kept : length new.buffer.now ≡ length old.buffer.now
  pub long : length bytes ≡ count
  pub put : new.buffer.now ≡ over old.at bytes old.buffer.now
  pub behind : new.at ≡ old.at + count

-- these bytes, all of them, put behind the others
abbrev pub Adds : Cursor → List ℕ → Cursor → Type 0
Adds old bytes new = Puts old (length bytes) bytes new
