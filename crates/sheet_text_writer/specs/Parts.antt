-- What the code's parts say, and what a writer answers for what a sheet's text comes to.
use Rattle.std.specs.Prelude.{ℕ, ◌+◌, ◌≡◌, List, length}
use Rattle.model_base.specs.Lent.{Written, untouched, put}
use Rattle.model_sheet.specs.Problem.{Problem}
use Rattle.model_sheet.specs.Sheet.{Valid, decode}
use Rattle.support_buffer.specs.declared.cursor.Cursor.{Cursor}
use Rattle.support_buffer.specs.Puts.{Room}
use Rattle.model_text.specs.Telling.{Told, Text, Refused}

-- there is room for this text, and behind it for twenty more, the most digits that any number has
pub record RoomFor (c : Cursor) (text : List ℕ) : Type 0 where
  pub fits : Room c (length text + 20)

-- a sheet that is not refused
pub record Readable (s : List ℕ) : Type 0 where
  pub problem : Problem
  pub valid : decode s ≡ Valid problem

-- the text, where there is room for it; "A sheet that is refused has no text."
unfoldable pub put_told : Told → List ℕ → Written
put_told (Text text) buffer = put text buffer
put_told (Refused number) buffer = untouched number buffer
