-- Files by their names, and what reading one gives.
use Rattle.std.specs.Prelude.{ℕ, ◌≤◌, ◌-◌, ◌≡◌, Option, None, Some, unwrap_or, List, length, take, drop, replicate}

-- what a name holds, where that is known: nothing that can be read, or these bytes
pub data Held : Type 0 where
  Unknown : Held
  Unreadable : Held
  Bytes : List ℕ → Held

-- the file's bytes, as many as the buffer takes
abbrev pub Gives : Held → Option ℕ → List ℕ → Type 0
Gives Unknown read buffer = Unit {0}
Gives Unreadable read buffer = read ≡ None
Gives (Bytes bytes) read buffer =
    (read ≡ Some (length (take (length buffer) bytes)))
    × (take (length (take (length buffer) bytes)) buffer ≡ take (length buffer) bytes)

-- n bytes stand at the start of the buffer; behind them it is zero
pub record IsFilled (n : ℕ) (buffer : List ℕ) : Type 0 where
  pub inside : n ≤ length buffer
  pub blank : drop n buffer ≡ replicate (length buffer - n) 0

-- how many bytes were read, none where the file cannot be read
pub record ReadsFile (held : Held) (read : Option ℕ) (buffer : List ℕ) : Type 0 where
  pub filled : IsFilled (unwrap_or read 0) buffer
  pub gives : Gives held read buffer

-- the bytes that are read of a name, none where it cannot be read: those that it holds, where that is known
abbrev pub IsRead : Held → Option (List ℕ) → Type 0
IsRead Unknown file = Unit {0}
IsRead Unreadable file = file ≡ None
IsRead (Bytes bytes) file = file ≡ Some bytes
