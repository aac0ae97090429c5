-- What a program does to its input and to an output, where their bytes are known.
use Rattle.std.specs.Prelude.{ℕ, ◌≤◌, ◌<◌, ◌-◌, ◌≡◌, Bool, true, false, Option, List, [], length, take, drop, replicate}
use Rattle.std.specs.Io.KnownBytes.{Keeps, Appends, Consumes, IsAtEnd}
use Rattle.support_cli.specs.declared.input.Input.{Input}
use Rattle.support_cli.specs.declared.output.Output.{Output}

-- ---- outputs

-- the bytes that an output holds, where they are known, and whether a write to it has failed
pub record OutputState : Type 0 where
  pub known : Option (List ℕ)
  pub failed : Bool

abbrev pub output_of : {W : Type 0} → (W → Option (List ℕ)) → Output W → OutputState
output_of contents o = record { known = contents o.writer; failed = o.failed }

-- All of the bytes stand behind the others, or a write has failed and a beginning of them does. An output that has failed stays as it is.
pub record Puts (bytes : List ℕ) (old new : OutputState) : Type 0 where
  pub some : (n : ℕ) × Appends old.known new.known (take n bytes)
  pub all : new.failed ≡ false → Appends old.known new.known bytes
  pub kept : old.failed ≡ true → (new.failed ≡ true) × Keeps old.known new.known

-- ---- the input

-- the bytes that reads will give from here on, where they are known, and whether a read has failed
pub record InputState : Type 0 where
  pub known : Option (List ℕ)
  pub failed : Bool

abbrev pub input_of : {R : Type 0} → (R → Option (List ℕ)) → Input R → InputState
input_of remaining i = record { known = remaining i.reader; failed = i.failed }

-- These bytes are taken from the input, at most so many; fewer only at its end, or where a read fails. Nothing is taken where a read has failed.
pub record Takes (most : ℕ) (bytes : List ℕ) (old new : InputState) : Type 0 where
  pub taken : Consumes old.known new.known bytes
  pub few : length bytes ≤ most
  pub all : new.failed ≡ false → length bytes < most → IsAtEnd new.known
  pub over : old.failed ≡ true → (new.failed ≡ true) × (bytes ≡ [])

-- the bytes that are taken fill a buffer of this length, up to so many; behind them it is zero
pub record Fills (room : ℕ) (buffer : List ℕ) (count : ℕ) (old new : InputState) : Type 0 where
  pub inside : count ≤ room
  pub takes : Takes room (take count buffer) old new
  pub blank : drop count buffer ≡ replicate (room - count) 0
