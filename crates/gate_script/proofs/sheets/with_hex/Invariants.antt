-- The bytes that a line gives. Invariant: what is there so far, with what the letters left give, comes to the same.
use Rattle.std.proofs.Common.{◌≡◌, drop}
use Rattle.gate_script.specs.Sheets.{with_bytes, hex_after}
use Rattle.gate_script.proofs.sheets.with_hex.Given as goal

abbrev pub invariant-loop-b : goal.invariant-loop-b
invariant-loop-b l = with_bytes (hex_after 32 l.line) l.initial.o ≡ with_bytes (hex_after l.before (drop l.b-index l.line)) l.o
