-- Word by word: those passed are as many as the turns. Assumes nothing.
use Rattle.std.proofs.Common.{length, ◌≡◌, ◌+◌}
use Rattle.sheet_text_statements.specs.Parts.{words_in}
use Rattle.sheet_text_statements.proofs.parts.has_word.Given as goal

abbrev pub invariant-loop : goal.invariant-loop
invariant-loop l = length (words_in l.s) ≡ l.counter + length (words_in l.rest)
