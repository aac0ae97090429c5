use Rattle.std.proofs.Common.{◌≤◌, All, vec_len}
use Rattle.support_cli.proofs.words.words_by.Given as goal

abbrev pub invariant-loop-i : goal.invariant-loop-i
invariant-loop-i g l = All (λ word. vec_len word ≤ 131072) l.words.items
