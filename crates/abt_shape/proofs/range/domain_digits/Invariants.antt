-- `domain_digits` has the domains as digits.
-- From agent 12 down, a digit each: those that are left are the first ones.
use Rattle.std.proofs.Common.{◌≡◌, length, take}
use Rattle.abt_shape.proofs.Ranges.{Digits}
use Rattle.abt_shape.proofs.range.domain_digits.Given as goal

abbrev pub invariant-loop-d : goal.invariant-loop-d
invariant-loop-d l =
    Digits l.domains (length l.d-iterator.iter.rest.now) l.word
    × (take (length l.d-iterator.iter.rest.now) l.domains ≡ l.d-iterator.iter.rest.now)
