-- `first_of` is the lowest-numbered agent that bans a value, of those that a word names.
-- A walk along the agents that the word names. The invariant: the rest of the word names those that are left.
use Rattle.std.proofs.Common.{sub-one, eq-eqb, ne_eqb}
use Rattle.model_base.specs.Bits.{bit}
use Rattle.abt_choosing.proofs.Blaming.{sought-found, sought-passed, sought-none}
use Rattle.abt_choosing.proofs.Conflicts.first_of.Goals as goal

pub returns-then-byte-w-eq1 : goal.returns-then-byte-w-eq1
unfolding bit
returns-then-byte-w-eq1 c =
    sought-found _ _ _ _ c.loop-k.invariant c.in-Some.k c.in-Some.ensures.steps.0.0
    (rw (← c.byte.ensures, ← sub-one c.args.w) (eq-eqb _ _ c.if-byte-w-eq1.true))

pub loop-k-preserved : goal.loop-k-preserved
unfolding bit
loop-k-preserved c =
    sought-passed _ _ _ _ c.loop-k.invariant c.in-Some.k c.next.new.self.0
    (rw (← c.byte.ensures, ← sub-one c.args.w) (ne_eqb _ _ c.if-byte-w-eq1.false)) c.in-Some.ensures.steps.2

pub returns : goal.returns
returns c = sought-none _ _ _ _ c.loop-k.invariant c.in-None.ensures.steps
