-- Each call is made on the state that the one before left.
-- What the calls still to come lead to from here is what all lead to from the beginning.
use Rattle.std.proofs.Common.{drop}
use Rattle.abt_calls.proofs.Playing.{Here}
use Rattle.abt_calls.proofs.play.Given as goal

abbrev pub invariant-loop-next : goal.invariant-loop-next
invariant-loop-next l = Here l.calls l.fn.dispatcher (drop l.next-index l.calls) l.played
