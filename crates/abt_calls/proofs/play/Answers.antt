-- Each call is made on the state that the one before left.
-- What the calls still to come lead to from here is what all lead to from the beginning; at the end none is to come, and of the definitions' list of steps
-- all is proved that is promised.
use Rattle.std.proofs.Common.{◌≡◌, List, [], map}
use Rattle.theorems_dispatch.specs.Steps.{Step, left_by_steps}
use Rattle.abt_dispatch.specs.Abstract.{dispatcher_of}
use Rattle.model_dispatch.proofs.Theorems.{served-in-time}
use Rattle.abt_calls.specs.Abstract.{step_of}
use Rattle.abt_calls.proofs.Playing.{Here, here-first, here-at, here-last, all-left, all-came}
use Rattle.abt_calls.proofs.Keeping.{by-the-calls, reaches-further, promised-further, promised-from-start, acts-alike-further, named-acts-alike-further}
use Rattle.abt_calls.proofs.play.Goals as goal

pub loop-next-init : goal.loop-next-init
loop-next-init c = here-first c.args.calls.now c.args.dispatcher

pub loop-next-preserved : goal.loop-next-preserved
loop-next-preserved c = here-at _ _ _ _ _ _ c.loop-next-test.true c.loop-next.invariant c.call-called.ensures

pub returns : goal.returns
unfolding dispatcher_of
returns c =
    let calls = c.args.calls.now in
    let given = c.args.dispatcher in
    let played = c.loop-next.played in
    let steps : List Step = map step_of calls in
    let H : Here calls given [] played = here-last calls given _ played c.loop-next-test.false c.loop-next.invariant in
    let left : dispatcher_of played.dispatcher ≡ left_by_steps steps (dispatcher_of given) = all-left calls given played H in
    record {
      left = left;
      network = by-the-calls (dispatcher_of given) (dispatcher_of played.dispatcher) steps left;
      came = all-came calls given played H;
      untouched = λ r. (H.untouched r).0;
      reached = reaches-further (dispatcher_of given) (dispatcher_of played.dispatcher) steps left;
      promised = promised-further (dispatcher_of given) (dispatcher_of played.dispatcher) steps left;
      from_start = promised-from-start (dispatcher_of given) (dispatcher_of played.dispatcher) steps left;
      alike = acts-alike-further (dispatcher_of given) (dispatcher_of played.dispatcher) steps left;
      named_alike = named-acts-alike-further (dispatcher_of given) (dispatcher_of played.dispatcher) steps left;
      in_time = λ l wishes _ numbers many stays. served-in-time (dispatcher_of given) l wishes numbers many stays;
    }
