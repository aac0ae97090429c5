-- Word by word, up to one that is no call.
use Rattle.abt_cli_image.proofs.Calling.{calls-begin, calls-go, calls-stop, calls-over}
use Rattle.abt_cli_image.proofs.read_calls.Goals as goal

pub loop-word-init : goal.loop-word-init
loop-word-init c = calls-begin _ _ c.new-calls.ensures.items

pub loop-word-preserved : goal.loop-word-preserved
loop-word-preserved c =
    calls-go _ _ _ c.loop-word.invariant _ _ c.in-Some-read_call.call _ c.in-Some.ensures c.in-Some-read_call.ensures c.in_ok-push.ensures.items

pub returns-in_default-read_call : goal.returns-in_default-read_call
returns-in_default-read_call c = calls-stop _ _ _ c.loop-word.invariant _ _ c.in-Some.ensures c.in_default-read_call.ensures

pub returns : goal.returns
returns c = calls-over _ _ _ c.loop-word.invariant c.in_default.ensures
