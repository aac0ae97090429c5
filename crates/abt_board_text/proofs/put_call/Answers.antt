-- One call, by what playing it leaves and what it came to.
use Rattle.std.proofs.Common.{◌≡◌, ℕ, List, ◌++◌, ap, ◌∙◌, append_assoc, refl, Option, Some, None, option_map}
use Rattle.abt_record.specs.Abstract.{network_of}
use Rattle.abt_calls.specs.Abstract.{came_of}
use Rattle.abt_calls.specs.declared.calls.Call.{Call}
use Rattle.abt_board_text.specs.Reading.{call_in}
use Rattle.abt_board_text.specs.Putting.{last_text}
use Rattle.model_dispatch.specs.Dispatch.{Dispatcher as Dispatcher'}
use Rattle.abt_dispatch.specs.Abstract.{dispatcher_of}
use Rattle.theorems_dispatch.specs.Steps.{left_by_steps}
use Rattle.abt_board_text.specs.Calling.{after_word}
use Rattle.abt_board_text.specs.Text.{word_text}
use Rattle.abt_board_text.proofs.Capped.{runs-all}
use Rattle.abt_board_text.proofs.Texts.{call-is, played-is}
use Rattle.abt_board_text.proofs.put_call.Goals as goal

after-is : (word : List ℕ) (k : Option Call) (d : Dispatcher') → k ≡ call_in word → after_word k d ≡ after_word (call_in word) d
after-is word k d e = ap (λ (k : Option Call). after_word k d) e

pub returns-in_ok-put_not_understood-in-None-clause-text : goal.returns-in_ok-put_not_understood-in-None-clause-text
unfolding word_text
returns-in_ok-put_not_understood-in-None-clause-text c =
    c.in_ok-put_not_understood-in-None.ensures
    ∙ ap (λ (t : List ℕ). c.args.out.now.items ++ t) (call-is c.args.word.now None (dispatcher_of c.args.d) c.in-None.ensures)

pub returns-in_ok-put_not_understood-in-None-clause-after : goal.returns-in_ok-put_not_understood-in-None-clause-after
unfolding after_word
returns-in_ok-put_not_understood-in-None-clause-after c = after-is _ None (dispatcher_of c.args.d) c.in-None.ensures

pub returns-in_ok-put_not_understood-in-None-clause-rounds : goal.returns-in_ok-put_not_understood-in-None-clause-rounds
unfolding after_word
returns-in_ok-put_not_understood-in-None-clause-rounds c = runs-all _ None _ _ c.in-None.ensures refl

pub returns-in_ok-put_last-in-Some-clause-text : goal.returns-in_ok-put_last-in-Some-clause-text
unfolding dispatcher_of
returns-in_ok-put_last-in-Some-clause-text c =
    let d = dispatcher_of c.args.d in
    let out = c.args.out.now.items in
    let p = c.play-played in
    c.in_ok-put_last-in-Some.ensures
    ∙ ap (λ (t : List ℕ). t ++ last_text (option_map came_of p.result.last) (network_of p.result.dispatcher.network)) c.in_ok-put_called-in-Some.ensures
    ∙ append_assoc out _ _
    ∙ ap (λ (t : List ℕ). out ++ t)
    (played-is c.args.word.now c.in-Some.call d _ _ p.ensures.came (ap (λ (x : Dispatcher'). x.network) p.ensures.left)
    ∙ call-is c.args.word.now (Some c.in-Some.call) d c.in-Some.ensures)

pub returns-in_ok-put_last-in-Some-clause-after : goal.returns-in_ok-put_last-in-Some-clause-after
unfolding after_word left_by_steps
returns-in_ok-put_last-in-Some-clause-after c = c.play-played.ensures.left ∙ after-is _ (Some c.in-Some.call) (dispatcher_of c.args.d) c.in-Some.ensures

pub returns-in_ok-put_last-in-Some-clause-rounds : goal.returns-in_ok-put_last-in-Some-clause-rounds
unfolding after_word left_by_steps
returns-in_ok-put_last-in-Some-clause-rounds c = runs-all _ (Some c.in-Some.call) _ _ c.in-Some.ensures c.play-played.ensures.left
