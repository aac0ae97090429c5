-- A run with more rounds than 64 bits can say is the run with the largest number that they can: both are taken as 1,000,000.
use Rattle.std.proofs.Common.{◌≡◌, refl, sym, ap, ◌∙◌, true, List, [], ◌∷◌, ℕ, ◌-◌, ◌^◌, ◌≤◌, arith, ltb, leb, leb-true, ltb-true, ltb-false, Option, Some, option_map}
use Rattle.model_base.proofs.Tests.{test}
use Rattle.model_network.specs.Network.{Network}
use Rattle.model_network.specs.Shape.{in_shape}
use Rattle.model_network.specs.Run.{max_rounds, allowed, run_from, Ran, run}
use Rattle.abt_calls.specs.declared.calls.Call.{Call}
use Rattle.abt_calls.specs.declared.calls.Call.TheVariants.{Run}
use Rattle.abt_calls.specs.Abstract.{step_of}
use Rattle.theorems_network.specs.Calls.{left_by}
use Rattle.theorems_dispatch.specs.Steps.{left_by_step}
use Rattle.model_base.specs.Numerals.{capped, is_number, value_from, number_in}
use Rattle.support_buffer.proofs.Numbers.{capped-low, capped-high}
use Rattle.model_dispatch.specs.Dispatch.{Dispatcher, with_network}
use Rattle.abt_board_text.specs.Reading.{call_in}
use Rattle.abt_board_text.specs.Calling.{after_word, RunsAll}

many : (k : ℕ) → 1000000 ≤ k → allowed k ≡ 1000000
unfolding allowed max_rounds
many k h = test (leb k 1000000) (λ t. rw (t, allowed) (omega (arith, leb-true k 1000000 t))) (λ t. rw (t, allowed))

capped-allowed : (n : ℕ) → allowed (capped n) ≡ allowed n
capped-allowed n =
    test (ltb n (2 ^ 64))
    (λ t. ap allowed (capped-low n (ltb-true n (2 ^ 64) t)))
    (λ t.
    let h = ltb-false n (2 ^ 64) t in
    ap allowed (capped-high n (omega arith)) ∙ many (2 ^ 64 - 1) (omega arith) ∙ sym (many n (omega arith)))

pub capped-run : (n : ℕ) (w : Network) → run (capped n) w ≡ run n w
unfolding run
capped-run n w =
    test (in_shape w)
    (λ t. rw (t, run) (ap (λ (k : ℕ). run_from k 0 [] w) (capped-allowed n)))
    (λ t. rw (t, run))

number-is : (digits : List ℕ) → is_number digits ≡ true → number_in digits ≡ Some (capped (value_from 0 digits))
unfolding number_in
number-is digits n = rw (n, number_in) refl

run-is : (digits : List ℕ) → call_in (114 ∷ digits) ≡ option_map Run (number_in digits)
unfolding call_in
run-is digits = refl

-- what the call leaves that a word says
pub runs-all : (word : List ℕ) (k : Option Call) (d e : Dispatcher) → k ≡ call_in word → e ≡ after_word k d → RunsAll word d e
unfolding after_word step_of left_by_step left_by
runs-all word k d e q h digits w n =
    h
    ∙ ap (λ (x : Option Call). after_word x d) (q ∙ ap call_in w ∙ run-is digits ∙ ap (option_map Run) (number-is digits n))
    ∙ ap (λ (x : Ran). with_network d x.network) (capped-run (value_from 0 digits) d.network)
