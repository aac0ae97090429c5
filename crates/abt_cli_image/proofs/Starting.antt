-- What is answered of a start, by whether it gives a rail, and of the calls, by whether each word is one.
-- The start's number is 0 where it gives a rail, and no refusal has number 0.
use Rattle.std.proofs.Common.{◌≡◌, ℕ, Bool, true, false, List, [], refl, ap, ◌∙◌, ne_eqb}
use Rattle.support_rejection.specs.declared.Rejection.{Rejection}
use Rattle.support_rejection.specs.Rejections.{rejection_number}
use Rattle.support_rejection.proofs.Numbers.{refusal-some}
use Rattle.model_network.specs.Network.{Started}
use Rattle.model_dispatch.specs.Dispatch.{Dispatcher, dispatcher}
use Rattle.model_image_forms.specs.Forms.{Form}
use Rattle.support_cli.specs.Answers.{not_understood, tells, says_refused}
use Rattle.abt_cli_image.specs.Calls.{Calls, calls_from}
use Rattle.abt_cli_image.specs.Answers.{played, remembered, started}

module _ (form : Form) (words : List (List ℕ)) (s : Started) where
  pub starts-so : (form' : Form) (d : Dispatcher) → 0 ≡ s.number → form' ≡ form → d ≡ dispatcher s.network → (enough : Bool)
      → started form words enough s ≡ remembered enough (played form' d (calls_from words))
  unfolding started
  starts-so form' d z f e enough = rw (started, ← z, f, e) refl

  pub refuses-so : (r : Rejection) → rejection_number r ≡ s.number → (enough : Bool) → started form words enough s ≡ says_refused (rejection_number r)
  unfolding started
  refuses-so r z enough = rw (started, ne_eqb s.number 0 (λ q. refusal-some r (z ∙ q)), z) refl

module _ (form : Form) (d : Dispatcher) (calls : Calls) where
  pub plays-so : (read : Calls) → calls ≡ read → remembered true (played form d calls) ≡ played form d read
  unfolding remembered
  plays-so read e = ap (played form d) e

  pub forgets-so : remembered false (played form d calls) ≡ tells [] not_understood
  unfolding remembered
  forgets-so = refl
