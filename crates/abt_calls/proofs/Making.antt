-- One call is answered as the definitions' step.
-- By the contracts of a delivery, a run and a pick: what they say of the network is said of the dispatcher above it, and a number that is not 0 is a refusal.
use Rattle.std.proofs.Common.{◌≡◌, ◌≢◌, ℕ, true, false, true≢false, sym, refl, ap, ap₂, ◌∙◌, ne_eqb, Result, Ok, Err}
use Rattle.support_rejection.specs.Rejections.{rejection_number}
use Rattle.support_rejection.specs.declared.Rejection.{Rejection}
use Rattle.support_rejection.proofs.Numbers.{refusal-some}
use Rattle.model_network.specs.Delivery.{deliver}
use Rattle.model_network.specs.Run.{run}
use Rattle.theorems_network.specs.Calls.{Deliver as Deliver', Run as Run', left_by}
use Rattle.model_dispatch.specs.Dispatch.{pick}
use Rattle.theorems_dispatch.specs.Steps.{Called as Called', Picked, left_by_step}
use Rattle.abt_record.specs.Abstract.{network_of}
use Rattle.abt_engine.specs.declared.Answer.{Answer}
use Rattle.abt_engine.specs.Answers.{ending_of}
use Rattle.abt_engine.specs.Refused.{rejected_number}
use Rattle.abt.specs.Answers.{DeliversAs, RunsAs}
use Rattle.abt_dispatch.specs.declared.Line.{Line}
use Rattle.abt_dispatch.specs.declared.Dispatcher.{Dispatcher}
use Rattle.abt_dispatch.specs.declared.Picked.{Picked as Answered}
use Rattle.abt_dispatch.specs.Abstract.{line_of, dispatcher_of, answered_number, served_of, PicksAs}
use Rattle.abt_calls.specs.declared.calls.Outcome.{Outcome}
use Rattle.abt_calls.specs.Outcomes.{Came, Delivered, Ran, Refused, unless_refused, is_refused, came_to_call, came_to_pick, came_to}
use Rattle.abt_calls.specs.Abstract.{came_of, AnswersAs}

-- ---- refused, or not

pub refused_with : (r : Rejection) (c : Came) → unless_refused (rejection_number r) c ≡ Refused (rejection_number r)
unfolding unless_refused
refused_with r c = rw (ne_eqb (rejection_number r) 0 (refusal-some r))

pub not_refused : (c : Came) → unless_refused 0 c ≡ c
unfolding unless_refused
not_refused c = refl

-- what is refused has a number
has-number : (k : ℕ) (c : Came) → is_refused c ≡ false → is_refused (unless_refused k c) ≡ true → k ≢ 0
unfolding unless_refused
has-number k c accepted refused z = true≢false (sym (rw z at refused) ∙ accepted)

-- ---- a delivery and a run: the dispatcher is the same, but for its network

module _ (d : Dispatcher) (a : Answer) (o : Outcome) where
  pub delivers : (l : Line) → DeliversAs d.network (deliver (network_of d.network) l.from l.to) (rejected_number a.rejection) a.network
      → came_of o ≡ unless_refused (rejected_number a.rejection) Delivered
      → AnswersAs d (Called' (Deliver' l.from l.to))
      (record { dispatcher = record { network = a.network; picks = d.picks; place = d.place }; outcome = o })
  unfolding dispatcher_of left_by_step left_by came_to came_to_call is_refused
  delivers l D e =
      record {
        left = λ x. record { network = D.network x; picks = d.picks; place = line_of d.place };
        came = e ∙ ap (λ (k : ℕ). unless_refused k Delivered) D.number;
        untouched = λ t.
            let n : rejected_number a.rejection ≢ 0 = has-number (rejected_number a.rejection) Delivered refl (rw e at t) in
            λ x. record { network = D.untouched n x; picks = d.picks; place = d.place };
      }

  pub runs : (k : ℕ) → RunsAs d.network (run k (network_of d.network)) a
      → came_of o ≡ unless_refused (rejected_number a.rejection) (Ran (ending_of a.ending) a.rounds)
      → AnswersAs d (Called' (Run' k))
      (record { dispatcher = record { network = a.network; picks = d.picks; place = d.place }; outcome = o })
  unfolding dispatcher_of left_by_step left_by came_to came_to_call is_refused
  runs k R e =
      record {
        left = λ x. record { network = R.network x; picks = d.picks; place = line_of d.place };
        came = e ∙ ap₂ unless_refused R.number (ap₂ Ran R.ending R.rounds);
        untouched = λ t.
            let n : rejected_number a.rejection ≢ 0 = has-number (rejected_number a.rejection) (Ran (ending_of a.ending) a.rounds) refl (rw e at t) in
            λ x. record { network = R.untouched n x; picks = d.picks; place = d.place };
      }

-- ---- a pick

pick-number : (a : Result Line Rejection) → is_refused (came_to_pick (served_of a) (answered_number a)) ≡ true → answered_number a ≢ 0
unfolding came_to_pick is_refused
pick-number (Ok l) t = absurd (true≢false (sym t))
pick-number (Err r) t = refusal-some r

pub picks : (d : Dispatcher) (wish : Line) (a : Answered) (o : Outcome) → PicksAs d (pick (dispatcher_of d) (line_of wish)) a
    → came_of o ≡ came_to_pick (served_of a.answer) (answered_number a.answer)
    → AnswersAs d (Picked (line_of wish)) (record { dispatcher = a.state; outcome = o })
unfolding left_by_step came_to
picks d wish a o P e =
    record {
      left = P.state;
      came = e ∙ ap₂ came_to_pick P.served P.number;
      untouched = λ t. P.untouched (pick-number a.answer (rw e at t));
    }
