-- A list of calls is played as the definitions' list of steps.
-- Before each call, what the calls still to come lead to from here is what all lead to from the beginning.
use Rattle.std.proofs.Common.{
  ◌≡◌,
  ℕ,
  suc,
  ◌+◌,
  ◌<◌,
  ◌≤◌,
  List,
  [],
  ◌∷◌,
  map,
  length,
  drop,
  get_or,
  refl,
  ap,
  ◌∙◌,
  subst,
  Some,
  None,
  option_map,
  add-one,
  drop-cons,
  drop_of_length-le,
}
use Rattle.std.specs.List.{last_or}
use Rattle.theorems_dispatch.specs.Steps.{left_by_steps}
use Rattle.abt_dispatch.specs.declared.Dispatcher.{Dispatcher}
use Rattle.abt_dispatch.specs.Abstract.{dispatcher_of}
use Rattle.abt_calls.specs.declared.calls.Call.{Call}
use Rattle.abt_calls.specs.declared.calls.Called.{Called}
use Rattle.abt_calls.specs.declared.calls.Played.{Played}
use Rattle.abt_calls.specs.Outcomes.{is_refused, came_by_all, AllRefused}
use Rattle.abt_calls.specs.Abstract.{step_of, came_of, AnswersAs}

-- played so far, from the dispatcher that all began with, with the rest still to come
pub record Here (all : List Call) (first : Dispatcher) (rest : List Call) (played : Played) : Type 0 where
  pub left : left_by_steps (map step_of rest) (dispatcher_of played.dispatcher) ≡ left_by_steps (map step_of all) (dispatcher_of first)
  pub came : last_or (option_map came_of played.last) (came_by_all (map step_of rest) (dispatcher_of played.dispatcher))
      ≡ last_or None (came_by_all (map step_of all) (dispatcher_of first))
  pub untouched : AllRefused (map step_of all) (dispatcher_of first)
      → (played.dispatcher ≡ first) × AllRefused (map step_of rest) (dispatcher_of played.dispatcher)

pub here-first : (all : List Call) (first : Dispatcher) → Here all first all (record { dispatcher = first; last = None })
here-first all first = record { left = refl; came = refl; untouched = λ r. (refl, r) }

pub here-next : (all : List Call) (first : Dispatcher) (c : Call) (rest : List Call) (played : Played) (called : Called)
    → Here all first (c ∷ rest) played → AnswersAs played.dispatcher (step_of c) called
    → Here all first rest (record { dispatcher = called.dispatcher; last = Some called.outcome })
unfolding left_by_steps came_by_all
here-next all first c rest played called H A =
    record {
      left = rw A.left H.left;
      came = rw (A.left, A.came) H.came;
      untouched = λ r.
          let U = H.untouched r in
          (A.untouched (ap is_refused A.came ∙ U.1.0) ∙ U.0, rw A.left U.1.1);
    }

-- .. by the place in the list
pub here-at : (all : List Call) (first : Dispatcher) (k : ℕ) (c : Call) (played : Played) (called : Called) → k < length all
    → Here all first (drop k all) played → AnswersAs played.dispatcher (step_of (get_or all k c)) called
    → Here all first (drop (k + 1) all) (record { dispatcher = called.dispatcher; last = Some called.outcome })
here-at all first k c played called h H A =
    rw add-one
    (here-next all first (get_or all k c) (drop (suc k) all) played called
    (subst (λ (rest : List Call). Here all first rest played) (drop-cons all k c h) H) A)

-- ---- with no call still to come

pub here-last : (all : List Call) (first : Dispatcher) (k : ℕ) (played : Played) → length all ≤ k → Here all first (drop k all) played
    → Here all first [] played
here-last all first k played h H = subst (λ (rest : List Call). Here all first rest played) (drop_of_length-le all h) H

module _ (all : List Call) (first : Dispatcher) (played : Played) (H : Here all first [] played) where
  pub all-left : dispatcher_of played.dispatcher ≡ left_by_steps (map step_of all) (dispatcher_of first)
  unfolding left_by_steps
  all-left = H.left

  pub all-came : option_map came_of played.last ≡ last_or None (came_by_all (map step_of all) (dispatcher_of first))
  unfolding came_by_all
  all-came = H.came
