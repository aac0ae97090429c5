-- What is claimed of lists of calls holds of the state that a list of steps leaves.
-- A history that is followed by more steps is a history, and what it leaves is what the calls that it comes to leave: of these the claims are proved.
use Rattle.std.proofs.Common.{◌≡◌, ◌≤◌, ℕ, true, arith, List, [], ◌∷◌, ◌++◌, sym, refl, ap, ◌∙◌, subst}
use Rattle.model_base.proofs.Tests.{test}
use Rattle.model_sheet.specs.Problem.{Problem}
use Rattle.model_sheet.specs.Sheet.{Decoded, Valid, Invalid, decode}
use Rattle.model_sheet.proofs.Checks.{fault-some}
use Rattle.model_network.specs.Network.{is_rule, bad_rule, started_on, start_sheet}
use Rattle.theorems_network.specs.Calls.{left_by_all}
use Rattle.theorems_network.specs.Claims.{most_rounds}
use Rattle.theorems_network.proofs.Theorems.{
  sheet-sound,
  sheet-complete,
  sheet-round-bound,
  sheet-run-bound,
  sheet-runs-count,
  sheet-asked-once,
  sheet-stays-in-shape,
  sheet-counts-capped,
  sheet-sent-is-received-and-waiting,
  sheet-sent-is-received-and-waiting-of,
}
use Rattle.theorems_isolation.specs.Tenants.{Naming, NamingAbove}
use Rattle.theorems_isolation.specs.Claims.{ActsAlike as CallsActAlike}
use Rattle.theorems_isolation.proofs.Theorems.{acts-alike, named-acts-alike}
use Rattle.model_dispatch.specs.Dispatch.{Dispatcher, dispatcher}
use Rattle.theorems_dispatch.specs.Steps.{Step, left_by_step, left_by_steps, calls_in}
use Rattle.theorems_dispatch.specs.Claims.{above}
use Rattle.theorems_dispatch.proofs.Theorems.{picks-are-calls}
use Rattle.abt_calls.proofs.Telling.{all-told}
use Rattle.abt_calls.specs.Histories.{History, started, begun, fresh, followed_by, called, Reached, Promised, PromisedFromStart, ActsAlike}

-- ---- a history begins, and goes on

-- what the start gives where it refuses neither the rule nor the sheet
pub reached-first : (rule : ℕ) (sheet : List ℕ) → (start_sheet rule sheet).number ≡ 0
    → (p : Problem) × Reached (fresh rule sheet p) (dispatcher (start_sheet rule sheet).network)
unfolding start_sheet bad_rule started_on above left_by_steps dispatcher
reached-first rule sheet e =
    test (is_rule rule)
    (λ r. by-sheet r (decode sheet) refl)
    (λ r. let z : 11 ≡ 0 = rw (r, start_sheet) at e in absurd (omega arith))
  where
    by-sheet : is_rule rule ≡ true → (x : Decoded) → decode sheet ≡ x
        → (p : Problem) × Reached (fresh rule sheet p) (dispatcher (start_sheet rule sheet).network)
    by-sheet r (Valid p) s =
        (p, record { rule = r; sheet = s; left = rw (r, start_sheet, s) })
    by-sheet r (Invalid f) s = absurd (fault-some f (rw (r, start_sheet, s) at e))

left-append : (xs ys : List Step) (d : Dispatcher) → left_by_steps (xs ++ ys) d ≡ left_by_steps ys (left_by_steps xs d)
unfolding left_by_steps
left-append [] ys d = refl
left-append (x ∷ xs) ys d = left-append xs ys (left_by_step x d)

-- the state that more steps leave is reached by the history that they follow
pub reached-further : (h : History) (d : Dispatcher) (more : List Step) → Reached h d → Reached (followed_by h more) (left_by_steps more d)
reached-further h d more R =
    record { rule = R.rule; sheet = R.sheet; left = left-append h.steps more (begun h) ∙ ap (left_by_steps more) R.left }

-- ---- what is promised

-- of the network that the calls leave
by-calls : (h : History) (d : Dispatcher) → Reached h d → Promised h (left_by_all (called h) (started h))
unfolding above
by-calls h d R =
    record {
      sound = sheet-sound h.rule R.rule h.sheet h.problem R.sheet (called h);
      complete = sheet-complete h.rule R.rule h.sheet h.problem R.sheet (called h);
      shape = sheet-stays-in-shape h.rule R.rule h.sheet h.problem R.sheet (called h);
      bounded = sheet-round-bound h.rule R.rule h.sheet h.problem R.sheet (called h);
      returned = sheet-run-bound h.rule R.rule h.sheet h.problem R.sheet (called h);
      told = subst (λ (k : ℕ). k ≤ most_rounds h.problem) (all-told (begun h) h.steps) (sheet-run-bound h.rule R.rule h.sheet h.problem R.sheet (called h));
      exact = sheet-runs-count h.rule R.rule h.sheet h.problem R.sheet (called h);
      sent = λ i x. (sheet-counts-capped h.rule R.rule h.sheet h.problem R.sheet (called h) i x).0;
      received = λ i x. (sheet-counts-capped h.rule R.rule h.sheet h.problem R.sheet (called h) i x).1;
      balanced = sheet-sent-is-received-and-waiting h.rule R.rule h.sheet h.problem R.sheet (called h);
      balanced_of = sheet-sent-is-received-and-waiting-of h.rule R.rule h.sheet h.problem R.sheet (called h);
      one_request = λ x y. (sheet-asked-once h.rule R.rule h.sheet h.problem R.sheet (called h) x y).0;
      none_from_informed = λ x y. (sheet-asked-once h.rule R.rule h.sheet h.problem R.sheet (called h) x y).1;
    }

network-by-calls : (h : History) (d : Dispatcher) → Reached h d → left_by_all (called h) (started h) ≡ d.network
unfolding above
network-by-calls h d R = sym (picks-are-calls (begun h) h.steps) ∙ ap (λ (x : Dispatcher). x.network) R.left

pub promised : (h : History) (d : Dispatcher) → Reached h d → Promised h d.network
promised h d R = subst (Promised h) (network-by-calls h d R) (by-calls h d R)

-- ---- two tenants

pub steps-act-alike : (Names : ℕ → ℕ → ℕ → Type 0) → CallsActAlike Names → (d : Dispatcher) (steps : List Step)
    → ActsAlike Names d steps (left_by_steps steps d).network
steps-act-alike Names proved d steps j e A others h =
    let S = proved j d.network e.network A (calls_in steps d) (calls_in others e) h in
    record { agent = rw (picks-are-calls d steps, picks-are-calls e others) S.agent; sent = S.sent }

-- ---- of a dispatcher that a list of calls leaves

module _ (d e : Dispatcher) (steps : List Step) (left : e ≡ left_by_steps steps d) where
  pub by-the-calls : e.network ≡ left_by_all (calls_in steps d) d.network
  by-the-calls = ap (λ (x : Dispatcher). x.network) left ∙ picks-are-calls d steps

  pub reaches-further : (h : History) → Reached h d → Reached (followed_by h steps) e
  reaches-further h R = rw left (reached-further h d steps R)

  pub promised-further : (h : History) → Reached h d → Promised (followed_by h steps) e.network
  promised-further h R = rw left (promised (followed_by h steps) (left_by_steps steps d) (reached-further h d steps R))

  pub promised-from-start : PromisedFromStart d steps e.network
  promised-from-start rule sheet n q =
      let F : (p : Problem) × Reached (fresh rule sheet p) d =
      subst (λ (x : Dispatcher). (p : Problem) × Reached (fresh rule sheet p) x) q (reached-first rule sheet n) in
      (F.0, F.1.sheet, promised-further (fresh rule sheet F.0) F.1)

  pub acts-alike-further : ActsAlike NamingAbove d steps e.network
  acts-alike-further = rw left (steps-act-alike NamingAbove acts-alike d steps)

  pub named-acts-alike-further : ActsAlike Naming d steps e.network
  named-acts-alike-further = rw left (steps-act-alike Naming named-acts-alike d steps)
