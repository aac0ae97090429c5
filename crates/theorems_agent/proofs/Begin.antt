-- The first step: nothing is known, so nothing bars value 1, and it is taken and told.
use Rattle.std.proofs.Common.{None, Some, ◌≡◌, refl, ◌∙◌, Bool, true, false, ◌&&◌, ℕ, zero, suc, ◌≤◌, ◌<◌, arith, eqb, ne_eqb}
use mathlib.Core.Bool.{and-true, or-false}
use Rattle.model_base.proofs.Tests.{test, opt, to-within}
use Rattle.model_agent.specs.Message.{nobody}
use Rattle.model_agent.specs.Agent.{Self, Bans, Nogoods, no_nogoods, unused_agent}
use Rattle.model_agent.specs.Choosing.{blame, blaming, reason_of, reason, choose, choice, quiet_rule, no_refuser, tells, chosen, took, settle, check_view}
use Rattle.model_agent.specs.Receiving.{fresh}
use Rattle.model_agent.proofs.Assignments.{unknown}
use Rattle.theorems_agent.specs.Facts.{Begun}
use Rattle.theorems_agent.proofs.Posts.{gets-one, gets_none, infos-get}
use Rattle.theorems_agent.proofs.Walk.{blame-some}

-- an unknown view bars nothing
blame-nobody : (s : Self) (bans : Bans) (nogoods : Nogoods) (v : ℕ) → blame s bans nobody nogoods v ≡ None
unfolding nobody
blame-nobody s bans nogoods v =
    opt (blame s bans nobody nogoods v) (λ e. e) (λ k e. unknown (blame-some s bans nobody nogoods v k e).0)

module _ (s : Self) (bans : Bans) (listens informs : ℕ → Bool) where
  choose-first : (d : ℕ) → 1 ≤ d → choose d 1 s bans nobody no_nogoods ≡ record { value = Some 1; nogoods = no_nogoods }
  unfolding choose reason reason_of blaming no_nogoods
  choose-first zero l = absurd (omega arith)
  choose-first (suc d) l =
      let free : reason s bans nobody no_nogoods 1 ≡ None = rw (blame-nobody s bans no_nogoods 1) in rw (free, choose)

  first-choice : 1 ≤ s.domain → choice s bans (fresh listens informs) ≡ record { value = Some 1; nogoods = no_nogoods }
  unfolding choice fresh unused_agent
  first-choice d = choose-first s.domain d

  pub settle-first : (times : ℕ) → 1 ≤ times → 1 ≤ s.domain
      → settle times s bans no_refuser (fresh listens informs) ≡ took s no_refuser (fresh listens informs) 1 no_nogoods
  unfolding settle
  settle-first zero l d = absurd (omega arith)
  settle-first (suc times) l d = rw (first-choice d, settle, first-choice d)

  -- no value is the last one taken yet, so either rule tells all that are informed
  first-told : (y : ℕ) → s.number < y → tells s (fresh listens informs) no_refuser 1 y ≡ informs y
  unfolding tells no_refuser fresh unused_agent
  first-told y low =
      let other : eqb y 0 ≡ false = ne_eqb y 0 (λ e. omega arith) in
      test (eqb s.rule quiet_rule) (λ q. rw (q, other) (or-false (informs y && true) ∙ and-true (informs y))) (λ q. rw q)

  pub first-facts : 1 ≤ s.number → 1 ≤ s.domain → Begun s listens informs (check_view s bans no_refuser (fresh listens informs))
  unfolding check_view took chosen fresh unused_agent nobody no_nogoods
  first-facts l d =
      rw (settle-first s.number l d)
      record {
        running = refl;
        owned = to-within s.domain 1 (omega arith) d;
        kept = refl;
        listened = refl;
        informed = refl;
        view = λ x. refl;
        nogoods = λ v. refl;
        tells = λ y low high i. gets-one (infos-get s (fresh listens informs) no_refuser 1 y) (low, high) (first-told y low ∙ i);
        silent = λ y i. gets_none (infos-get s (fresh listens informs) no_refuser 1 y) (λ (low, _). first-told y low ∙ i);
      }
