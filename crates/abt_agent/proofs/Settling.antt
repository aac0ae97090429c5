-- Backing up, one turn at a time: what the definition does where a value, nobody or an agent to refuse is found.
-- Whoever is refused was known in the view, so each turn one agent more is unknown.
use Rattle.std.proofs.Common.{None, Option, Some, ℕ, zero, suc, pred, ◌<◌, ◌≤◌, ◌≡◌, refl, sym, ap, ◌∙◌, Bool, true, false, cond, List, [], ◌∷◌, ◌++◌, append-nil, append_assoc, arith, eqb, eqb-true, ne_eqb}
use borrow.Author.Tests.{eqb-false}
use Rattle.model_base.specs.Finite.{at, highest}
use Rattle.model_base.proofs.Tests.{test, eq_test}
use Rattle.model_base.proofs.Search.{highest-some, at_same, at_other}
use Rattle.model_agent.specs.Message.{Assignment, known, Post}
use Rattle.model_agent.specs.Agent.{Self, Bans, Nogoods, Agent, Step, with_last, above}
use Rattle.model_agent.specs.Choosing.{Choice, choice, infos, chosen, took, union, failed, refusing, drop_if, without, forget, after, settle}
use Rattle.model_agent.specs.Receiving.{keep_if}
use Rattle.model_agent.specs.Shape.{max_named}
use Rattle.abt_choosing.specs.Conflicts.{self_of, ConfigFits}
use Rattle.abt_choosing.specs.Choosing.{Coherent}
use Rattle.abt_choosing.specs.declared.AgentConfig.{AgentConfig}
use Rattle.abt_agent.specs.Parts.{keeping}
use Rattle.abt_packed.proofs.Known.{known-true}
use Rattle.abt_choosing.proofs.Unions.{union-agreed}

-- ---- one turn, once it is known what choosing comes to

pub after-after : (ps qs : List Post) (t : Step) → after ps (after qs t) ≡ after (ps ++ qs) t
unfolding after
after-after ps qs t = rw (append_assoc ps qs t.sent)

-- the highest-numbered agent in the union of the left sides
abbrev pub whom : Self → Nogoods → Option ℕ
whom s nogoods = highest (above s) (λ k. known (union s.domain nogoods k))

module _ (times : ℕ) (s : Self) (bans : Bans) (refuser : ℕ) (a : Agent) (ps : List Post) (new : Nogoods) where
  -- the turn that follows a choice
  turn_of : Choice → Step
  turn_of c =
      elim c.value [
        | Some v ↦ took s refuser a v c.nogoods
        | None ↦ elim (whom s c.nogoods) [
          | None ↦ failed a c.nogoods
          | Some k ↦ after (refusing k (union s.domain c.nogoods) ∷ []) (settle times s bans refuser (forget k a c.nogoods))
        ]
      ]

  turns : (c : Choice) → choice s bans a ≡ c → settle (suc times) s bans refuser a ≡ turn_of c
  unfolding settle turn_of
  turns c e = ap turn_of e

  pub turn-took : (v : ℕ) → choice s bans a ≡ record { value = Some v; nogoods = new }
      → after ps (settle (suc times) s bans refuser a) ≡ record { agent = with_last (chosen a v new) v; sent = ps ++ infos s a refuser v; unsolvable = false }
  unfolding turn_of after took
  turn-took v e = ap (after ps) (turns _ e)

  module _ (e : choice s bans a ≡ record { value = None; nogoods = new }) where
    pub turn-failed : whom s new ≡ None → after ps (settle (suc times) s bans refuser a) ≡ record { agent = chosen a 0 new; sent = ps; unsolvable = true }
    unfolding turn_of after failed
    turn-failed f = ap (after ps) (turns _ e) ∙ rw (f, turn_of, append-nil ps)

    pub turn-back : (k : ℕ) → whom s new ≡ Some k
        → after ps (settle (suc times) s bans refuser a) ≡ after (ps ++ (refusing k (union s.domain new) ∷ [])) (settle times s bans refuser (forget k a new))
    unfolding turn_of
    turn-back k f =
        ap (after ps) (turns _ e) ∙ rw (f, turn_of) (after-after ps (refusing k (union s.domain new) ∷ []) (settle times s bans refuser (forget k a new)))

-- forgetting an agent keeps what a view without it keeps
pub without-keeping : (k : ℕ) (o : Option Assignment) → without k o ≡ keeping k 0 o
unfolding without drop_if keeping keep_if
without-keeping k None = refl
without-keeping k (Some lhs) =
    test (known (lhs k))
    (λ e. rw (e, ne_eqb (lhs k) 0 (λ z. omega (arith, known-true (lhs k) e))))
    (λ e. rw e)

-- ---- how many of the agents 1 to m have a known value

pub named_to : ℕ → Assignment → ℕ
named_to zero view = 0
named_to (suc m) view = cond (known (view (suc m))) (suc (named_to m view)) (named_to m view)

pub named-le : (m : ℕ) (view : Assignment) → named_to m view ≤ m
unfolding named_to
named-le zero view = omega arith
named-le (suc m) view =
    test (known (view (suc m)))
    (λ e. rw e (omega (arith, named-le m view)))
    (λ e. rw e (omega (arith, named-le m view)))

named-same : (m : ℕ) (f g : Assignment) → ((k : ℕ) → 1 ≤ k → k ≤ m → f k ≡ g k) → named_to m f ≡ named_to m g
unfolding named_to
named-same zero f g h = refl
named-same (suc m) f g h = rw (h (suc m) (omega arith) (omega arith), named-same m f g (λ k l u. h k l (omega arith)))

pub named-forget : (m : ℕ) (view : Assignment) (k : ℕ) → 1 ≤ k → k ≤ m → known (view k) ≡ true
    → suc (named_to m (at view k 0)) ≡ named_to m view
unfolding named_to known
named-forget zero view k l h e = absurd (omega arith)
named-forget (suc m) view k l h e =
    test (eqb k (suc m))
    (λ t.
    let q : k ≡ suc m = eqb-true k (suc m) t in
    rw (q, at_same view (suc m) 0, rw q at e)
    (ap suc (named-same m (at view (suc m) 0) view (λ j lo hi. at_other view (suc m) 0 j (λ u. omega arith)))))
    (λ t.
    let n = named-forget m view k l (omega (arith, eqb-false k (suc m) t)) e in
    rw (at_other view k 0 (suc m) (λ u. eqb-false k (suc m) t (sym u)), ← n)
    (test (known (view (suc m))) (λ u. rw u) (λ u. rw u)))

-- ---- whom to refuse

-- nobody else than the agents above is named, so the search can go on to 16
highest-to : (m n : ℕ) (p : ℕ → Bool) → m ≤ n → ((j : ℕ) → m < j → j ≤ n → p j ≡ false) → highest n p ≡ highest m p
unfolding highest
highest-to m zero p h f = let e : m ≡ 0 = omega arith in rw e
highest-to m (suc n) p h f =
    eq_test m (suc n)
    (λ e. rw e)
    (λ e. rw (f (suc n) (omega (arith, e)) (omega arith), highest) (highest-to m n p (omega (arith, e)) (λ j l u. f j l (omega arith))))

module _ (own : AgentConfig) (fits : ConfigFits own) (view : Assignment) (nogoods : Nogoods) (c : Coherent own view nogoods) where
  -- whom the union names is known in the view, and above
  pub named-above : (k : ℕ) → 1 ≤ k → k ≤ 16 → known (union own.domain nogoods k) ≡ true → (known (view k) ≡ true) × (k < own.number)
  unfolding max_named
  named-above k l h e =
      let g : union own.domain nogoods k ≡ view k = union-agreed own view nogoods c own.domain fits.few k l h e in
      let n : known (view k) ≡ true = rw (← g) e in
      (n, (c.viewed k l h n).0)

  module _ (o : Option ℕ) (top : o ≡ highest max_named (λ j. known (union own.domain nogoods j))) where
    pub whom-is : whom (self_of own) nogoods ≡ o
    unfolding max_named above self_of
    whom-is =
        sym
        (top
        ∙ highest-to (pred own.number) 16 (λ j. known (union own.domain nogoods j)) (omega (arith, fits.last))
        (λ j l u. test (known (union own.domain nogoods j)) (λ t. absurd (omega (arith, (named-above j (omega arith) u t).1))) (λ t. t)))

  -- the refused agent
  pub refused-known : (k : ℕ) → whom (self_of own) nogoods ≡ Some k
      → (1 ≤ k) × (k < own.number) × (known (view k) ≡ true) × (known (union own.domain nogoods k) ≡ true)
  unfolding above self_of
  refused-known k one =
      let f = highest-some (above (self_of own)) (λ j. known (union own.domain nogoods j)) k one in
      let u : k ≤ pred own.number = f.2 in
      let g = named-above k f.1 (omega (arith, fits.last)) f.0 in
      (f.1, g.1, g.0, f.0)
