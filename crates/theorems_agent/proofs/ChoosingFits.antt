-- Choosing keeps the shape, whatever the record held before, as long as it was in shape. Every nogood agrees with the view all along, so the
-- union of the left sides is a part of the view; each backing-up makes one agent of it unknown, so nobody is sent two Backs.
use Rattle.std.proofs.Common.{Some, ◌≡◌, refl, sym, ◌∙◌, subst, inl, inr, ⊎_elim, [], ◌∷◌, Bool, true, false, ℕ, zero, suc, ◌≤◌, ◌<◌, arith, length, eqb, eqb-true}
use mathlib.Core.Bool.{false≢true}
use borrow.Author.Tests.{eqb-false}
use Rattle.model_base.specs.Finite.{at, within, highest}
use Rattle.model_base.proofs.Tests.{test, opt, to-within}
use Rattle.model_base.proofs.Search.{highest-some, highest-max, at_same, at_other, at-cases}
use Rattle.model_base.proofs.Lists.{All}
use Rattle.model_sheet.specs.Problem.{max_agents, max_domain}
use Rattle.model_agent.specs.Message.{Assignment, known, Message, sent_to}
use Rattle.model_agent.specs.Agent.{Self, Bans, Nogoods, Agent, Step, with_last, above}
use Rattle.model_agent.specs.Choosing.{choice, chosen, took, union, failed, refusing, without, forget, after, settle, check_view}
use Rattle.model_agent.specs.Shape.{EachNamed}
use Rattle.model_agent.proofs.Assignments.{known-zero, unknown, above-is, to-above, from-above, agents-named}
use Rattle.theorems_agent.specs.Facts.{RestFits, Valued, PostFits}
use Rattle.theorems_agent.proofs.Posts.{gets-all, gets_none, gets-few, infos-get}
use Rattle.theorems_agent.proofs.Telling.{MayHear, told-may}
use Rattle.theorems_agent.proofs.LeftSides.{without-some, forgotten}
use Rattle.theorems_agent.proofs.Walk.{Walked, walked}
use Rattle.theorems_agent.proofs.Reasons.{only-agrees, union-view}

-- an assignment is a part of a view
abbrev pub PartOf : Assignment → Assignment → Type 0
PartOf view lhs = EachNamed lhs (λ k u. u ≡ view k)

-- nogoods stand at owned values, and their left sides are parts of the view
abbrev pub Stored : Self → Assignment → Nogoods → Type 0
Stored s view nogoods = (v : ℕ) (lhs : Assignment) → 1 ≤ v → v ≤ max_domain → nogoods v ≡ Some lhs → (v ≤ s.domain) × PartOf view lhs

pub store-more : (s : Self) (view : Assignment) (nogoods : Nogoods) (v : ℕ) (lhs : Assignment) → v ≤ s.domain → PartOf view lhs
    → Stored s view nogoods → Stored s view (at nogoods v (Some lhs))
store-more s view nogoods v lhs h p f w r lo hi =
    at-cases (λ o. o ≡ Some r → (w ≤ s.domain) × PartOf view r) nogoods v (Some lhs) w
    (λ q e. let is : lhs ≡ r = cc in (rw q h, subst (PartOf view) is p))
    (λ _. f w r lo hi)

-- a message to y, where the links stay as they are, while a refusal of `refuser` is worked
abbrev pub Sendable : (ℕ → ℕ → Bool) → Self → ℕ → Agent → ℕ → Message → Type 0
Sendable owns s refuser a y m = PostFits owns s a.listens (MayHear a refuser) y m

pub record ChoosingFits (owns : ℕ → ℕ → Bool) (s : Self) (refuser : ℕ) (a : Agent) (t : Step) : Type 0 where
  pub rest : RestFits owns s t.agent
  pub valued : Valued s t
  pub posts : (y : ℕ) → All (Sendable owns s refuser a y) (sent_to y t.sent)
  pub once : (y : ℕ) → length (sent_to y t.sent) ≤ 1
  pub silent : (y : ℕ) → y ≤ s.number → known (a.view y) ≡ false → sent_to y t.sent ≡ []
  pub lasting : (within s.domain t.agent.last ≡ true) × (known t.agent.value ≡ true → t.agent.last ≡ t.agent.value)

module _ (owns : ℕ → ℕ → Bool) (s : Self) (bans : Bans) (refuser : ℕ) (high : s.number ≤ max_agents) (small : s.domain ≤ max_domain) where
  -- the nogoods that choosing leaves, and the join of their left sides
  abbrev given : Agent → Nogoods
  given a = (choice s bans a).nogoods

  abbrev whole : Agent → Assignment
  whole a = union s.domain (given a)

  walk : (a : Agent) → Walked s bans a.view s.domain 1 a.nogoods (choice s bans a)
  unfolding choice
  walk a = walked s bans a.view s.domain 1 a.nogoods

  module _ (a : Agent) (f : RestFits owns s a) where
    given-stored : Stored s a.view (given a)
    given-stored w r lo hi e =
        ⊎_elim
        (λ q. f.agreed w r lo hi q)
        (λ (low, top, k, b, o). (omega arith, λ j lj hj n. only-agrees a.view k r o j n))
        ((walk a).given w r e)

    chosen-fits : (v last : ℕ) → RestFits owns s (with_last (chosen a v (given a)) last)
    unfolding chosen
    chosen-fits v last = record { upward = f.upward; downward = f.downward; viewed = f.viewed; agreed = given-stored }

    failed-fits : within s.domain a.last ≡ true → ChoosingFits owns s refuser a (failed a (given a))
    unfolding failed chosen sent_to
    failed-fits own =
        record {
          rest = chosen-fits 0 a.last;
          valued = inr (refl, refl);
          posts = λ y. tt;
          once = λ y. omega arith;
          silent = λ y _ _. refl;
          lasting = (own, λ e. unknown e);
        }

    took-fits : (v : ℕ) → (choice s bans a).value ≡ Some v → ChoosingFits owns s refuser a (took s refuser a v (given a))
    unfolding took chosen
    took-fits v e =
        let (low, top, _, _) = (walk a).taken v e in
        let own = to-within s.domain v low (omega arith) in
        record {
          rest = chosen-fits v v;
          valued = inl (refl, own);
          posts = λ y. gets-all (infos-get s a refuser v y) (Sendable owns s refuser a y)
              (λ (l, h) i. (l, h, told-may s a refuser v y l i, own));
          once = λ y. gets-few (infos-get s a refuser v y);
          silent = λ y l _. gets_none (infos-get s a refuser v y) (λ i. absurd (omega arith));
          lasting = (own, λ _. refl);
        }

    -- ---- backing up

    -- the join of the left sides is a part of the view
    whole_part : PartOf a.view (whole a)
    whole_part k lo hi n =
        union-view s.domain (given a) a.view k (λ v lhs l h e. (given-stored v lhs l (omega arith) e).1 k lo hi) n

    -- whom it names
    whole-named : EachNamed (whole a) (λ k u. (a.listens k ≡ true) × (owns k u ≡ true) × (k < s.number))
    whole-named k lo hi e =
        let is = whole_part k lo hi e in
        let v = f.viewed k lo hi (rw is at e) in
        (v.0, rw is v.1, f.upward k lo hi v.0)

    forget-fits : (k : ℕ) → RestFits owns s (forget k a (given a))
    unfolding forget
    forget-fits k = record { upward = f.upward; downward = f.downward; viewed = viewed; agreed = agreed }
      where
        viewed : EachNamed (at a.view k 0) (λ j v. (a.listens j ≡ true) × (owns j v ≡ true))
        viewed j lo hi =
            at-cases (λ v. known v ≡ true → (a.listens j ≡ true) × (owns j v ≡ true)) a.view k 0 j (λ _ e. unknown e) (λ _. f.viewed j lo hi)

        agreed : Stored s (at a.view k 0) (λ v. without k (given a v))
        agreed v lhs lo hi e =
            let (stored, away) = without-some k (given a v) lhs e in
            let h = given-stored v lhs lo hi stored in
            (h.0, λ j lj hj n. forgotten a.view lhs k j away n (h.1 j lj hj n))

    module _ (k : ℕ) (top : highest (above s) (λ j. known (whole a j)) ≡ Some k) where
      range : (known (whole a k) ≡ true) × (1 ≤ k) × (k < s.number) × (k ≤ max_agents)
      range =
          let (n, l, h) = highest-some (above s) (λ j. known (whole a j)) k top in
          let b = from-above s k (omega (arith, above-is s)) h in
          (n, l, b, omega arith)

      back : Sendable owns s refuser a k (refusing k (whole a)).message
      unfolding refusing
      back =
          let (n, l, h, m) = range in
          let (heard, own, _) = whole-named k l (omega (arith, agents-named)) n in
          (l, h, heard, own, lower)
        where
          lower : EachNamed (at (whole a) k 0) (λ j v. (j < k) × (owns j v ≡ true))
          lower j lo hi =
              at-cases (λ v. known v ≡ true → (j < k) × (owns j v ≡ true)) (whole a) k 0 j (λ _ q. unknown q)
              (λ n q.
              let (_, own, h) = whole-named j lo hi q in
              let m = highest-max (above s) (λ j. known (whole a j)) k top j (to-above s j h) q in
              (omega (arith, n), own))

      -- its receiver was known, and is not any more
      was-known : known (a.view k) ≡ true
      was-known = let (n, l, h, m) = range in rw (whole_part k l (omega (arith, agents-named)) n) at n

      backs-fit : (t : Step) → ChoosingFits owns s refuser (forget k a (given a)) t
          → ChoosingFits owns s refuser a (after (refusing k (whole a) ∷ []) t)
      unfolding after forget refusing sent_to
      backs-fit t r =
          let (_, l, h, m) = range in
          record {
            rest = r.rest;
            valued = r.valued;
            posts = λ y. test (eqb y k)
                (λ q. rw (q, sent_to) (rw (eqb-true y k q) back, r.posts y))
                (λ q. rw (q, sent_to) (r.posts y));
            once = λ y. test (eqb y k)
                (λ q. let e = eqb-true y k q in
                rw (q, sent_to, r.silent y (omega arith) (rw (e, at_same a.view k 0) known-zero)) (omega arith))
                (λ q. rw (q, sent_to) (r.once y));
            silent = λ y low n. test (eqb y k)
                (λ q. absurd (false≢true (sym n ∙ rw (eqb-true y k q) was-known)))
                (λ q. rw (q, sent_to) (r.silent y low (rw (at_other a.view k 0 y (eqb-false y k q)) n)));
            lasting = r.lasting;
          }

  settle-fits : (times : ℕ) (a : Agent) → RestFits owns s a → within s.domain a.last ≡ true
      → ChoosingFits owns s refuser a (settle times s bans refuser a)
  unfolding settle forget
  settle-fits zero a f own = failed-fits a f own
  settle-fits (suc times) a f own =
      opt (choice s bans a).value
      (λ e. opt (highest (above s) (λ k. known (union s.domain (choice s bans a).nogoods k)))
      (λ q. rw (e, settle, q) (failed-fits a f own))
      (λ k q. rw (e, settle, q) (backs-fit a f k q _ (settle-fits times (forget k a (choice s bans a).nogoods) (forget-fits a f k) own))))
      (λ v e. rw (e, settle) (took-fits a f v e))

  pub check-fits : (a : Agent) → RestFits owns s a → within s.domain a.last ≡ true
      → ChoosingFits owns s refuser a (check_view s bans refuser a)
  unfolding check_view
  check-fits a f own = settle-fits s.number a f own
