-- Ordinals and choices are one to one: below the total each ordinal has a choice and the choice that ordinal, and the other way round.
-- Block by block: the sheets of one list of slot counts stand together, as many as there are sets of bans.
use Rattle.std.proofs.Common.{ℕ, ◌+◌, ◌-◌, ◌≤◌, ◌<◌, ◌≡◌, refl, sym, ap, ◌∙◌, ◌≢◌, inl, inr, List, [], ◌∷◌, arith, ltb, ltb-true, ltb-false, lt-ltb, le-ltb}
use mathlib.Core.Bool.{false≢true}
use Rattle.model_base.specs.Same.{same_numbers}
use Rattle.model_base.proofs.Tests.{test}
use Rattle.model_base.proofs.Lists.{Any, any-all, any-tail}
use Rattle.model_base.proofs.Same.{same-numbers, numbers-same, other-numbers}
use Rattle.model_little.specs.Little.{Choice, sets_of, choice_from, ordinal_from}
use Rattle.model_little.specs.Claims.{total}
use Rattle.model_little.proofs.Unlike.{Unlike}

-- ---- choices

-- its slot counts are listed, and its number is one of a set of bans
pub record Listed (l : List (List ℕ)) (c : Choice) : Type 0 where
  pub counts : Any (λ ds. ds ≡ c.counts) l
  pub bans : c.bans < sets_of c.counts

module _ (ds : List ℕ) (l : List (List ℕ)) where
  pub choice-here : (o : ℕ) → o < sets_of ds → choice_from (ds ∷ l) o ≡ record { counts = ds; bans = o }
  unfolding choice_from
  choice-here o h = rw (lt-ltb o (sets_of ds) h, choice_from)

  pub choice-later : (o : ℕ) → sets_of ds ≤ o → choice_from (ds ∷ l) o ≡ choice_from l (o - sets_of ds)
  unfolding choice_from
  choice-later o h = rw (le-ltb o (sets_of ds) h, choice_from)

  ordinal-here : (c : Choice) → c.counts ≡ ds → ordinal_from (ds ∷ l) c ≡ c.bans
  unfolding ordinal_from
  ordinal-here c q = rw (numbers-same c.counts ds q, ordinal_from)

  ordinal-later : (c : Choice) → c.counts ≢ ds → ordinal_from (ds ∷ l) c ≡ sets_of ds + ordinal_from l c
  unfolding ordinal_from
  ordinal-later c n = rw (other-numbers c.counts ds n, ordinal_from)

pub choice-listed : (l : List (List ℕ)) (o : ℕ) → o < total l → Listed l (choice_from l o)
unfolding total
choice-listed [] o h = absurd (omega arith)
choice-listed (ds ∷ l) o h =
    test (ltb o (sets_of ds))
    (λ e. let few = ltb-true o (sets_of ds) e in rw (choice-here ds l o few) (record { counts = inl refl; bans = few }))
    (λ e.
    let far = ltb-false o (sets_of ds) e in
    let r = choice-listed l (o - sets_of ds) (omega arith) in
    rw (choice-later ds l o far) (record { counts = inr r.counts; bans = r.bans }))

pub ordinal-choice : (l : List (List ℕ)) (o : ℕ) → Unlike l → o < total l → ordinal_from l (choice_from l o) ≡ o
unfolding total
ordinal-choice [] o u h = absurd (omega arith)
ordinal-choice (ds ∷ l) o u h =
    test (ltb o (sets_of ds))
    (λ e. rw (choice-here ds l o (ltb-true o (sets_of ds) e)) (ordinal-here ds l _ refl))
    (λ e.
    let far : sets_of ds ≤ o = ltb-false o (sets_of ds) e in
    let r = choice-listed l (o - sets_of ds) (omega arith) in
    let other : (choice_from l (o - sets_of ds)).counts ≢ ds = λ q. any-all _ _ (λ x a b. b (sym (a ∙ q))) l r.counts u.0 in
    rw (choice-later ds l o far)
    (ordinal-later ds l _ other ∙ omega (arith, ordinal-choice l (o - sets_of ds) u.1 (omega arith))))

pub record Back (l : List (List ℕ)) (c : Choice) : Type 0 where
  pub below : ordinal_from l c < total l
  pub choice : choice_from l (ordinal_from l c) ≡ c

pub choice-back : (l : List (List ℕ)) (c : Choice) → Listed l c → Back l c
unfolding total
choice-back [] c h = absurd h.counts
choice-back (ds ∷ l) c h =
    test (same_numbers c.counts ds)
    (λ e. found (same-numbers c.counts ds e))
    (λ e.
    let other : c.counts ≢ ds = λ q. false≢true (sym e ∙ numbers-same c.counts ds q) in
    later other (choice-back l c (record { counts = any-tail _ ds l (λ q. other (sym q)) h.counts; bans = h.bans })))
  where
    found : c.counts ≡ ds → Back (ds ∷ l) c
    found q =
        let few : c.bans < sets_of ds = rw q at h.bans in
        let here = ordinal-here ds l c q in
        record {
          below = rw here (omega arith);
          choice = ap (choice_from (ds ∷ l)) here ∙ choice-here ds l c.bans few ∙ (λ i. record { counts = sym q i; bans = c.bans });
        }

    later : c.counts ≢ ds → Back l c → Back (ds ∷ l) c
    later n b =
        let there = ordinal-later ds l c n in
        let rest : sets_of ds + ordinal_from l c - sets_of ds ≡ ordinal_from l c = omega arith in
        record {
          below = rw there (omega (arith, b.below));
          choice =
              ap (choice_from (ds ∷ l)) there
              ∙ choice-later ds l (sets_of ds + ordinal_from l c) (omega arith)
              ∙ rw rest b.choice;
        }
