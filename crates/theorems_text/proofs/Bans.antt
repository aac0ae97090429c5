-- The record of a ban is good, and bans what the statement says.
-- It has the two places in the order of their agents; the other order is never a lower and a higher one.
use Rattle.std.proofs.Common.{ℕ, ◌≤◌, ◌<◌, ◌≡◌, sym, ◌⊎◌, inl, inr, true, false, ◌&&◌, ◌||◌, arith, eqb, ltb, eqb-true, eq-eqb, ltb-true, ltb-false, lt-ltb, le-leb}
use mathlib.Core.Bool.{or_comm}
use Rattle.model_base.specs.Finite.{within}
use Rattle.model_base.proofs.Tests.{test, within-true, both, to_both, or_left, or_cases}
use Rattle.model_base.proofs.Peeling.{same_test}
use Rattle.model_sheet.specs.Problem.{Problem, owns}
use Rattle.model_sheet.specs.Row.{agents_good, values_good, fields_good, row_good, hits, row_bans}
use Rattle.model_sheet.specs.Cases.{ban}
use Rattle.model_sheet.proofs.Bans.{added, to-added}
use Rattle.model_text.specs.Statements.{Ban}
use Rattle.model_text.specs.Drafts.{ban_record}
use Rattle.model_text.specs.Claims.{same_places, says_ban}

-- four tests in a row
four : (a i s v b j t w : ℕ) → same_places a s b t i v j w ≡ true → (a ≡ i) × (s ≡ v) × (b ≡ j) × (t ≡ w)
unfolding same_places
four a i s v b j t w h =
    let d = both (eqb a i && eqb s v && eqb b j) _ h in
    let c = both (eqb a i && eqb s v) _ d.0 in
    let x = both (eqb a i) _ c.0 in
    (eqb-true _ _ x.0, eqb-true _ _ x.1, eqb-true _ _ c.1, eqb-true _ _ d.1)

to-four : (a i s v b j t w : ℕ) → a ≡ i → s ≡ v → b ≡ j → t ≡ w → same_places a s b t i v j w ≡ true
unfolding same_places
to-four a i s v b j t w ea es eb et =
    to_both _ _ (to_both _ _ (to_both _ _ (eq-eqb a i ea) (eq-eqb s v es)) (eq-eqb b j eb)) (eq-eqb t w et)

-- agent a at value s, agent b at value t, a the lower-numbered
module _ (p : Problem) (a s b t : ℕ) (order : a < b) (oa : owns p a s ≡ true) (ob : owns p b t ≡ true) where
  values-good : 1 ≤ a → b ≤ p.count → row_good 1 p (ban a s b t) ≡ true
  unfolding row_good agents_good fields_good values_good
  values-good l h = rw (lt-ltb 0 a l, lt-ltb a b order, le-leb b p.count h, oa, ob)

  values-say : (i j v w : ℕ) → row_bans 1 p (ban a s b t) i j v w ≡ true → ltb i j && same_places a s b t i v j w ≡ true
  unfolding row_bans hits
  values-say i j v w h =
      let n = added p a b (hits 1 (ban a s b t)) i j v w h in
      let x = both (eqb v s) _ n.named in
      let lower : i < j = omega (arith, n.lower, n.higher) in
      to_both _ _ (lt-ltb i j lower)
      (to-four a i s v b j t w (sym n.lower) (sym (eqb-true _ _ x.0)) (sym n.higher) (sym (eqb-true _ _ x.1)))

  say-values : (i j v w : ℕ) → same_places a s b t i v j w ≡ true → row_bans 1 p (ban a s b t) i j v w ≡ true
  unfolding row_bans hits
  say-values i j v w h =
      let (ea, es, eb, et) = four a i s v b j t w h in
      to-added p a b (hits 1 (ban a s b t)) i j v w
      (record {
        lower = sym ea;
        higher = sym eb;
        value = rw (← ea, ← es) oa;
        other = rw (← eb, ← et) ob;
        named = to_both _ _ (eq-eqb v s (sym es)) (eq-eqb w t (sym et));
      })

  -- the other order is no ban
  not-swapped : (i j v w : ℕ) → ltb i j ≡ true → same_places b t a s i v j w ≡ true → ⊥
  not-swapped i j v w o h = let (eb, et, ea, es) = four b i t v a j s w h in omega (arith, ltb-true i j o)

  -- so the record bans what the statement says, in either order of its places
  says-either : (i j v w : ℕ)
      → row_bans 1 p (ban a s b t) i j v w ≡ ltb i j && (same_places a s b t i v j w || same_places b t a s i v j w)
  says-either i j v w =
      same_test _ _
      (λ h. let x = both (ltb i j) _ (values-say i j v w h) in to_both _ _ x.0 (or_left _ _ x.1))
      (λ h. let x = both (ltb i j) _ h in one x.0 (or_cases _ _ x.1))
    where
      one : ltb i j ≡ true → (same_places a s b t i v j w ≡ true) ⊎ (same_places b t a s i v j w ≡ true) → row_bans 1 p (ban a s b t) i j v w ≡ true
      one l (inl h) = say-values i j v w h
      one l (inr h) = absurd (not-swapped i j v w l h)

-- ---- either agent first

-- two agents, and what they own
pub record Places (p : Problem) (a s b t : ℕ) : Type 0 where
  pub first : within p.count a ≡ true
  pub second : within p.count b ≡ true
  pub apart : a ≡ b → ⊥
  pub value : owns p a s ≡ true
  pub other : owns p b t ≡ true

module _ (p : Problem) (a s b t : ℕ) (h : Places p a s b t) where
  above : ltb a b ≡ false → b < a
  above o = omega (arith, ltb-false a b o, h.apart)

  pub ban-good : row_good 1 p (ban_record a s b t) ≡ true
  unfolding ban_record
  ban-good =
      let la = within-true p.count a h.first in
      let lb = within-true p.count b h.second in
      test (ltb a b)
      (λ o. rw o (values-good p a s b t (ltb-true a b o) h.value h.other la.0 lb.1))
      (λ o. rw o (values-good p b t a s (above o) h.other h.value lb.0 la.1))

  pub ban-says : (i j v w : ℕ) → row_bans 1 p (ban_record a s b t) i j v w ≡ says_ban p i j v w (Ban a s b t)
  unfolding ban_record says_ban
  ban-says i j v w =
      test (ltb a b)
      (λ o. rw o (says-either p a s b t (ltb-true a b o) h.value h.other i j v w))
      (λ o. rw (o, or_comm (same_places a s b t i v j w)) (says-either p b t a s (above o) h.other h.value i j v w))
