-- The slot counts as the code reckons them: those at each place of the order, how many sets of bans they have, and the problem of them.
-- Fourteen lists, each by computation; and the order gone through list by list.
use Rattle.std.proofs.Common.{ℕ, suc, pred, ◌+◌, ◌*◌, ◌-◌, ◌/◌, ◌%◌, ◌^◌, ◌≤◌, ◌<◌, ◌≡◌, refl, sym, ap, subst, ◌∙◌, Bool, true, ◌&&◌, List, [], ◌∷◌, add-one, arith, length, get_or, drop, drop-cons, eqb, leb, eqb-true, leb-true}
use Rattle.model_base.specs.Finite.{all_to, gather, every}
use Rattle.model_base.proofs.Tests.{both}
use Rattle.model_base.proofs.Search.{all_to-at}
use Rattle.model_base.proofs.Lists.{All, All-map, every-all}
use Rattle.model_sheet.specs.Problem.{max_agents, domain}
use Rattle.model_little.specs.Little.{little_count, most_agents, most_values, counts_of, sizes, bare, pairs_of, places, sets_of, choice_from}
use Rattle.model_little.proofs.Sizes.{all-at}
use Rattle.model_little.proofs.Choices.{choice-here, choice-later}
use Rattle.sheet_little.specs.Abstract.{Holds, bare_of}
use Rattle.sheet_little.specs.Rows.{place_at, slots_of, owned_by, rows_from}
use Rattle.sheet_little.specs.declared.choice.Counts.{Counts}

-- ---- at each place of the order

pub sizes-long : length sizes ≡ 14
unfolding gather most_agents most_values counts_of sizes
sizes-long = refl

unfoldable holds : Counts → List ℕ → Bool
holds c ds =
    eqb c.agents (length ds) && eqb c.first (get_or ds 0 0) && eqb c.second (get_or ds 1 0) && eqb c.third (get_or ds 2 0)

to-holds : (c : Counts) (ds : List ℕ) → holds c ds ≡ true → Holds c ds
unfolding holds
to-holds c ds e =
    let t = both (eqb c.agents (length ds) && eqb c.first (get_or ds 0 0) && eqb c.second (get_or ds 1 0)) _ e in
    let s = both (eqb c.agents (length ds) && eqb c.first (get_or ds 0 0)) _ t.0 in
    let f = both (eqb c.agents (length ds)) _ s.0 in
    record { agents = eqb-true _ _ f.0; first = eqb-true _ _ f.1; second = eqb-true _ _ s.1; third = eqb-true _ _ t.1 }

pub one-agent : (k : ℕ) → k < 2 → Holds (record { agents = 1; first = 1 + k; second = 0; third = 0 }) (get_or sizes k [])
unfolding holds all_to gather most_agents most_values counts_of sizes
one-agent k h =
    to-holds _ _
    (all_to-at 2 (λ k. holds (record { agents = 1; first = 1 + pred k; second = 0; third = 0 }) (get_or sizes (pred k) [])) refl (suc k) (omega arith) h)

two-agents : (d : ℕ) → d < 4 → Holds (record { agents = 2; first = 1 + d / 2; second = 1 + d % 2; third = 0 }) (get_or sizes (2 + d) [])
unfolding holds all_to gather most_agents most_values counts_of sizes
two-agents d h =
    to-holds _ _
    (all_to-at 4 (λ d. holds (record { agents = 2; first = 1 + pred d / 2; second = 1 + pred d % 2; third = 0 }) (get_or sizes (2 + pred d) []))
    refl (suc d) (omega arith) h)

three-agents : (d : ℕ) → d < 8
    → Holds (record { agents = 3; first = 1 + d / 4; second = 1 + d / 2 % 2; third = 1 + d % 2 }) (get_or sizes (6 + d) [])
unfolding holds all_to gather most_agents most_values counts_of sizes
three-agents d h =
    to-holds _ _
    (all_to-at 8
    (λ d. holds (record { agents = 3; first = 1 + pred d / 4; second = 1 + pred d / 2 % 2; third = 1 + pred d % 2 }) (get_or sizes (6 + pred d) []))
    refl (suc d) (omega arith) h)

pub of_two : (k : ℕ) → 2 ≤ k → k < 6
    → Holds (record { agents = 2; first = 1 + (k - 2) / 2; second = 1 + (k - 2) % 2; third = 0 }) (get_or sizes k [])
of_two k l u = let e : 2 + (k - 2) ≡ k = omega arith in rw e at (two-agents (k - 2) (omega arith))

pub of_three : (k : ℕ) → 6 ≤ k → k < 14
    → Holds (record { agents = 3; first = 1 + (k - 6) / 4; second = 1 + (k - 6) / 2 % 2; third = 1 + (k - 6) % 2 }) (get_or sizes k [])
of_three k l u = let e : 6 + (k - 6) ≡ k = omega arith in rw e at (three-agents (k - 6) (omega arith))

-- ---- what they settle

-- the counts of a list
unfoldable pub made : List ℕ → Counts
made ds = record { agents = length ds; first = get_or ds 0 0; second = get_or ds 1 0; third = get_or ds 2 0 }

pub is_made : (c : Counts) (ds : List ℕ) → Holds c ds → c ≡ made ds
unfolding made
is_made c ds h = λ i. record { agents = h.agents i; first = h.first i; second = h.second i; third = h.third i }

-- the pairs of slots
abbrev pub pairs_in : Counts → ℕ
pairs_in c = c.first * c.second + c.first * c.third + c.second * c.third

pub record Small (c : Counts) : Type 0 where
  pub first : c.first ≤ 2
  pub second : c.second ≤ 2
  pub third : c.third ≤ 2

smalls : every (λ ds. leb (get_or ds 0 0) 2 && leb (get_or ds 1 0) 2 && leb (get_or ds 2 0) 2) sizes ≡ true
unfolding every gather most_agents most_values counts_of sizes
smalls = refl

pub sizes-small : All (λ ds. Small (made ds)) sizes
unfolding made
sizes-small =
    All-map _ _
    (λ ds e.
    let t = both (leb (get_or ds 0 0) 2 && leb (get_or ds 1 0) 2) _ e in
    let f = both (leb (get_or ds 0 0) 2) _ t.0 in
    record { first = leb-true _ _ f.0; second = leb-true _ _ f.1; third = leb-true _ _ t.1 })
    sizes (every-all _ sizes smalls)

pub sizes-sets : All (λ ds. sets_of ds ≡ 2 ^ pairs_in (made ds)) sizes
unfolding gather max_agents domain most_agents most_values counts_of sizes bare pairs_of places sets_of made
sizes-sets = (refl, (refl, (refl, (refl, (refl, (refl, (refl, (refl, (refl, (refl, (refl, (refl, (refl, (refl, tt))))))))))))))

pub sizes-rows : All (λ ds. places (bare ds) ≡ rows_from (made ds) 0) sizes
unfolding gather max_agents domain most_agents most_values counts_of sizes bare pairs_of places place_at slots_of owned_by rows_from made
sizes-rows = (refl, (refl, (refl, (refl, (refl, (refl, (refl, (refl, (refl, (refl, (refl, (refl, (refl, (refl, tt))))))))))))))

pub sizes-bare : All (λ ds. bare ds ≡ bare_of (made ds)) sizes
unfolding gather max_agents most_agents most_values counts_of sizes bare bare_of made
sizes-bare = (refl, (refl, (refl, (refl, (refl, (refl, (refl, (refl, (refl, (refl, (refl, (refl, (refl, (refl, tt))))))))))))))

-- at place k
module _ (k : ℕ) (h : k < 14) (c : Counts) (holds-c : Holds c (get_or sizes k [])) where
  pub at_small : Small c
  at_small = subst Small (sym (is_made c _ holds-c)) (all-at _ sizes [] sizes-small k (rw sizes-long h))

  pub at-sets : 2 ^ pairs_in c ≡ sets_of (get_or sizes k [])
  at-sets = ap (λ (x : Counts). 2 ^ pairs_in x) (is_made c _ holds-c) ∙ sym (all-at _ sizes [] sizes-sets k (rw sizes-long h))

-- ---- the order gone through

module _ (k : ℕ) (h : k < 14) where
  at_place : drop k sizes ≡ get_or sizes k [] ∷ drop (suc k) sizes
  at_place = drop-cons sizes k [] (rw sizes-long h)

  pub found_here : (left : ℕ) → left < sets_of (get_or sizes k []) → choice_from (drop k sizes) left ≡ record { counts = get_or sizes k []; bans = left }
  found_here left u = rw at_place (choice-here (get_or sizes k []) (drop (suc k) sizes) left u)

  pub found-later : (left : ℕ) → sets_of (get_or sizes k []) ≤ left
      → choice_from (drop k sizes) left ≡ choice_from (drop (suc k) sizes) (left - sets_of (get_or sizes k []))
  found-later left u = rw at_place (choice-later (get_or sizes k []) (drop (suc k) sizes) left u)

-- how many sheets these lists of slot counts have together
unfoldable pub sheets_of : List (List ℕ) → ℕ
sheets_of [] = 0
sheets_of (ds ∷ more) = sets_of ds + sheets_of more

-- what is left of the ordinal, behind the sheets before place k
pub record Reached (ordinal k left : ℕ) : Type 0 where
  pub same : choice_from sizes ordinal ≡ choice_from (drop k sizes) left
  pub before : ordinal + sheets_of (drop k sizes) ≡ left + little_count

pub reached-first : (ordinal : ℕ) → Reached ordinal 0 ordinal
unfolding gather max_agents domain most_agents most_values counts_of sizes bare pairs_of places sets_of sheets_of little_count
reached-first ordinal = record { same = refl; before = refl }

module _ (ordinal k : ℕ) (h : k < 14) (left : ℕ) where
  there : sheets_of (drop k sizes) ≡ sets_of (get_or sizes k []) + sheets_of (drop (suc k) sizes)
  unfolding sheets_of
  there = rw (at_place k h)

  pub reached_here : left < sets_of (get_or sizes k []) → Reached ordinal k left
      → (ordinal < little_count) × (choice_from sizes ordinal ≡ record { counts = get_or sizes k []; bans = left })
  reached_here u r = (omega (arith, there, r.before), r.same ∙ found_here k h left u)

  pub reached_later : sets_of (get_or sizes k []) ≤ left → Reached ordinal k left → Reached ordinal (k + 1) (left - sets_of (get_or sizes k []))
  reached_later u r =
      rw (add-one k) (record { same = r.same ∙ found-later k h left u; before = omega (arith, there, r.before) })

pub reached_end : (ordinal k : ℕ) → k ≡ 14 → (left : ℕ) → Reached ordinal k left → little_count ≤ ordinal
unfolding gather most_agents most_values counts_of sizes sheets_of
reached_end ordinal k e left r = let none : sheets_of (drop k sizes) ≡ 0 = rw e in omega (arith, none, r.before)
