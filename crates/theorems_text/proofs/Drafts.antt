-- A draft holds what the statements so far say: the slot counts of the first, and a good record for each of the others.
-- A statement that is taken keeps this; slot counts are taken first and only once.
use Rattle.std.proofs.Common.{ℕ, ◌≤◌, ◌≡◌, refl, sym, ap, ◌∙◌, ◌⊎◌, inl, inr, true, false, not, List, [], ◌∷◌, ◌++◌, map, arith, length, length-append, ltb, ltb-true, lt-ltb}
use mathlib.Core.Bool.{false≢true}
use mathlib.Core.List.{map-append}
use lib.ListN.{length-map}
use borrow.Author.Tests.{eqb-false, not-true}
use Rattle.model_base.specs.Lists.{All}
use Rattle.model_base.proofs.Lists.{All-append, All-map}
use Rattle.model_sheet.specs.Problem.{Problem, empty_problem}
use Rattle.model_sheet.specs.Sheet.{max_records}
use Rattle.model_sheet.proofs.Range.{Ranged}
use Rattle.model_text.specs.Statements.{Statement, Slots, Ban, Gap}
use Rattle.model_text.specs.Drafts.{Draft, no_draft, begun, with_slots, with_record, Next, slots_tests, pair_tests, room_tests, ban_tests, gap_tests, with_statement}
use Rattle.theorems_text.proofs.Tests.{passed}
use Rattle.theorems_text.proofs.Slots.{bare, slots-ranged}
use Rattle.theorems_text.proofs.Records.{kind_of, record_of, Fits, ban-fits, gap-fits}

-- once the slot counts are said
pub record Begun (d : Draft) (said : List Statement) : Type 0 where
  pub domains : List ℕ
  pub rest : List Statement
  pub first : said ≡ Slots domains ∷ rest
  pub problem : d.problem ≡ bare domains
  pub range : Ranged d.problem
  pub rows : d.rows ≡ map record_of rest
  pub fit : All (Fits d.problem d.edition) rest
  pub few : length rest ≤ max_records

abbrev pub Drafted : Draft → List Statement → Type 0
Drafted d said = ((d ≡ no_draft) × (said ≡ [])) ⊎ Begun d said

-- ---- whether they are said

pub is-begun : (d : Draft) (said : List Statement) → Begun d said → begun d ≡ true
unfolding begun
is-begun d said b = lt-ltb 0 d.problem.count b.range.low

not-begun : (d : Draft) → d ≡ no_draft → begun d ≡ false
unfolding begun no_draft empty_problem
not-begun d e = rw e

pub now-begun : (d : Draft) (said : List Statement) → begun d ≡ true → Drafted d said → Begun d said
now-begun d said h (inl n) = absurd (false≢true (sym (not-begun d n.0) ∙ h))
now-begun d said h (inr b) = b

not_yet : (d : Draft) (said : List Statement) → not (begun d) ≡ true → Drafted d said → (d ≡ no_draft) × (said ≡ [])
not_yet d said h (inl n) = n
not_yet d said h (inr b) = absurd (false≢true (sym (not-true (begun d) h) ∙ is-begun d said b))

-- ---- another edition

known : (s : Statement) → kind_of s ≤ 2
unfolding kind_of
known (Slots domains) = omega arith
known (Ban a s b t) = omega arith
known (Gap a b least greatest) = omega arith

-- a record has edition 1 or 2, so where these are the other's too they fit it
pub refit : (p : Problem) (e e' : ℕ) → (1 ≤ e → e ≤ 2 → e ≡ e') → (rest : List Statement) → All (Fits p e) rest → All (Fits p e') rest
refit p e e' f rest = All-map (Fits p e) (Fits p e') one rest
  where
    one : (s : Statement) → Fits p e s → Fits p e' s
    one s h = let same = f h.some (omega (arith, known s, h.kind)) in rw (← same) h

-- ---- what a statement leaves

module _ (d : Draft) (said : List Statement) where
  slots-begin : (domains : List ℕ) → Drafted d said → (e : Draft) → with_statement d (Slots domains) ≡ Next e → Begun e (said ++ (Slots domains ∷ []))
  unfolding with_statement slots_tests no_draft with_slots
  slots-begin domains k e h =
      let x = passed (slots_tests d domains) (with_slots d domains) e h in
      let n = not_yet d said x.0.0 k in
      let there : with_slots no_draft domains ≡ e = ap (λ (c : Draft). with_slots c domains) (sym n.0) ∙ x.1 in
      rw (← there, n.1)
      (record {
        domains = domains;
        rest = [];
        first = refl;
        problem = refl;
        range = slots-ranged domains x.0.1.0 x.0.1.1.0;
        rows = refl;
        fit = tt;
        few = omega arith;
      })

  -- one record more, of edition e
  more : (e : ℕ) (s : Statement) → Begun d said → (1 ≤ d.edition → d.edition ≤ 2 → d.edition ≡ e) → Fits d.problem e s
      → ltb (length d.rows) max_records ≡ true → Begun (with_record d e (record_of s)) (said ++ (s ∷ []))
  unfolding with_record
  more e s b same fits room =
      let rest = b.rest in
      let held : length d.rows ≡ length rest = ap length b.rows ∙ length-map rest record_of in
      record {
        domains = b.domains;
        rest = rest ++ (s ∷ []);
        first = rw b.first;
        problem = b.problem;
        range = b.range;
        rows = rw b.rows (sym (map-append record_of rest (s ∷ [])));
        fit = All-append (Fits d.problem e) rest (s ∷ []) (refit d.problem d.edition e same rest b.fit) (fits, tt);
        few = rw length-append (omega (arith, ltb-true (length d.rows) max_records room));
      }

  pub keeps : (s : Statement) → Drafted d said → (e : Draft) → with_statement d s ≡ Next e → Begun e (said ++ (s ∷ []))
  unfolding with_statement ban_tests gap_tests pair_tests room_tests record_of
  keeps (Slots domains) k e h = slots-begin domains k e h
  keeps (Ban a s b t) k e h =
      let x = passed (ban_tests d a s b t) _ e h in
      let other = eqb-false d.edition 2 (not-true _ x.0.1.0) in
      rw (← x.1)
      (more 1 (Ban a s b t) (now-begun d said x.0.0 k) (λ l u. omega (arith, other)) (ban-fits d a s b t x.0) x.0.1.1.1.1.1.1.1.0)
  keeps (Gap a b least greatest) k e h =
      let x = passed (gap_tests d a b least greatest) _ e h in
      let other = eqb-false d.edition 1 (not-true _ x.0.1.0) in
      rw (← x.1)
      (more 2 (Gap a b least greatest) (now-begun d said x.0.0 k) (λ l u. omega (arith, other)) (gap-fits d a b least greatest x.0)
      x.0.1.1.1.1.1.1.1.1.0)
