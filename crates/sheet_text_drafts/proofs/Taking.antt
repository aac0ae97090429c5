-- What a statement leaves: the draft of the definitions, where every test holds; else the first fault.
use Rattle.std.proofs.Common.{ℕ, ◌-◌, ◌≤◌, ◌<◌, ◌≡◌, refl, sym, ap, ◌∙◌, true, false, ◌&&◌, List, map, ◌++◌, leb, length, replicate, lt-ltb, le-ltb, le-leb, Option, Some, None, Ok, Err}
use Rattle.model_base.specs.Finite.{within, every}
use Rattle.model_base.proofs.Tests.{test, both, within-true}
use Rattle.model_sheet.specs.Row.{Row}
use Rattle.model_text.specs.Words.{is_numeral, numeral}
use Rattle.model_text.specs.Statements.{Says, Slots as Slots', slots_said, ban_said, gap_said}
use Rattle.model_text.specs.Drafts.{NotStatement, Draft as Draft', with_slots, with_record, ban_record, gap_record, Next, Wrong, slots_tests, ban_tests, gap_tests, with_statement, with_said}
use Rattle.sheet_text_statements.specs.declared.Ban.{Ban}
use Rattle.sheet_text_statements.specs.declared.Gap.{Gap}
use Rattle.sheet_text_statements.specs.declared.Slots.{Slots}
use Rattle.sheet_text_statements.specs.Saying.{ban_from, gap_from, domains_of, slots_of, slots_from}
use Rattle.sheet_text_drafts.specs.declared.fault.LineRejection.{LineRejection}
use Rattle.sheet_text_drafts.specs.Faults.{fault_of}
use Rattle.sheet_text_drafts.specs.Drafting.{judged, Judges}

pub ban-lower : (a s b t : ℕ) → a < b → record { lower = a; higher = b; low = s; high = t } ≡ ban_record a s b t
unfolding ban_record
ban-lower a s b t l = rw (lt-ltb a b l) refl

pub ban-higher : (a s b t : ℕ) → b ≤ a → record { lower = b; higher = a; low = t; high = s } ≡ ban_record a s b t
unfolding ban_record
ban-higher a s b t l = rw (le-ltb a b l) refl

-- ---- a ban

module _ (d : Draft') (words : List (List ℕ)) where
  pub ban-unclear : (o : Option Ban) → o ≡ None → ban_from o ≡ ban_said words → Wrong NotStatement ≡ with_said d (ban_said words)
  unfolding ban_from with_said
  ban-unclear o e S = ap (with_said d) (sym (ap ban_from e) ∙ S)

  module _ (q : Ban) (S : ban_from (Some q) ≡ ban_said words) where
    pub ban-wrong : {e : LineRejection} → Judges (ban_tests d q.a q.s q.b q.t) (Err e) → Wrong (fault_of e) ≡ with_said d (ban_said words)
    unfolding ban_from with_said with_statement judged
    ban-wrong K = sym (K.same (with_record d 1 (ban_record q.a q.s q.b q.t))) ∙ ap (with_said d) S

    pub ban-next : {u : Unit {0}} → Judges (ban_tests d q.a q.s q.b q.t) (Ok u)
        → (row : Row) → row ≡ ban_record q.a q.s q.b q.t → Next (with_record d 1 row) ≡ with_said d (ban_said words)
    unfolding ban_from with_said with_statement judged
    ban-next K row e = ap (λ (r : Row). Next (with_record d 1 r)) e ∙ sym (K.same (with_record d 1 (ban_record q.a q.s q.b q.t))) ∙ ap (with_said d) S

-- ---- a gap

module _ (d : Draft') (words : List (List ℕ)) where
  pub gap-unclear : (o : Option Gap) → o ≡ None → gap_from o ≡ gap_said words → Wrong NotStatement ≡ with_said d (gap_said words)
  unfolding gap_from with_said
  gap-unclear o e S = ap (with_said d) (sym (ap gap_from e) ∙ S)

  module _ (q : Gap) (S : gap_from (Some q) ≡ gap_said words) where
    pub gap-wrong : {e : LineRejection} → Judges (gap_tests d q.a q.b q.least q.greatest) (Err e) → Wrong (fault_of e) ≡ with_said d (gap_said words)
    unfolding gap_from with_said with_statement judged
    gap-wrong K = sym (K.same (with_record d 2 (gap_record q.a q.b q.least q.greatest))) ∙ ap (with_said d) S

    pub gap-next : {u : Unit {0}} → Judges (gap_tests d q.a q.b q.least q.greatest) (Ok u)
        → (row : Row) → row ≡ gap_record q.a q.b q.least q.greatest → Next (with_record d 2 row) ≡ with_said d (gap_said words)
    unfolding gap_from with_said with_statement judged
    gap-next K row e = ap (λ (r : Row). Next (with_record d 2 r)) e ∙ sym (K.same (with_record d 2 (gap_record q.a q.b q.least q.greatest))) ∙ ap (with_said d) S

-- ---- slot counts

pub slots-unclear : (d : Draft') (words : List (List ℕ)) → None ≡ slots_from words → Wrong NotStatement ≡ with_said d (slots_said words)
unfolding slots_from slots_said with_said
slots-unclear d words e =
    test (every is_numeral words)
    (λ t. let q = rw (t, slots_from) at e in let z : ⊥ = cc in absurd z)
    (λ t. sym (rw (t, slots_said) refl))

module _ (words : List (List ℕ)) (q : Slots) (S : Some q ≡ slots_from words) where
  numerals : (every is_numeral words ≡ true) × (q ≡ slots_of (map numeral words))
  unfolding slots_from
  numerals =
      test (every is_numeral words)
      (λ t. let k = rw (t, slots_from) at S in let f : q ≡ slots_of (map numeral words) = cc in (t, f))
      (λ t. let k = rw (t, slots_from) at S in let z : ⊥ = cc in absurd z)

  pub slots-count : q.count ≡ length (map numeral words)
  unfolding slots_of
  slots-count = ap (λ (x : Slots). x.count) numerals.1

  domains : q.domains ≡ domains_of (map numeral words)
  unfolding slots_of
  domains = ap (λ (x : Slots). x.domains) numerals.1

  says : slots_said words ≡ Says (Slots' (map numeral words))
  unfolding slots_said
  says = rw (numerals.0, slots_said) refl

  pub slots-sized : (ds : List ℕ) → q.domains ≡ Some ds → (every (within 8) (map numeral words) ≡ true) × (ds ≡ map numeral words ++ replicate (12 - length (map numeral words)) 0)
  unfolding domains_of
  slots-sized ds e =
      let g : Some ds ≡ domains_of (map numeral words) = sym e ∙ domains in
      test (leb (length (map numeral words)) 12 && every (within 8) (map numeral words))
      (λ t.
      let k = rw (t, domains_of) at g in
      let f : ds ≡ map numeral words ++ replicate (12 - length (map numeral words)) 0 = cc in
      ((both (leb (length (map numeral words)) 12) (every (within 8) (map numeral words)) t).1, f))
      (λ t. let k = rw (t, domains_of) at g in let z : ⊥ = cc in absurd z)

  pub slots-odd : q.domains ≡ None → within 12 (length (map numeral words)) ≡ true → every (within 8) (map numeral words) ≡ false
  unfolding domains_of
  slots-odd e w =
      let g : None ≡ domains_of (map numeral words) = sym e ∙ domains in
      let l = le-leb (length (map numeral words)) 12 (within-true 12 (length (map numeral words)) w).1 in
      test (every (within 8) (map numeral words))
      (λ t. let k = rw (l, t, domains_of) at g in let z : ⊥ = cc in absurd z)
      (λ t. t)

  pub slots-wrong : (d : Draft') {e : LineRejection} → Judges (slots_tests d (map numeral words)) (Err e) → Wrong (fault_of e) ≡ with_said d (slots_said words)
  unfolding with_said with_statement judged
  slots-wrong d K = sym (K.same (with_slots d (map numeral words))) ∙ sym (ap (with_said d) says)

  pub slots-next : (d : Draft') {u : Unit {0}} → Judges (slots_tests d (map numeral words)) (Ok u)
      → (e : Draft') → e ≡ with_slots d (map numeral words) → Next e ≡ with_said d (slots_said words)
  unfolding with_said with_statement judged
  slots-next d K e f = ap Next f ∙ sym (K.same (with_slots d (map numeral words))) ∙ sym (ap (with_said d) says)
