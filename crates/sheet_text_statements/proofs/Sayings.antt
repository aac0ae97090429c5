-- A line's statement by its words: as many as the kind wants, and each as its place wants it.
use Rattle.std.proofs.Common.{ℕ, suc, ◌+◌, ◌-◌, ◌≤◌, ◌<◌, ◌≡◌, refl, sym, ap, ◌∙◌, Bool, true, false, ◌&&◌, List, [], ◌∷◌, ◌++◌, map, append_assoc, append-nil, arith, ℤ, ltb, leb, length, set, replicate, length-append, ne_eqb, le-leb, leb-true, ltb-false, Option, Some, None}
use mathlib.Core.Bool.{and_assoc, and-false}
use mathlib.Core.List.{map-append}
use lib.Seq.{set_at}
use Rattle.model_base.specs.Finite.{within, every}
use Rattle.model_base.proofs.Tests.{test, both, to_both}
use Rattle.model_base.proofs.Lists.{every-snoc}
use Rattle.model_text.specs.Words.{is_numeral, numeral, is_place, is_signed}
use Rattle.model_text.specs.Statements.{Unclear, argument, ban_of, ban_said, gap_of, gap_said}
use Rattle.sheet_text_statements.specs.declared.numbers.Place.{Place}
use Rattle.sheet_text_statements.specs.declared.Ban.{Ban}
use Rattle.sheet_text_statements.specs.declared.Gap.{Gap}
use Rattle.sheet_text_statements.specs.declared.Slots.{Slots}
use Rattle.sheet_text_statements.specs.Parts.{numeral_in, place_in, signed_in, words_in}
use Rattle.sheet_text_statements.specs.Saying.{ban_from, gap_from, domains_of, slots_of, slots_from}
use Rattle.sheet_text_statements.proofs.Numerals.{numeral-none, numeral-some}
use Rattle.sheet_text_statements.proofs.Places.{place-none, place-some, signed-none, signed-some}

no_rest : (words : List (List ℕ)) → ltb 0 (length words) ≡ false → words ≡ []
no_rest [] e = refl
no_rest (w ∷ ws) e = absurd (omega (arith, ltb-false 0 (length (w ∷ ws)) e))

pub words-two : {words r s : List (List ℕ)} {u v : List ℕ} → words ≡ u ∷ r → r ≡ v ∷ s → ltb 0 (length s) ≡ false → words ≡ u ∷ v ∷ []
words-two {words} {r} {s} {u} {v} a b z = a ∙ ap (λ (x : List (List ℕ)). u ∷ x) (b ∙ ap (λ (x : List (List ℕ)). v ∷ x) (no_rest s z))

pub words-four : {words r s t l : List (List ℕ)} {a b c d : List ℕ} → words ≡ a ∷ r → r ≡ b ∷ s → s ≡ c ∷ t → t ≡ d ∷ l
    → ltb 0 (length l) ≡ false → words ≡ a ∷ b ∷ c ∷ d ∷ []
words-four {words} {r} {s} {t} {l} {a} {b} {c} {d} p q x y z =
    p ∙ ap (λ (w : List (List ℕ)). a ∷ w) (q ∙ ap (λ (w : List (List ℕ)). b ∷ w) (words-two x y z))

-- ---- a ban

pub ban-count : (words : List (List ℕ)) → (length words ≡ 2 → ⊥) → Unclear ≡ ban_said words
unfolding ban_said
ban-count words n = sym (rw (ne_eqb (length words) 2 n, ban_said) refl)

module _ (words : List (List ℕ)) (u v : List ℕ) (e : words ≡ u ∷ v ∷ []) where
  pub ban-first : None ≡ place_in u → Unclear ≡ ban_said words
  unfolding ban_said argument
  ban-first n = sym (rw (e, place-none u n, ban_said) refl)

  pub ban-second : None ≡ place_in v → Unclear ≡ ban_said words
  unfolding ban_said argument
  ban-second n = sym (rw (e, place-none v n, and-false (is_place u), ban_said) refl)

  pub ban-said : (p q : Place) → Some p ≡ place_in u → Some q ≡ place_in v → (r : Ban)
      → r.a ≡ p.agent → r.s ≡ p.value → r.b ≡ q.agent → r.t ≡ q.value → ban_from (Some r) ≡ ban_said words
  unfolding ban_from ban_said ban_of argument
  ban-said p q x y r a s b t =
      let P = place-some u p x in
      let Q = place-some v q y in
      let h : ban_from (Some r) ≡ ban_said (u ∷ v ∷ []) = rw (P.0, Q.0, ban_said, a ∙ P.1, s ∙ P.2, b ∙ Q.1, t ∙ Q.2) refl in
      h ∙ sym (ap ban_said e)

-- ---- a gap

pub gap-count : (words : List (List ℕ)) → (length words ≡ 4 → ⊥) → Unclear ≡ gap_said words
unfolding gap_said
gap-count words n = sym (rw (ne_eqb (length words) 4 n, gap_said) refl)

module _ (words : List (List ℕ)) (a b l g : List ℕ) (e : words ≡ a ∷ b ∷ l ∷ g ∷ []) where
  pub gap-a : None ≡ numeral_in a → Unclear ≡ gap_said words
  unfolding gap_said argument
  gap-a n = sym (rw (e, numeral-none a n, gap_said) refl)

  pub gap-b : None ≡ numeral_in b → Unclear ≡ gap_said words
  unfolding gap_said argument
  gap-b n = sym (rw (e, numeral-none b n, and-false (is_numeral a), gap_said) refl)

  pub gap-least : None ≡ signed_in l → Unclear ≡ gap_said words
  unfolding gap_said argument
  gap-least n = sym (rw (e, signed-none l n, and-false (is_numeral a && is_numeral b), gap_said) refl)

  pub gap-greatest : None ≡ signed_in g → Unclear ≡ gap_said words
  unfolding gap_said argument
  gap-greatest n = sym (rw (e, signed-none g n, and-false ((is_numeral a && is_numeral b) && is_signed l), gap_said) refl)

  pub gap-said : (r : Gap) → Some r.a ≡ numeral_in a → Some r.b ≡ numeral_in b
      → (least greatest : ℤ) → Some least ≡ signed_in l → Some greatest ≡ signed_in g → r.least ≡ least → r.greatest ≡ greatest
      → gap_from (Some r) ≡ gap_said words
  unfolding gap_from gap_said gap_of argument
  gap-said r x y least greatest u v p q =
      let A = numeral-some a r.a x in
      let B = numeral-some b r.b y in
      let L = signed-some l least u in
      let G = signed-some g greatest v in
      let h : gap_from (Some r) ≡ gap_said (a ∷ b ∷ l ∷ g ∷ []) = rw (A.0, B.0, L.0, G.0, gap_said, A.1, B.1, p ∙ L.1, q ∙ G.1) refl in
      h ∙ sym (ap gap_said e)

-- ---- slot counts

right : List ℕ → Bool
right counts = leb (length counts) 12 && every (within 8) counts

wrong-none : (counts : List ℕ) → right counts ≡ false → None ≡ domains_of counts
unfolding right domains_of
wrong-none counts e = sym (rw (e, domains_of) refl)

right-some : (counts domains : List ℕ) → Some domains ≡ domains_of counts → (right counts ≡ true) × (domains ≡ counts ++ replicate (12 - length counts) 0)
unfolding right domains_of
right-some counts domains e =
    test (right counts)
    (λ t. let q = rw (t, domains_of) at e in let f : domains ≡ counts ++ replicate (12 - length counts) 0 = cc in (t, f))
    (λ t. let q = rw (t, domains_of) at e in let z : ⊥ = cc in absurd z)

none-wrong : (counts : List ℕ) → None ≡ domains_of counts → right counts ≡ false
unfolding right domains_of
none-wrong counts e =
    test (right counts)
    (λ t. let q = rw (t, domains_of) at e in let z : ⊥ = cc in absurd z)
    (λ t. t)

module _ (counts : List ℕ) (value : ℕ) where
  longer : length (counts ++ (value ∷ [])) ≡ length counts + 1
  longer = omega (arith, length-append counts (value ∷ []))

  right-before : right (counts ++ (value ∷ [])) ≡ true → (right counts ≡ true) × (length counts < 12) × (within 8 value ≡ true)
  unfolding right
  right-before t =
      let h = both (leb (length (counts ++ (value ∷ []))) 12) (every (within 8) (counts ++ (value ∷ []))) t in
      let k = both (every (within 8) counts) (within 8 value) (sym (every-snoc (within 8) counts value) ∙ h.1) in
      let l : length counts < 12 = omega (arith, longer, leb-true (length (counts ++ (value ∷ []))) 12 h.0) in
      (to_both (leb (length counts) 12) (every (within 8) counts) (le-leb (length counts) 12 (omega arith)) k.0, l, k.1)

  pub domains-still : None ≡ domains_of counts → None ≡ domains_of (counts ++ (value ∷ []))
  domains-still n =
      test (right (counts ++ (value ∷ [])))
      (λ t. let a = (right-before t).0 in let b = none-wrong counts n in let z : true ≡ false = sym a ∙ b in let y : ⊥ = cc in absurd y)
      (λ t. wrong-none (counts ++ (value ∷ [])) t)

  pub domains-many : 12 ≤ length counts → None ≡ domains_of (counts ++ (value ∷ []))
  domains-many l =
      test (right (counts ++ (value ∷ [])))
      (λ t. absurd (omega (arith, (right-before t).1)))
      (λ t. wrong-none (counts ++ (value ∷ [])) t)

  pub domains-wrong : within 8 value ≡ false → None ≡ domains_of (counts ++ (value ∷ []))
  domains-wrong w =
      test (right (counts ++ (value ∷ [])))
      (λ t. let z : true ≡ false = sym (right-before t).2 ∙ w in let y : ⊥ = cc in absurd y)
      (λ t. wrong-none (counts ++ (value ∷ [])) t)

  pub domains-one : (domains : List ℕ) → Some domains ≡ domains_of counts → length counts < 12 → within 8 value ≡ true
      → Some (set domains (length counts) value) ≡ domains_of (counts ++ (value ∷ []))
  unfolding domains_of right
  domains-one domains d l w =
      let R = right-some counts domains d in
      let k = both (leb (length counts) 12) (every (within 8) counts) R.0 in
      let all : every (within 8) (counts ++ (value ∷ [])) ≡ true = every-snoc (within 8) counts value ∙ rw (k.1, w) refl in
      let few : leb (length (counts ++ (value ∷ []))) 12 ≡ true = le-leb (length (counts ++ (value ∷ []))) 12 (omega (arith, longer)) in
      let n : 12 - length counts ≡ suc (12 - length (counts ++ (value ∷ []))) = omega (arith, longer) in
      let old : domains ≡ counts ++ 0 ∷ replicate (12 - length (counts ++ (value ∷ []))) 0 = R.1 ∙ rw n refl in
      sym (rw (few, all, domains_of)
      (ap Some (sym (rw old (set_at counts 0 (replicate (12 - length (counts ++ (value ∷ []))) 0) value (length counts) refl)
      ∙ sym (append_assoc counts (value ∷ []) (replicate (12 - length (counts ++ (value ∷ []))) 0))))))

pub slots_none : record { count = 0; domains = Some (replicate 12 0) } ≡ slots_of []
unfolding slots_of domains_of every
slots_none = refl

module _ (q : Slots) (counts : List ℕ) (e : q ≡ slots_of counts) where
  pub counts-in : q.count ≡ length counts
  unfolding slots_of
  counts-in = ap (λ (x : Slots). x.count) e

  pub domains-in : q.domains ≡ domains_of counts
  unfolding slots_of
  domains-in = ap (λ (x : Slots). x.domains) e

  pub counted : (value : ℕ) (domains : Option (List ℕ)) → domains ≡ domains_of (counts ++ (value ∷ []))
      → record { count = q.count + 1; domains = domains } ≡ slots_of (counts ++ (value ∷ []))
  unfolding slots_of
  counted value domains d =
      let n : q.count + 1 ≡ length (counts ++ (value ∷ [])) = omega (arith, counts-in, length-append counts (value ∷ [])) in
      rw (n, d) refl

-- ---- count by count

pub record Slotted (s : List ℕ) (q : Slots) (rest : List ℕ) : Type 0 where
  pub done : List (List ℕ)
  pub whole : words_in s ≡ done ++ words_in rest
  pub numerals : every is_numeral done ≡ true
  pub counts : q ≡ slots_of (map numeral done)
  pub few : q.count + length rest ≤ length s

pub slotted-none : (s : List ℕ) (q : Slots) → q ≡ slots_of [] → Slotted s q s
unfolding every slots_of
slotted-none s q e =
    record { done = []; whole = refl; numerals = refl; counts = e; few = omega (arith, ap (λ (x : Slots). x.count) e) }

every_append : (p : List ℕ → Bool) (xs ys : List (List ℕ)) → every p (xs ++ ys) ≡ every p xs && every p ys
unfolding every
every_append p [] ys = refl
every_append p (x ∷ xs) ys = rw (every_append p xs ys) (sym (and_assoc (p x) (every p xs) (every p ys)))

module _ (s : List ℕ) (q : Slots) (rest word behind : List ℕ) (S : Slotted s q rest) (w : words_in rest ≡ word ∷ words_in behind) where
  here : words_in s ≡ S.done ++ (word ∷ words_in behind)
  here = S.whole ∙ ap (λ (r : List (List ℕ)). S.done ++ r) w

  pub no-count : None ≡ numeral_in word → None ≡ slots_from (words_in s)
  unfolding every slots_from
  no-count n =
      let f : every is_numeral (words_in s) ≡ false =
      ap (every is_numeral) here ∙ every_append is_numeral S.done (word ∷ words_in behind)
      ∙ rw (S.numerals, numeral-none word n) refl in
      sym (rw (f, slots_from) refl)

  pub slotted-one : (value : ℕ) → Some value ≡ numeral_in word → length behind < length rest → (r : Slots)
      → ((counts : List ℕ) → q ≡ slots_of counts → r ≡ slots_of (counts ++ (value ∷ []))) → Slotted s r behind
  unfolding every slots_of
  slotted-one value n l r c =
      let N = numeral-some word value n in
      let more : map numeral (S.done ++ (word ∷ [])) ≡ map numeral S.done ++ (value ∷ []) =
      map-append numeral S.done (word ∷ []) ∙ ap (λ (k : ℕ). map numeral S.done ++ (k ∷ [])) (sym N.1) in
      let C = c (map numeral S.done) S.counts in
      record {
        done = S.done ++ (word ∷ []);
        whole = here ∙ sym (append_assoc S.done (word ∷ []) (words_in behind));
        numerals = every-snoc is_numeral S.done word ∙ rw (S.numerals, N.0) refl;
        counts = C ∙ ap slots_of (sym more);
        few = omega (arith, S.few, l, ap (λ (x : Slots). x.count) S.counts, ap (λ (x : Slots). x.count) C, length-append (map numeral S.done) (value ∷ []));
      }

pub slotted-all : (s : List ℕ) (q : Slots) (rest : List ℕ) → Slotted s q rest → words_in rest ≡ [] → Some q ≡ slots_from (words_in s)
unfolding slots_from
slotted-all s q rest S e =
    let d : words_in s ≡ S.done = S.whole ∙ rw e (append-nil S.done) in
    let h : slots_from S.done ≡ Some q = rw (S.numerals, slots_from) (ap Some (sym S.counts)) in
    sym (ap slots_from d ∙ h)
