-- Reading a number, digit by digit: what is read so far, with the digits left, says the same number. A number only grows with its digits, so
-- one that has come to the top stays there.
use Rattle.std.proofs.Common.{◌≡◌, sym, ap, ◌∙◌, true, false, ◌&&◌, List, [], ◌∷◌, min, ℕ, ◌+◌, ◌*◌, ◌-◌, ◌^◌, ◌≤◌, ◌<◌, arith, add-one, ltb, leb, length, get_or, drop, drop-cons, le-leb, lt-ltb, leb-true, ltb-true, ltb-false, Some, None}
use lib.Seq.{drop-length}
use borrow.Author.Tests.{lt-leb}
use Rattle.model_base.specs.Finite.{every}
use Rattle.model_base.proofs.Tests.{test}
use Rattle.model_base.specs.Numerals.{is_digit, value_from, top, capped, is_number, number_in}

-- ---- what is a number

pub no-digits : (s : List ℕ) → length s ≡ 0 → number_in s ≡ None
unfolding number_in is_number
no-digits s e = rw (e, number_in)

pub not-digits : (s : List ℕ) → every is_digit s ≡ false → number_in s ≡ None
unfolding number_in is_number
not-digits s e = test (ltb 0 (length s)) (λ t. rw (t, e, number_in)) (λ t. rw (t, number_in))

pub is-number : (s : List ℕ) → 0 < length s → every is_digit s ≡ true → number_in s ≡ Some (capped (value_from 0 s))
unfolding number_in is_number
is-number s l d = rw (lt-ltb 0 (length s) l, d, number_in)

pub value_grows : (v : ℕ) (s : List ℕ) → v ≤ value_from v s
unfolding value_from
value_grows v [] = omega arith
value_grows v (b ∷ s) = omega (arith, value_grows (10 * v + (b - 48)) s)

-- ---- the top

pub capped-low : (k : ℕ) → k < 2 ^ 64 → capped k ≡ k
unfolding capped top
capped-low k h = rw (le-leb k (2 ^ 64 - 1) (omega arith), capped)

pub capped-high : (k : ℕ) → 2 ^ 64 - 1 ≤ k → capped k ≡ 2 ^ 64 - 1
unfolding capped top
capped-high k h =
    test (leb k (2 ^ 64 - 1))
    (λ t. rw (t, capped) (omega (arith, leb-true k (2 ^ 64 - 1) t)))
    (λ t. rw (t, capped))

pub capped-least : (k : ℕ) → capped k ≡ min k (2 ^ 64 - 1)
capped-least k =
    test (ltb k (2 ^ 64))
    (λ t. let h = ltb-true k (2 ^ 64) t in omega (arith, capped-low k h))
    (λ t. let h = ltb-false k (2 ^ 64) t in omega (arith, capped-high k (omega arith)))

capped_fits : (k : ℕ) → capped k < 2 ^ 64
capped_fits k =
    test (ltb k (2 ^ 64))
    (λ t. let h = ltb-true k (2 ^ 64) t in rw (capped-low k h) h)
    (λ t. let h = ltb-false k (2 ^ 64) t in rw (capped-high k (omega arith)) (omega arith))

-- digits behind a number that is capped say the same as behind the number
capped-on : (v : ℕ) (s : List ℕ) → capped (value_from (capped v) s) ≡ capped (value_from v s)
capped-on v s =
    test (ltb v (2 ^ 64))
    (λ t. ap (λ (k : ℕ). capped (value_from k s)) (capped-low v (ltb-true v (2 ^ 64) t)))
    (λ t.
    let h = ltb-false v (2 ^ 64) t in
    ap (λ (k : ℕ). capped (value_from k s)) (capped-high v (omega arith))
    ∙ capped-high (value_from (2 ^ 64 - 1) s) (value_grows (2 ^ 64 - 1) s)
    ∙ sym (capped-high (value_from v s) (omega (arith, value_grows v s))))

-- ---- the digits so far

pub record Reading (s : List ℕ) (value i : ℕ) : Type 0 where
  pub few : i ≤ length s
  pub some : 0 < length s
  pub small : value < 2 ^ 64
  pub says : capped (value_from 0 s) ≡ capped (value_from value (drop i s))
  pub digits : every is_digit s ≡ every is_digit (drop i s)

module _ (s : List ℕ) (value i : ℕ) (R : Reading s value i) (l : i < length s) where
  next : drop i s ≡ get_or s i 0 ∷ drop (i + 1) s
  next = rw add-one (drop-cons s i 0 l)

  digits-next : every is_digit s ≡ is_digit (get_or s i 0) && every is_digit (drop (i + 1) s)
  unfolding every
  digits-next = R.digits ∙ ap (every is_digit) next

  value-next : capped (value_from 0 s) ≡ capped (value_from (10 * value + (get_or s i 0 - 48)) (drop (i + 1) s))
  unfolding value_from
  value-next = R.says ∙ ap (λ (l : List ℕ). capped (value_from value l)) next

  pub low_byte : get_or s i 0 < 48 → number_in s ≡ None
  unfolding is_digit
  low_byte h = not-digits s (digits-next ∙ rw (lt-leb 48 (get_or s i 0) h))

  pub high_byte : 48 ≤ get_or s i 0 → 57 < get_or s i 0 → number_in s ≡ None
  unfolding is_digit
  high_byte k h = not-digits s (digits-next ∙ rw (le-leb 48 (get_or s i 0) k, lt-leb (get_or s i 0) 57 h))

  pub reading-goes : 48 ≤ get_or s i 0 → get_or s i 0 ≤ 57 → (new : ℕ) → new ≡ capped (10 * value + (get_or s i 0 - 48)) → Reading s new (i + 1)
  unfolding is_digit
  reading-goes k h new e =
      record {
        few = omega arith;
        some = R.some;
        small = rw e (capped_fits (10 * value + (get_or s i 0 - 48)));
        says = rw e (value-next ∙ sym (capped-on (10 * value + (get_or s i 0 - 48)) (drop (i + 1) s)));
        digits = digits-next ∙ rw (le-leb 48 (get_or s i 0) k, le-leb (get_or s i 0) 57 h);
      }

pub reading-ends : (s : List ℕ) (value i : ℕ) → Reading s value i → length s ≤ i → Some value ≡ number_in s
unfolding every value_from
reading-ends s value i R l =
    let e : i ≡ length s = omega (arith, R.few) in
    let none : drop i s ≡ [] = rw e (drop-length s) in
    let v : capped (value_from 0 s) ≡ value = R.says ∙ ap (λ (l : List ℕ). capped (value_from value l)) none ∙ capped-low value R.small in
    sym (is-number s R.some (R.digits ∙ ap (every is_digit) none) ∙ ap Some v)
