-- A number in decimal is read back: it is digits, at least one, and they say it.
-- By induction on how many digits are allowed; the last one is split off.
use Rattle.std.proofs.Common.{ℕ, zero, suc, ◌+◌, ◌*◌, ◌-◌, ◌/◌, ◌%◌, ◌≤◌, ◌<◌, ◌≡◌, refl, ◌∙◌, true, List, [], ◌∷◌, ◌++◌, arith, ltb, length, length-append, le-leb, lt-ltb, ltb-true, ltb-false}
use Rattle.model_base.specs.Finite.{every}
use Rattle.model_base.proofs.Tests.{test, to_both}
use Rattle.model_base.proofs.Lists.{every-snoc}
use Rattle.model_base.specs.Numerals.{is_digit, value_from, top, is_number}
use Rattle.model_base.specs.Decimal.{last_decimals, decimal}
use Rattle.model_text.specs.Words.{is_numeral, numeral}

value-snoc : (v : ℕ) (l : List ℕ) (b : ℕ) → value_from v (l ++ (b ∷ [])) ≡ 10 * value_from v l + (b - 48)
unfolding value_from
value-snoc v [] b = refl
value-snoc v (c ∷ l) b = value-snoc (10 * v + (c - 48)) l b

digit : (k : ℕ) → k < 10 → is_digit (48 + k) ≡ true
unfolding is_digit
digit k h = rw (le-leb 48 (48 + k) (omega arith), le-leb (48 + k) 57 (omega arith))

pub record Says (l : List ℕ) (n : ℕ) : Type 0 where
  pub digits : every is_digit l ≡ true
  pub some : 1 ≤ length l
  pub value : value_from 0 l ≡ n

last_digits : (most n : ℕ) → n < most → Says (last_decimals most n) n
unfolding last_decimals every value_from
last_digits zero n h = absurd (omega arith)
last_digits (suc most) n h =
    test (ltb n 10)
    (λ t.
    rw (t, last_decimals)
    (record { digits = to_both _ _ (digit n (ltb-true n 10 t)) refl; some = omega arith; value = omega arith }))
    (λ t. rw (t, last_decimals) (longer (last_digits most (n / 10) (omega (arith, ltb-false n 10 t)))))
  where
    longer : Says (last_decimals most (n / 10)) (n / 10) → Says (last_decimals most (n / 10) ++ ((48 + n % 10) ∷ [])) n
    longer r =
        record {
          digits = every-snoc is_digit (last_decimals most (n / 10)) (48 + n % 10) ∙ to_both _ _ r.digits (digit (n % 10) (omega arith));
          some = rw length-append (omega arith);
          value = value-snoc 0 (last_decimals most (n / 10)) (48 + n % 10) ∙ rw r.value (omega arith);
        }

pub decimal-says : (n : ℕ) → Says (decimal n) n
unfolding decimal
decimal-says n = last_digits (suc n) n (omega arith)

pub decimal-numeral : (n : ℕ) → n ≤ 255 → is_numeral (decimal n) ≡ true
unfolding is_numeral is_number top
decimal-numeral n h =
    let d = decimal-says n in
    rw d.value (to_both _ _ (to_both _ _ (lt-ltb 0 (length (decimal n)) d.some) d.digits) (le-leb n _ (omega arith)))

pub decimal-value : (n : ℕ) → numeral (decimal n) ≡ n
unfolding numeral
decimal-value n = (decimal-says n).value

-- ---- how long it is

pub one-digit : (n : ℕ) → n < 10 → length (decimal n) ≡ 1
unfolding decimal last_decimals
one-digit n h = rw (lt-ltb n 10 h, last_decimals)

pub two_digits : (n : ℕ) → n < 100 → length (decimal n) ≤ 2
unfolding decimal last_decimals
two_digits n h =
    test (ltb n 10)
    (λ t. omega (arith, one-digit n (ltb-true n 10 t)))
    (λ t. rw (t, last_decimals, length-append) (omega (arith, few n h (ltb-false n 10 t))))
  where
    few : (n : ℕ) → n < 100 → 10 ≤ n → length (last_decimals n (n / 10)) ≤ 1
    few zero h l = absurd (omega arith)
    few (suc m) h l = rw (lt-ltb (suc m / 10) 10 (omega arith), last_decimals) (omega arith)
