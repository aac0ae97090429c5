-- A message, read by its sort: each is the definition's, its left side modulo 16.
use Rattle.std.proofs.Common.{ℕ, ◌+◌, ◌*◌, ◌/◌, ◌%◌, ◌≡◌, refl, ◌≢◌, cond, List, arith, eqb, get_or, drop, eq-eqb, ne_eqb}
use Rattle.model_agent.specs.Message.{Info, Back, AddLink}
use Rattle.abt_packed.specs.Packed.{assignment}
use Rattle.model_image.specs.Reading.{slots_in, message_in}
use Rattle.abt_image_reader.specs.Narrow.{narrow_lhs, narrow_message}

module _ (s : List ℕ) where
  message-there : message_in s
      ≡ cond (eqb (get_or s 0 0) 1) (Info (get_or s 1 0)) (cond (eqb (get_or s 0 0) 2) (Back (slots_in (drop 4 s)) (get_or s 1 0)) AddLink)
  unfolding message_in
  message-there = refl

  module _ (sort value : ℕ) (e : sort ≡ get_or s 0 0) (f : value ≡ get_or s 1 0) where
    pub is-info : sort ≡ 1 → Info value ≡ narrow_message (message_in s)
    unfolding narrow_message
    is-info h = rw (message-there, ← e, ← f, eq-eqb sort 1 h)

    pub is-back : sort ≡ 2 → (digits : ℕ) → assignment digits ≡ narrow_lhs (slots_in (drop 4 s))
        → Back (assignment digits) value ≡ narrow_message (message_in s)
    unfolding narrow_message
    is-back h digits g =
        let n : sort ≢ 1 = λ q. omega arith in
        rw (message-there, ← e, ← f, ne_eqb sort 1 n, eq-eqb sort 2 h, g)

    pub is-link : sort ≢ 1 → sort ≢ 2 → AddLink ≡ narrow_message (message_in s)
    unfolding narrow_message
    is-link n m = rw (message-there, ← e, ne_eqb sort 1 n, ne_eqb sort 2 m)

-- a word of twelve digits in three words of four
pub in_three : (digits : ℕ) → digits % 65536 + 65536 * (digits / 65536 % 65536) + 4294967296 * (digits / 4294967296) ≡ digits
in_three digits = omega arith
