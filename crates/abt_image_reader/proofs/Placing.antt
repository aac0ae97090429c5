-- The messages put into the rings: line k has its own at the places from 8k on.
-- With the places below p filled, each message that stands there is the definition's.
use Rattle.std.proofs.Common.{ℕ, ◌+◌, ◌*◌, ◌/◌, ◌%◌, ◌≤◌, ◌<◌, ◌≡◌, List, arith, length, get_or, set, drop, get_or-set_same, get_or-set_other}
use Rattle.model_base.proofs.Tests.{eq_test}
use Rattle.abt_record.specs.declared.Place.{Place}
use Rattle.abt_record.specs.Abstract.{place_of, no_place}
use Rattle.model_image.specs.Reading.{message_in}
use Rattle.abt_image_reader.specs.declared.lines.Line.{Line}
use Rattle.abt_image_reader.specs.Narrow.{narrow_message}
use Rattle.abt_image_reader.specs.Layout.{empty_line}

module _ (s : List ℕ) (lines : List Line) where
  abbrev pub Placed : List Place → ℕ → Type 0
  Placed places p =
      (k q : ℕ) → q < 8 → 8 * k + q < p → q < (get_or lines k empty_line).count
      → place_of (get_or places (8 * k + q) no_place) ≡ narrow_message (message_in (drop ((get_or lines k empty_line).start + 16 * q) s))

  module _ (places : List Place) (p : ℕ) (new : List Place) (done : Placed places p) where
    pub one_placed : (a : Place) → p < length places → place_of a ≡ narrow_message (message_in (drop ((get_or lines (p / 8) empty_line).start + 16 * (p % 8)) s))
        → new ≡ set places p a → Placed new (p + 1)
    one_placed a long e f k q u h l =
        rw f
        (eq_test (8 * k + q) p
        (λ g.
        let x : p / 8 ≡ k = omega arith in
        let y : p % 8 ≡ q = omega arith in
        rw (g, get_or-set_same places p a no_place long) (rw (x, y) at e))
        (λ n. rw (get_or-set_other places p (8 * k + q) a no_place n) (done k q u (omega (arith, n)) l)))

    -- no message belongs there
    pub none_more : (get_or lines (p / 8) empty_line).count ≤ p % 8 → new ≡ places → Placed new (p + 1)
    none_more none f k q u h l =
        rw f
        (eq_test (8 * k + q) p
        (λ g.
        let x : p / 8 ≡ k = omega arith in
        let y : p % 8 ≡ q = omega arith in
        absurd (let z : (get_or lines k empty_line).count ≤ q = rw (x, y) at none in omega arith))
        (λ n. done k q u (omega (arith, n)) l))
