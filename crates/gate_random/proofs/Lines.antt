-- The lines by their numbers: their ends, what waits on them, and a search that goes round them all.
use mathlib.Core.Bool.{and-false}
use Rattle.std.proofs.Common.{Option, Some, None, ℕ, zero, suc, ◌+◌, ◌-◌, ◌/◌, ◌%◌, ◌≤◌, ◌<◌, ◌≡◌, refl, sym, ap, ◌∙◌, Bool, true, not, ◌&&◌, false, List, arith, leb, ltb, eqb, get_or, ltb-true, ltb-false, leb-true, leb-false, eq-eqb, ne_eqb}
use Rattle.std.specs.Option.{is_some}
use Rattle.model_base.specs.Finite.{within}
use Rattle.model_base.proofs.Tests.{test, eq_test, not-not, both, within-true}
use Rattle.model_network.specs.Lines.{is_channel, channel_at}
use Rattle.abt_packed.specs.Packed.{assignment}
use Rattle.abt_shape.proofs.Numbering.{channel-below, ends_low, ends-high}
use Rattle.abt_shape.proofs.Columns.{channel-one}
use Rattle.gate_random.specs.Lines.{sender_of, receiver_of, held_on, rests_below, rests_on, Waiting}

-- ---- the ends of a line

-- its sender and its receiver have a channel, and its number is the line's
line-ends : (line : ℕ) → line < 132 → (is_channel (sender_of line) (receiver_of line) ≡ true) × (channel_at (sender_of line) (receiver_of line) ≡ line)
unfolding sender_of receiver_of
line-ends line l =
    test (ltb (line % 11 + 1) (line / 11 + 1))
    (λ t. rw t (ends_low line l (ltb-true (line % 11 + 1) (line / 11 + 1) t)))
    (λ t. rw t (ends-high line l (ltb-false (line % 11 + 1) (line / 11 + 1) t)))

-- the ends of a line are none of them 0
pub line_low : (n i j : ℕ) (b : Bool) → b ≡ within n i && within n j && not (eqb i j) → b ≡ true → (1 ≤ i) × (1 ≤ j)
line_low n i j b e t =
    let w = both (within n i) (within n j) (both (within n i && within n j) (not (eqb i j)) (sym e ∙ t)).0 in
    ((within-true n i w.0).0, (within-true n j w.1).0)

-- ---- what waits on a line, by its ends

pub held_by : (counts : List ℕ) (line from to n : ℕ) → is_channel from to ≡ true → channel_at from to ≡ line
    → n ≡ assignment (get_or counts (from - 1) 0) to → n ≡ held_on counts line
unfolding held_on
held_by counts line from to n h e w =
    let its = line-ends line (rw e at (channel-below from to h)) in
    let ends = channel-one from to (sender_of line) (receiver_of line) h its.0 (e ∙ sym its.1) in
    rw (← ends.0, ← ends.1) w

-- ---- round all lines

pub none-met : (counts : List ℕ) (from : ℕ) → ((q : ℕ) → q < 132 → held_on counts ((from % 132 + q) % 132) ≡ 0) → Waiting counts None
none-met counts from h k l =
    test (leb (from % 132) k)
    (λ e.
    let u = leb-true (from % 132) k e in
    let q : (from % 132 + (k - from % 132)) % 132 ≡ k = omega arith in
    rw q at (h (k - from % 132) (omega arith)))
    (λ e.
    let u = leb-false (from % 132) k e in
    let q : (from % 132 + (k + 132 - from % 132)) % 132 ≡ k = omega arith in
    rw q at (h (k + 132 - from % 132) (omega arith)))

-- ---- at rest

rests-all : (n : ℕ) (counts : List ℕ) → ((k : ℕ) → k < n → held_on counts k ≡ 0) → rests_below n counts ≡ true
unfolding rests_below
rests-all zero counts h = refl
rests-all (suc n) counts h =
    rw (eq-eqb (held_on counts n) 0 (h n (omega arith))) (rests-all n counts (λ k l. h k (omega (arith, l))))

rests-not : (n : ℕ) (counts : List ℕ) (k : ℕ) → k < n → (held_on counts k ≡ 0 → ⊥) → rests_below n counts ≡ false
unfolding rests_below
rests-not zero counts k l h = absurd (omega arith)
rests-not (suc n) counts k l h =
    eq_test k n
    (λ e. rw (ne_eqb (held_on counts n) 0 (rw e at h)))
    (λ e. rw (rests-not n counts k (omega (arith, e)) h, and-false))

pub at_rest : (counts : List ℕ) (found : Option ℕ) (none : Bool) → Waiting counts found → is_some found ≡ not none → none ≡ rests_on counts
unfolding rests_on
at_rest counts (Some line) b w h = sym (not-not b) ∙ ap not (sym h) ∙ sym (rests-not 132 counts line w.0 w.1)
at_rest counts None b w h = sym (not-not b) ∙ ap not (sym h) ∙ sym (rests-all 132 counts w)
