-- The number of a round, by how many it delivered: 10 where it delivered nothing, else 0; and the word. A single delivery is a round of its own.
use Rattle.std.proofs.Common.{ℕ, zero, suc, ◌+◌, Bool, true, false, not, cond, ◌&&◌, ◌≡◌, refl, ◌≢◌, arith, eqb, ne_eqb}
use Rattle.model_network.specs.Network.{Network}
use Rattle.model_network.specs.Delivery.{rejection_number, answer_number, Delivery}
use Rattle.model_network.specs.Run.{Unsolvable, Plan, Jammed, Open, counts}
use Rattle.abt_engine.specs.Working.{ends_by}
use Rattle.theorems_shape.proofs.RunFaults.{Tried, turned, taken}

unfoldable pub round_number : ℕ → ℕ
round_number zero = 10
round_number (suc d) = 0

pub round-not-five : (d : ℕ) → round_number d ≢ 5
unfolding round_number
round-not-five zero e = omega arith
round-not-five (suc d) e = omega arith

-- as the code has it, which knows whether nothing was delivered
pub stuck-number : (d : ℕ) (b : Bool) → b ≡ eqb d 0 → cond b 10 0 ≡ round_number d
unfolding round_number
stuck-number zero b e = rw e
stuck-number (suc d) b e = rw (e, ne_eqb (suc d) 0 (λ e. absurd (omega arith)))

-- ---- the word

-- of a run, by whether its last round was stuck
pub word_is : (unsolvable idle jammed : Bool)
    → ends_by false unsolvable idle (cond jammed 10 0) ≡ cond unsolvable Unsolvable (cond idle Plan (cond jammed Jammed Open))
unfolding ends_by rejection_number
word_is true _ true = refl
word_is true _ false = refl
word_is false true true = refl
word_is false true false = refl
word_is false false true = refl
word_is false false false = refl

-- a single delivery on a network in shape ends as no round, whatever it is refused with
pub word-once : (unsolvable idle : Bool) (number : ℕ) → number ≢ 5 → ends_by true unsolvable idle number ≡ ends_by false unsolvable idle 0
unfolding ends_by rejection_number
word-once unsolvable idle number n = rw (ne_eqb number 5 n, ends_by)

-- ---- what a stop answers, as the code tests it: a stuck delivery is refused with 10, a stuck run is jammed

pub told-ten : {once stuck : Bool} → once ≡ true → stuck ≡ true → ◌≡◌ {A = ℕ} 10 (cond (once && stuck) 10 0)
told-ten e f = rw (e, f) refl

pub told-goes : (once : Bool) {stuck : Bool} → stuck ≡ false → ◌≡◌ {A = ℕ} 0 (cond (once && stuck) 10 0)
told-goes true f = rw f refl
told-goes false f = refl

pub told-run : {once : Bool} (stuck : Bool) → once ≡ false → ◌≡◌ {A = ℕ} 0 (cond (once && stuck) 10 0)
told-run stuck e = rw e refl

pub told-not-five : (b : Bool) {k : ℕ} → k ≡ cond b 10 0 → k ≢ 5
told-not-five true e f = omega arith
told-not-five false e f = omega arith

pub jams-run : {once : Bool} (stuck : Bool) → once ≡ false → stuck ≡ not once && stuck
jams-run stuck e = rw e refl

pub jams-never : {once : Bool} (stuck : Bool) → once ≡ true → not once ≡ not once && stuck
jams-never stuck e = rw e refl

-- a single delivery that finds a message
pub one_number : (w : Network) (i j : ℕ) (d : Delivery) → Tried w i j d → round_number (0 + counts d.answer) ≡ answer_number d.answer
unfolding round_number counts answer_number rejection_number
one_number w i j d (turned a e) = rw a
one_number w i j d (taken m others h a e) = rw a
