-- The messages of a line as the code finds them in its ring, and as they are put.
use Rattle.std.proofs.Common.{◌≡◌, ℕ, suc, ◌+◌, ◌-◌, ◌*◌, ◌%◌, ◌≤◌, ◌<◌, true, false, List, [], ◌∷◌, ◌++◌, length, get_or, refl, sym, ap, ◌∙◌, arith, eq-eqb, eqb, codes, Bool, not, ◌&&◌}
use Rattle.model_base.specs.Finite.{within}
use Rattle.model_sheet.specs.Problem.{max_agents}
use mathlib.Core.Bool.{and-false}
use Rattle.model_base.proofs.Arrays.{get_or-below}
use Rattle.abt_packed.specs.Packed.{assignment}
use Rattle.abt_record.specs.Abstract.{is_channel, channel_at, place_of, no_place, ring, row_of, channel_of, network_of}
use Rattle.abt_record.specs.declared.Place.{Place}
use Rattle.abt_record.specs.declared.Network.{Network}
use Rattle.abt_record.proofs.Rings.{row-at, channel-is}
use Rattle.abt_board_drawing.specs.Text.{message_text, messages_behind, line_line}
use Rattle.abt_board_drawing.specs.Waiting.{waiting, others}

-- the message in the place that the code reads
pub waiting-read : (r : Network) (i j k head channel place : ℕ) (d : Place) → length r.places ≡ 1056 → 1 ≤ i
    → head ≡ assignment (get_or r.heads (i - 1) 0) j → channel ≡ channel_at i j → (place ≡ 8 * channel + (head + k) % 8) × (place < 1056)
    → place_of (get_or r.places place d) ≡ waiting r i j k
waiting-read r i j k head channel place d l h e f g =
    let t : head ≡ row_of r.heads i j = e ∙ sym (row-at r.heads i j h) in
    rw (← t, ← f, ← g.0) (ap place_of (get_or-below r.places place d no_place (omega (arith, g.1))))

-- the messages from the one k places behind the head on
abbrev pub from_place : Network → ℕ → ℕ → ℕ → ℕ → List ℕ
from_place r i j k count = messages_behind (ring r.places (8 * channel_at i j) (row_of r.heads i j + k) count)

pub all-left : (r : Network) (i j count : ℕ) → from_place r i j 1 (count - 1) ≡ messages_behind (others r i j (count - 1))
all-left r i j count = let e : row_of r.heads i j + 1 ≡ suc (row_of r.heads i j) = omega arith in rw e refl

pub next-left : (r : Network) (i j k count : ℕ) → k < count
    → from_place r i j k (count - k) ≡ (codes ", " ++ message_text (waiting r i j k)) ++ from_place r i j (k + 1) (count - (k + 1))
unfolding messages_behind ring
next-left r i j k count l =
    let e : count - k ≡ suc (count - (k + 1)) = omega arith in
    let h : row_of r.heads i j + (k + 1) ≡ suc (row_of r.heads i j + k) = omega arith in
    rw (e, ring, h) refl

pub none-left : (r : Network) (i j k count : ℕ) → count ≤ k → from_place r i j k (count - k) ≡ []
unfolding messages_behind ring
none-left r i j k count l = let e : count - k ≡ 0 = omega arith in rw (e, ring) refl

-- ---- the line

pub channel-none : (r : Network) (i j count : ℕ) → is_channel i j ≡ true → 1 ≤ i → count ≡ assignment (get_or r.counts (i - 1) 0) j → count ≡ 0
    → line_line i j ((network_of r).channel i j) ≡ []
unfolding channel_of ring line_line
channel-none r i j count c h e z =
    let n : row_of r.counts i j ≡ 0 = row-at r.counts i j h ∙ sym e ∙ z in
    rw (channel-is r i j c, n, ring) refl

pub channel-some : (r : Network) (i j count : ℕ) → is_channel i j ≡ true → 1 ≤ i → count ≡ assignment (get_or r.counts (i - 1) 0) j → 1 ≤ count
    → (network_of r).channel i j ≡ waiting r i j 0 ∷ others r i j (count - 1)
unfolding channel_of ring
channel-some r i j count c h e l =
    let n : row_of r.counts i j ≡ suc (count - 1) = row-at r.counts i j h ∙ sym e ∙ omega arith in
    let z : row_of r.heads i j + 0 ≡ row_of r.heads i j = omega arith in
    rw (channel-is r i j c, n, ring, z) refl

-- a scanner has none to itself
same-end : (i j : ℕ) → i ≡ j → is_channel i j ≡ false
unfolding is_channel
same-end i j e =
    let q : eqb i j ≡ true = eq-eqb i j e in
    let both = within max_agents i && within max_agents j in
    ap (λ (b : Bool). both && not b) q ∙ and-false both

pub own-line : (r : Network) (i j : ℕ) → i ≡ j → line_line i j ((network_of r).channel i j) ≡ []
unfolding network_of line_line
own-line r i j e = rw (same-end i j e, network_of) refl
