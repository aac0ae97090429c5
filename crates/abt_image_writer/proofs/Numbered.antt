-- The lines by number are all lines in their order, and each has the channel of its number.
-- The order by computation; the channel's number from the two ends, the receiver before or past the sender.
use Rattle.std.proofs.Common.{ℕ, suc, ◌+◌, ◌-◌, ◌*◌, ◌%◌, ◌≤◌, ◌<◌, ◌≡◌, refl, sym, ap, ◌∙◌, true, [], ◌∷◌, arith, leb, length, leb-true, leb-false}
use Rattle.model_base.specs.Finite.{gather}
use Rattle.model_base.proofs.Tests.{test}
use Rattle.model_sheet.specs.Problem.{max_agents}
use Rattle.model_network.specs.Network.{Network as Network'}
use Rattle.abt_record.specs.declared.Network.{Network}
use Rattle.abt_record.specs.Abstract.{is_channel, channel_at, ring, row_of, channel_of, network_of}
use Rattle.abt_shape.proofs.Numbering.{to-channel, channel-up, channel-down}
use Rattle.abt_record.proofs.Rings.{ring-length, channel-is}
use Rattle.model_image.specs.Image.{all_lines}
use Rattle.model_image.proofs.Lengths.{total}
use Rattle.abt_image_writer.specs.Lines.{sender_of, receiver_of, line_at, lines_from}

-- ---- the ends of a line

pub record Ends (line : ℕ) : Type 0 where
  pub from_low : 1 ≤ sender_of line
  pub from-high : sender_of line ≤ 12
  pub to_low : 1 ≤ receiver_of line
  pub to_high : receiver_of line ≤ 12
  pub channel : is_channel (sender_of line) (receiver_of line) ≡ true
  pub number : channel_at (sender_of line) (receiver_of line) ≡ line

pub receiver-past : (line : ℕ) → sender_of line ≤ 1 + line % 11 → receiver_of line ≡ line % 11 + 2
unfolding receiver_of
receiver-past line h = test (leb (sender_of line) (1 + line % 11)) (λ e. rw e (omega arith)) (λ e. absurd (omega (arith, leb-false (sender_of line) (1 + line % 11) e)))

pub receiver-before : (line : ℕ) → 1 + line % 11 < sender_of line → receiver_of line ≡ line % 11 + 1
unfolding receiver_of
receiver-before line h = test (leb (sender_of line) (1 + line % 11)) (λ e. absurd (omega (arith, leb-true (sender_of line) (1 + line % 11) e))) (λ e. rw e (omega arith))

ends_at : (line i j : ℕ) → sender_of line ≡ i → receiver_of line ≡ j → 1 ≤ i → i ≤ 12 → 1 ≤ j → j ≤ 12 → (i ≡ j → ⊥) → channel_at i j ≡ line → Ends line
ends_at line i j e f a b c d n k =
    record {
      from_low = rw e a;
      from-high = rw e b;
      to_low = rw f c;
      to_high = rw f d;
      channel = rw (e, f) (to-channel i j a b c d n);
      number = rw (e, f) k;
    }

pub ends : (line : ℕ) → line < 132 → Ends line
unfolding sender_of
ends line h =
    test (leb (sender_of line) (1 + line % 11))
    (λ e.
    let p = leb-true (sender_of line) (1 + line % 11) e in
    let j = line % 11 + 2 in
    ends_at line (sender_of line) j refl (receiver-past line p) (omega arith) (omega arith) (omega arith) (omega arith) (λ q. omega arith)
    (sym (channel-down (sender_of line) j (omega arith) (omega arith)) ∙ omega arith))
    (λ e.
    let p = leb-false (sender_of line) (1 + line % 11) e in
    let j = line % 11 + 1 in
    ends_at line (sender_of line) j refl (receiver-before line p) (omega arith) (omega arith) (omega arith) (omega arith) (λ q. omega arith)
    (sym (channel-up (sender_of line) j (omega arith) (omega arith)) ∙ omega arith))

-- ---- all lines

pub all_lines_lem : (w : Network') → all_lines w ≡ lines_from w 0
unfolding all_lines gather max_agents lines_from line_at sender_of receiver_of
all_lines_lem w = refl

pub first-line : (w : Network') (line : ℕ) → line < 132 → lines_from w line ≡ line_at w line ∷ lines_from w (line + 1)
unfolding lines_from gather
first-line w line h =
    let e : 132 - line ≡ suc (132 - (line + 1)) = omega arith in
    let s : suc line ≡ line + 1 = omega arith in
    rw (e, s)

pub no_lines : (w : Network') (line : ℕ) → 132 ≤ line → lines_from w line ≡ []
unfolding lines_from gather
no_lines w line h = let e : 132 - line ≡ 0 = omega arith in rw e

-- ---- a line of the code's network

module _ (r : Network) (line : ℕ) (h : line < 132) where
  -- the ring of its number
  pub line-ring : line_at (network_of r) line
      ≡ ring r.places (8 * line) (row_of r.heads (sender_of line) (receiver_of line)) (row_of r.counts (sender_of line) (receiver_of line))
  unfolding line_at channel_of
  line-ring =
      let e = ends line h in
      channel-is r (sender_of line) (receiver_of line) e.channel
      ∙ ap (λ (k : ℕ). ring r.places (8 * k) (row_of r.heads (sender_of line) (receiver_of line)) (row_of r.counts (sender_of line) (receiver_of line))) e.number

  pub line-length : length (line_at (network_of r) line) ≡ row_of r.counts (sender_of line) (receiver_of line)
  line-length = ap length line-ring ∙ ring-length r.places (8 * line) _ _

  -- how many wait from here on
  pub line-total : total (lines_from (network_of r) line)
      ≡ row_of r.counts (sender_of line) (receiver_of line) + total (lines_from (network_of r) (line + 1))
  unfolding total
  line-total = rw (first-line (network_of r) line h, line-length)
