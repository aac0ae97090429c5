-- The heads and the messages of the lines from one on, line by line; and the messages of one line, one by one.
-- What is left to put of them begins with the next one.
use Rattle.std.proofs.Common.{ℕ, zero, suc, ◌+◌, ◌-◌, ◌*◌, ◌%◌, ◌≤◌, ◌<◌, ◌≡◌, refl, sym, ap, ◌∙◌, ◌≢◌, List, [], ◌∷◌, ◌++◌, not-suc-le-zero, add-zero, add-one, arith, length, get_or, drop, length-append, length-drop, drop_of_length-le, drop-cons}
use Rattle.model_base.proofs.Arrays.{get_or-below}
use Rattle.model_sheet.specs.Problem.{max_agents}
use Rattle.model_agent.specs.Message.{Assignment, Message as Message', Info, Back, AddLink}
use Rattle.model_network.specs.Network.{Network as Network'}
use Rattle.abt_packed.specs.Packed.{assignment}
use Rattle.abt_agent.specs.Abstract.{message_of}
use Rattle.abt_record.specs.declared.Network.{Network}
use Rattle.abt_record.specs.declared.Place.{Place}
use Rattle.abt_record.specs.Abstract.{place_of, no_place, ring, row_of, network_of}
use Rattle.model_image.specs.Bytes.{bytes_of}
use Rattle.model_image.specs.Image.{slots, no_slots, all_lines, number_after, heads_from, message_bytes, chain_from, messages_from}
use Rattle.model_image.specs.Reading.{message_length, line_count}
use Rattle.model_image.proofs.Lengths.{chain_length, heads-length, lines-count}
use Rattle.abt_image_writer.specs.Lines.{sender_of, receiver_of, line_at, lines_from}
use Rattle.abt_image_writer.proofs.Records.{no-slots-put}
use Rattle.abt_image_writer.proofs.Numbered.{all_lines_lem, line-ring, line-length, first-line, no_lines}

-- ---- the number of the first

pub none_after : (before : ℕ) (l : List Message') → length l ≡ 0 → 0 ≡ number_after before l
unfolding number_after
none_after before [] e = refl
none_after before (m ∷ ms) e = absurd (omega arith)

pub some_after : (before : ℕ) (l : List Message') → length l ≢ 0 → before + 1 ≡ number_after before l
unfolding number_after
some_after before [] n = absurd (n refl)
some_after before (m ∷ ms) n = add-one before

-- ---- the bytes of a message

pub info-bytes : (v next : ℕ) → message_bytes (Info v) next ≡ (1 ∷ v ∷ []) ++ bytes_of 2 next ++ slots (assignment 0)
unfolding message_bytes no_slots max_agents
info-bytes v next = rw no-slots-put

pub back-bytes : (lhs : Assignment) (v next : ℕ) → message_bytes (Back lhs v) next ≡ (2 ∷ v ∷ []) ++ bytes_of 2 next ++ slots lhs
unfolding message_bytes
back-bytes lhs v next = refl

pub link-bytes : (next : ℕ) → message_bytes AddLink next ≡ (3 ∷ 0 ∷ []) ++ bytes_of 2 next ++ slots (assignment 0)
unfolding message_bytes no_slots max_agents
link-bytes next = rw no-slots-put

-- ---- the heads

pub all-heads : (w : Network') → heads_from 0 (all_lines w) ≡ heads_from 0 (lines_from w 0)
all-heads w = ap (heads_from 0) (all_lines_lem w)

pub heads-long : (w : Network') → length (heads_from 0 (all_lines w)) ≡ 264
unfolding line_count
heads-long w = heads-length 0 (all_lines w) ∙ ap (λ (k : ℕ). 2 * k) (lines-count w)

module _ (r : Network) (line before count : ℕ) (h : line < 132) (held : count ≡ row_of r.counts (sender_of line) (receiver_of line)) where
  pub first_head : (head : ℕ) → ((l : List Message') → length l ≡ count → head ≡ number_after before l)
      → heads_from before (lines_from (network_of r) line) ≡ bytes_of 2 head ++ heads_from (before + count) (lines_from (network_of r) (line + 1))
  unfolding heads_from
  first_head head e =
      let long : length (line_at (network_of r) line) ≡ count = line-length r line h ∙ sym held in
      rw (first-line (network_of r) line h, long, e (line_at (network_of r) line) long)

pub no-heads : (w : Network') (line before : ℕ) → 132 ≤ line → heads_from before (lines_from w line) ≡ []
unfolding heads_from
no-heads w line before h = rw (no_lines w line h)

-- ---- a line's messages in its ring

ring-at : (ps : List Place) (b h c k : ℕ) (m : Message') → k < c → get_or (ring ps b h c) k m ≡ place_of (get_or ps (b + (h + k) % 8) no_place)
unfolding ring
ring-at ps b h zero k m l = absurd (not-suc-le-zero l)
ring-at ps b h (suc c) zero m l = rw (add-zero h)
ring-at ps b h (suc c) (suc k) m l = let e : h + suc k ≡ suc h + k = omega arith in rw e (ring-at ps b (suc h) c k m (omega arith))

message-at : (r : Network) (line done place : ℕ) (d : Place) (m : Message') → line < 132 → length r.places ≡ 1056
    → done < row_of r.counts (sender_of line) (receiver_of line)
    → place ≡ 8 * line + (row_of r.heads (sender_of line) (receiver_of line) + done) % 8 → place < 1056
    → get_or (line_at (network_of r) line) done m ≡ place_of (get_or r.places place d)
message-at r line done place d m h full some e inside =
    ap (λ (l : List Message'). get_or l done m) (line-ring r line h)
    ∙ ring-at r.places (8 * line) _ _ done m some
    ∙ rw (← e) (ap place_of (get_or-below r.places place no_place d (omega arith)))

-- ---- the messages of one line that are left, when so many are put

pub all-on-it : (before : ℕ) (l : List Message') → chain_from before l ≡ chain_from (before + 0) (drop 0 l)
all-on-it before l = rw add-zero

pub none-on-it : (number ahead : ℕ) (l : List Message') → length l ≤ ahead → chain_from number (drop ahead l) ≡ []
unfolding chain_from
none-on-it number ahead l h = rw (drop_of_length-le l {i = ahead} h)

first-message : (l : List Message') (number ahead next : ℕ) (m : Message') → ahead < length l → next ≡ number_after (number + 1) (drop (ahead + 1) l)
    → chain_from number (drop ahead l) ≡ message_bytes (get_or l ahead m) next ++ chain_from (number + 1) (drop (ahead + 1) l)
unfolding chain_from
first-message l number ahead next m h e = rw (e, drop-cons l ahead m h, add-one ahead, add-one number)

pub next-message : (r : Network) (line before ahead count head place next : ℕ) (d : Place) → line < 132 → length r.places ≡ 1056
    → count ≡ row_of r.counts (sender_of line) (receiver_of line) → ahead < count
    → head ≡ row_of r.heads (sender_of line) (receiver_of line)
    → (place ≡ 8 * line + (head + ahead) % 8) × (place < 1056)
    → ((l : List Message') → length l ≡ count - ahead - 1 → next ≡ number_after (before + ahead + 1) l)
    → chain_from (before + ahead) (drop ahead (line_at (network_of r) line))
    ≡ message_bytes (message_of (get_or r.places place d).message) next ++ chain_from (before + (ahead + 1)) (drop (ahead + 1) (line_at (network_of r) line))
unfolding place_of
next-message r line before ahead count head place next d h full held some e p f =
    let l = line_at (network_of r) line in
    let long : length l ≡ count = line-length r line h ∙ sym held in
    let there = message-at r line ahead place d AddLink h full (rw (← held) some) (rw (← e) p.0) p.1 in
    let q : before + (ahead + 1) ≡ before + ahead + 1 = omega arith in
    first-message l (before + ahead) ahead next AddLink (rw long some) (f _ (length-drop (ahead + 1) l ∙ omega arith))
    ∙ rw q (ap (λ (m : Message'). message_bytes m next ++ chain_from (before + ahead + 1) (drop (ahead + 1) l)) there)

-- ---- the messages of the lines that are left

pub all-messages : (w : Network') → messages_from 0 (all_lines w) ≡ messages_from 0 (lines_from w 0)
all-messages w = ap (messages_from 0) (all_lines_lem w)

pub first-chain : (w : Network') (line before : ℕ) → line < 132
    → messages_from before (lines_from w line) ≡ chain_from before (line_at w line) ++ messages_from (before + length (line_at w line)) (lines_from w (line + 1))
unfolding messages_from
first-chain w line before h = rw (first-line w line h)

pub no-messages : (w : Network') (line before : ℕ) → 132 ≤ line → messages_from before (lines_from w line) ≡ []
unfolding messages_from
no-messages w line before h = rw (no_lines w line h)

pub chain-room : (w : Network') (line before : ℕ) → line < 132 → 16 * length (line_at w line) ≤ length (messages_from before (lines_from w line))
unfolding message_length
chain-room w line before h =
    let l = line_at w line in
    rw (first-chain w line before h, length-append (chain_from before l) (messages_from (before + length l) (lines_from w (line + 1))))
    (omega (arith, chain_length before l))
