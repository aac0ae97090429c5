-- The messages of all lines read back, line by line, from the heads and the chains.
-- A line's messages stand behind those of the lines before it; so a head says only whether there is a first, and a next index whether there is another.
use Rattle.std.proofs.Common.{ℕ, zero, suc, ◌+◌, ◌*◌, ◌^◌, ◌≤◌, ◌<◌, ◌≡◌, refl, ap, List, [], ◌∷◌, ◌++◌, append_assoc, not-suc-le-zero, arith, length, drop_at}
use lib.Dec.{eqb-suc-zero}
use Rattle.model_base.specs.Lists.{All}
use Rattle.model_agent.specs.Message.{Message, Info, Back, AddLink}
use Rattle.model_network.specs.Shape.{capacity}
use Rattle.model_image.specs.Bytes.{bytes_of, stretch}
use Rattle.model_image.specs.Image.{slots, number_after, heads_from, message_bytes, chain_from, messages_from}
use Rattle.model_image.specs.Reading.{message_length, message_in, next_in, chain_in, line_in, lines_in}
use Rattle.model_image.proofs.Bytes.{number-back}
use Rattle.model_image.proofs.Stretches.{stands-first}
use Rattle.model_image.proofs.Lengths.{message-length, chain_length, total}
use Rattle.model_image.proofs.Agents.{OnlyAgents, slots-back}

abbrev pub HeldMessage : Message → Type 0
HeldMessage (Info v) = Unit {0}
HeldMessage (Back lhs v) = OnlyAgents lhs
HeldMessage AddLink = Unit {0}

pub record HeldLine (l : List Message) : Type 0 where
  pub few : length l ≤ capacity
  pub messages : All HeldMessage l

-- ---- one message, whatever follows it

message-back : (m : Message) (next : ℕ) (t : List ℕ) → HeldMessage m → message_in (message_bytes m next ++ t) ≡ m
unfolding message_in message_bytes bytes_of
message-back (Info v) next t h = refl
message-back (Back lhs v) next t h = ap (λ l. Back l v) (slots-back (slots lhs ++ t) lhs (stands-first (slots lhs) t) h)
message-back AddLink next t h = refl

next-back : (m : Message) (next : ℕ) (t : List ℕ) → next < 256 ^ 2 → next_in (message_bytes m next ++ t) ≡ next
unfolding next_in stretch message_bytes bytes_of
next-back (Info v) next t h = number-back 2 next h
next-back (Back lhs v) next t h = number-back 2 next h
next-back AddLink next t h = number-back 2 next h

-- ---- one line

chain_back : (most before : ℕ) (m : Message) (ms : List Message) (t : List ℕ) → suc (length ms) ≤ most → before + suc (length ms) < 256 ^ 2
    → All HeldMessage (m ∷ ms) → chain_in most (chain_from before (m ∷ ms) ++ t) ≡ m ∷ ms
unfolding chain_in chain_from number_after
chain_back zero before m ms t few low h = absurd (not-suc-le-zero few)
chain_back (suc most) before m [] t few low h =
    let next = next-back m 0 ([] ++ t) (omega arith) in
    rw (append_assoc (message_bytes m 0) [] t, message-back m 0 ([] ++ t) h.0, next)
chain_back (suc most) before m (n ∷ ms) t few low h =
    let i = suc (suc before) in
    let s = chain_from (suc before) (n ∷ ms) in
    let rest = chain_back most (suc before) n ms t (omega arith) (omega arith) h.1 in
    rw (
      append_assoc (message_bytes m i) s t,
      message-back m i (s ++ t) h.0,
      next-back m i (s ++ t) (omega arith),
      eqb-suc-zero (suc before),
      drop_at (message_bytes m i) (s ++ t) message_length (message-length m i),
    ) (ap (λ (l : List Message). m ∷ l) rest)

line-back : (before : ℕ) (l : List Message) (t : List ℕ) → before + length l < 256 ^ 2 → HeldLine l
    → line_in (number_after before l) (chain_from before l ++ t) ≡ l
unfolding line_in number_after capacity
line-back before [] t low h = refl
line-back before (m ∷ ms) t low h = rw (eqb-suc-zero before) (chain_back 8 before m ms t h.few low h.messages)

-- ---- all lines

number-low : (before : ℕ) (l : List Message) → before + length l < 256 ^ 2 → number_after before l < 256 ^ 2
unfolding number_after
number-low before [] h = omega arith
number-low before (m ∷ ms) h = omega arith

pub lines-back : (before : ℕ) (ls : List (List Message)) (t u : List ℕ) → before + total ls < 256 ^ 2 → All HeldLine ls
    → lines_in (length ls) (heads_from before ls ++ t) (messages_from before ls ++ u) ≡ ls
unfolding lines_in heads_from messages_from total bytes_of
lines-back before [] t u low h = refl
lines-back before (l ∷ ls) t u low h =
    let s = messages_from (before + length l) ls in
    let rest = lines-back (before + length l) ls t u (omega arith) h.1 in
    rw (
      append_assoc (chain_from before l) s u,
      number-back 2 (number_after before l) (number-low before l (omega arith)),
      line-back before l (s ++ u) (omega arith) h.0,
      drop_at (chain_from before l) (s ++ u) (message_length * length l) (chain_length before l),
    ) (ap (λ (r : List (List Message)). l ∷ r) rest)
