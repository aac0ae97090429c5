-- The left-side bytes of the messages of a plain network in shape are below 16, so that two are one byte.
-- A left side names agents with values that they own, at most 8; every record of a message is 16 bytes, the left side from the fifth on.
use Rattle.std.proofs.Common.{ℕ, zero, suc, ◌+◌, ◌-◌, ◌*◌, ◌≤◌, ◌<◌, ◌≡◌, true, ◌&&◌, List, [], ◌∷◌, ◌++◌, arith, length, get_or, get_or-append-add, ltb, leb, ltb-true, ltb-false, leb-true, leb-false}
use lib.ListN.{get_or-append}
use Rattle.model_base.specs.Finite.{gather}
use Rattle.model_base.specs.Lists.{All}
use Rattle.model_base.proofs.Tests.{test, both, within-true}
use Rattle.model_base.proofs.Lists.{All-both, All-map, every-all, gather-all}
use Rattle.model_sheet.specs.Problem.{Problem, max_agents, max_domain, domain, owns}
use Rattle.model_sheet.proofs.Range.{Ranged}
use Rattle.model_agent.specs.Message.{Assignment, Message, Info, Back, AddLink}
use Rattle.model_agent.specs.Plain.{PlainMessage}
use Rattle.model_network.specs.Network.{Network}
use Rattle.model_network.specs.Shape.{lhs_fits, message_fits, has_room, one_request, channel_in_shape, in_shape}
use Rattle.model_image.specs.Bytes.{bytes_of}
use Rattle.model_image.specs.Image.{slots, no_slots, number_after, message_bytes, chain_from, messages_from, all_lines}
use Rattle.model_image.specs.Reading.{message_length}
use Rattle.model_image.specs.Plain.{Plain}
use Rattle.model_image.proofs.Lengths.{message-length, chain_length}
use Rattle.model_image.proofs.Holding.{if-named}
use Rattle.model_image.proofs.Parsing.{parts, all_lines_lem}
use Rattle.model_image_forms.specs.Packing.{LowSlots}

-- ---- left sides

abbrev pub LowMessage : Message → Type 0
LowMessage (Info v) = Unit {0}
LowMessage (Back lhs v) = (k : ℕ) → lhs k < 16
LowMessage AddLink = Unit {0}

few-values : (p : Problem) → Ranged p → (k : ℕ) → 1 ≤ k → k ≤ max_agents → domain p k < 16
unfolding max_domain
few-values p r k l u =
    test (leb k p.count)
    (λ e. omega (arith, (r.domained k l (leb-true k p.count e)).1))
    (λ e. omega (arith, r.beyond k (leb-false k p.count e) u))

message-low : (w : Network) (i j : ℕ) (m : Message) → Ranged w.problem → j ≤ max_agents → message_fits w i j m ≡ true → PlainMessage m → LowMessage m
unfolding message_fits lhs_fits owns
message-low w i j (Info v) r most e plain = tt
message-low w i j (Back lhs v) r most e plain =
    let b = both (ltb j i && owns w.problem j v && (w.agents i).listens j) (lhs_fits w.problem j lhs) e in
    λ k. if-named lhs (λ k v. ltb k j && owns w.problem k v) k b.1 plain (λ z. omega arith)
    (λ l t.
    let c = both (ltb k j) _ t in
    let d = few-values w.problem r k l (omega (arith, ltb-true k j c.0)) in
    omega (arith, (within-true _ (lhs k) c.1).1))
message-low w i j AddLink r most e plain = tt

pub lines-low : (w : Network) → Plain w → in_shape w ≡ true → All (All LowMessage) (all_lines w)
unfolding channel_in_shape
lines-low w plain e =
    let p = parts w e in
    all_lines_lem w (All LowMessage) (λ i j a b.
    let fits = every-all (message_fits w i j) (w.channel i j) (both (has_room w i j && one_request w i j) _ (p.channels i j a b)).1 in
    All-map _ LowMessage (λ m h. message-low w i j m p.problem (within-true max_agents j b).1 h.0 h.1) (w.channel i j)
    (All-both (λ m. message_fits w i j m ≡ true) PlainMessage (w.channel i j) fits (plain.messages i j)))

-- ---- their bytes

low-append : (l r : List ℕ) (k : ℕ) → length l ≡ 16 * k → LowSlots l → LowSlots r → LowSlots (l ++ r)
low-append l r k e low high p h =
    test (ltb p (length l))
    (λ u. rw (get_or-append l r 0 p (ltb-true p (length l) u)) (low p h))
    (λ u.
    let n = p - length l in
    let q : p ≡ length l + n = omega (arith, ltb-false p (length l) u) in
    rw (q, get_or-append-add l r n 0) (high n (omega arith)))

all-low : (l : List ℕ) → All (λ x. x < 16) l → (p : ℕ) → get_or l p 0 < 16
all-low [] h p = omega arith
all-low (x ∷ xs) h zero = h.0
all-low (x ∷ xs) h (suc p) = all-low xs h.1 p

-- four bytes before it
behind-front : (a b c d : ℕ) (l : List ℕ) → All (λ x. x < 16) l → LowSlots (a ∷ b ∷ c ∷ d ∷ l)
behind-front a b c d l low p h =
    let q : p ≡ 4 + (p - 4) = omega arith in
    rw (q, get_or-append-add (a ∷ b ∷ c ∷ d ∷ []) l (p - 4) 0) (all-low l low (p - 4))

slots-low : (lhs : Assignment) → ((k : ℕ) → lhs k < 16) → All (λ x. x < 16) (slots lhs)
unfolding slots
slots-low lhs low = gather-all (λ x. x < 16) (λ k. lhs k ∷ []) max_agents 1 (λ k _ _. (low k, tt))

-- one without a left side has twelve zeros
bytes_low : (m : Message) (next : ℕ) → LowMessage m → LowSlots (message_bytes m next)
unfolding message_bytes bytes_of no_slots slots max_agents gather
bytes_low (Info v) next low = behind-front _ _ _ _ no_slots (slots-low (λ k. 0) (λ k. omega arith))
bytes_low (Back lhs v) next low = behind-front _ _ _ _ (slots lhs) (slots-low lhs low)
bytes_low AddLink next low = behind-front _ _ _ _ no_slots (slots-low (λ k. 0) (λ k. omega arith))

chain-low : (before : ℕ) (l : List Message) → All LowMessage l → LowSlots (chain_from before l)
unfolding chain_from message_length
chain-low before [] low = λ p h. omega arith
chain-low before (m ∷ ms) low =
    let next = number_after (suc before) ms in
    low-append (message_bytes m next) _ 1 (message-length m next) (bytes_low m next low.0) (chain-low (suc before) ms low.1)

pub messages-low : (before : ℕ) (ls : List (List Message)) → All (All LowMessage) ls → LowSlots (messages_from before ls)
unfolding messages_from message_length
messages-low before [] low = λ p h. omega arith
messages-low before (l ∷ ls) low =
    low-append (chain_from before l) _ (length l) (chain_length before l) (chain-low before l low.0) (messages-low (before + length l) ls low.1)
