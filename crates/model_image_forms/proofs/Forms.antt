-- The second form of an image and back: `large (small (image w)) ≡ image w`, and how long it is.
-- Both forms are four parts one behind the other; each part is rearranged by itself, and back.
use Rattle.std.proofs.Common.{ℕ, pred, ◌+◌, ◌*◌, ◌/◌, ◌<◌, ◌≡◌, refl, sym, ap, ◌∙◌, true, List, ◌∷◌, ◌++◌, append_assoc, mul-le-mul_left, arith, length, get_or, take, drop, length-append, length-drop, get_or-take, get_or-drop, length-take-le, take_at, drop_at, drop-drop}
use Rattle.model_base.specs.Finite.{gather}
use Rattle.model_sheet.specs.Problem.{domain}
use Rattle.model_network.specs.Network.{Network}
use Rattle.model_network.specs.Shape.{in_shape}
use Rattle.model_image.specs.Bytes.{stretch}
use Rattle.model_image.specs.Image.{slots, byte_for, first_form, header_bytes, ban_bytes, agent_bytes, all_lines, heads_from, messages_from, image}
use Rattle.model_image.specs.Reading.{
  header_length,
  bans_length,
  agent_length,
  heads_length,
  message_length,
  agents_start,
  heads_start,
  messages_start,
  line_count,
}
use Rattle.model_image.specs.Plain.{Plain}
use Rattle.model_image.proofs.Lengths.{header-length, bans-length, agents-length, heads-length, lines-count, total, messages-length}
use Rattle.model_image_forms.specs.Places.{by_place, each_record}
use Rattle.model_image_forms.specs.Packing.{front_length, packed_length, packed, unpacked, LowSlots}
use Rattle.model_image_forms.specs.Forms.{second_form, agents_in, rearranged, packed_messages, unpacked_messages, small, large}
use Rattle.model_image_forms.proofs.Places.{laid-back, laid-length, each-length, each_back}
use Rattle.model_image_forms.proofs.Packing.{Packs, packed-length, unpacked-packed}
use Rattle.model_image_forms.proofs.Slots.{lines-low, messages-low}

-- ---- the messages

module _ (s : List ℕ) (k : ℕ) (long : length s ≡ message_length * k) where
  -- packed one by one
  abbrev records : List ℕ
  records = each_record k message_length packed s

  pub laid-messages : packed_messages s ≡ by_place k packed_length records
  unfolding packed_messages message_length
  laid-messages = let n : length s / 16 ≡ k = omega arith in rw n

  pub packed-messages-length : length (packed_messages s) ≡ packed_length * k
  packed-messages-length = ap length laid-messages ∙ laid-length k packed_length records

  -- a message's record, where left sides are low
  packs : LowSlots s → (r : ℕ) → r < k → Packs (stretch (message_length * r) message_length s)
  unfolding stretch message_length front_length
  packs low r u =
      record {
        long = length-take-le 16 (drop (16 * r) s) (simp length-drop (omega (arith, mul-le-mul_left 16 u)));
        low = λ i h.
            rw (get_or-take 16 (drop (16 * r) s) (4 + i) 0 (omega arith), get_or-drop (16 * r) s (4 + i) 0)
            (low (16 * r + (4 + i)) (omega arith));
      }

  messages-back : LowSlots s → unpacked_messages (packed_messages s) ≡ s
  unfolding unpacked_messages packed_length
  messages-back low =
      let n : length (packed_messages s) / packed_length ≡ k = omega (arith, packed-messages-length) in
      rw (n, laid-messages, laid-back k packed_length records (each-length k message_length packed_length packed unpacked s each))
      (each_back k message_length packed_length packed unpacked s each long (λ r u. unpacked-packed _ (packs low r u)))
    where
      each : (r : ℕ) → r < k → length (packed (stretch (message_length * r) message_length s)) ≡ packed_length
      each r u = packed-length _ (packs low r u).long

-- ---- four parts

-- a form's number, n, the rest of header and bans, the agents, the heads, the messages
unfoldable pub whole : ℕ → ℕ → List ℕ → List ℕ → List ℕ → List ℕ → List ℕ
whole form n front agents heads messages = form ∷ n ∷ (front ++ (agents ++ (heads ++ messages)))

whole-agents : (form n : ℕ) (front agents heads messages : List ℕ) → agents_in (whole form n front agents heads messages) ≡ n
unfolding agents_in whole
whole-agents form n front agents heads messages = refl

module _ (form n : ℕ) (front agents heads messages : List ℕ) (before : length front ≡ 542) (each : length agents ≡ agent_length * n)
    (lines : length heads ≡ heads_length) where
  abbrev s : List ℕ
  s = whole form n front agents heads messages

  from-agents : drop agents_start s ≡ agents ++ (heads ++ messages)
  unfolding agents_start header_length bans_length whole
  from-agents = drop_at (form ∷ n ∷ front) (agents ++ (heads ++ messages)) 544 (omega arith)

  from_heads : drop (heads_start n) s ≡ heads ++ messages
  unfolding heads_start
  from_heads =
      sym (drop-drop (agent_length * n) agents_start s)
      ∙ ap (drop (agent_length * n)) from-agents
      ∙ drop_at agents (heads ++ messages) (agent_length * n) each

  from-messages : drop (messages_start n) s ≡ messages
  unfolding messages_start
  from-messages =
      sym (drop-drop heads_length (heads_start n) s) ∙ ap (drop heads_length) from_heads ∙ drop_at heads messages heads_length lines

  front-part : stretch 1 (pred agents_start) s ≡ n ∷ front
  unfolding stretch whole agents_start header_length bans_length
  front-part = take_at (n ∷ front) (agents ++ (heads ++ messages)) 543 (omega arith)

  agents-part : stretch agents_start (agent_length * n) s ≡ agents
  unfolding stretch
  agents-part = ap (take (agent_length * n)) from-agents ∙ take_at agents (heads ++ messages) (agent_length * n) each

  heads-part : stretch (heads_start n) heads_length s ≡ heads
  unfolding stretch
  heads-part = ap (take heads_length) from_heads ∙ take_at heads messages heads_length lines

  pub rearranged-whole : (form' : ℕ) (f g : List ℕ → List ℕ) → rearranged form' f g s ≡ whole form' n front (f agents) heads (g messages)
  unfolding rearranged whole
  rearranged-whole form' f g =
      let all = form' ∷ n ∷ front in
      rw (whole-agents form n front agents heads messages, front-part, agents-part, heads-part, from-messages)
      (append_assoc (all ++ f agents) heads (g messages) ∙ append_assoc all (f agents) (heads ++ g messages))

  pub whole_length : length s ≡ messages_start n + length messages
  unfolding whole messages_start heads_start agents_start header_length bans_length
  whole_length = simp length-append (omega arith)

-- ---- an image

-- the rest of header and bans
front_of : Network → List ℕ
front_of w = (w.rule ∷ byte_for w.unsolvable ∷ slots (domain w.problem)) ++ ban_bytes w.problem

abbrev agents_of : Network → List ℕ
agents_of w = gather w.problem.count 1 (λ i. agent_bytes (w.agents i))

image-whole : (w : Network)
    → image w ≡ whole first_form w.problem.count (front_of w) (agents_of w) (heads_from 0 (all_lines w)) (messages_from 0 (all_lines w))
unfolding image header_bytes whole front_of
image-whole w = simp append_assoc

front_length_lem : (w : Network) → length (front_of w) ≡ 542
unfolding front_of header_bytes header_length bans_length
front_length_lem w = omega (arith, length-append (header_bytes w) (ban_bytes w.problem), header-length w, bans-length w.problem)

lines-length : (w : Network) → length (heads_from 0 (all_lines w)) ≡ heads_length
unfolding heads_length line_count
lines-length w = omega (arith, heads-length 0 (all_lines w), lines-count w)

-- its second form
small-whole : (w : Network)
    → small (image w) ≡ whole second_form w.problem.count (front_of w) (by_place w.problem.count agent_length (agents_of w))
    (heads_from 0 (all_lines w)) (packed_messages (messages_from 0 (all_lines w)))
unfolding small
small-whole w =
    let heads = heads_from 0 (all_lines w) in
    let messages = messages_from 0 (all_lines w) in
    rw (image-whole w, whole-agents first_form w.problem.count (front_of w) (agents_of w) heads messages)
    (rearranged-whole first_form w.problem.count (front_of w) (agents_of w) heads messages (front_length_lem w)
    (agents-length w.problem.count w.agents) (lines-length w) second_form (by_place w.problem.count agent_length) packed_messages)

laid-agents : (w : Network) → length (by_place w.problem.count agent_length (agents_of w)) ≡ agent_length * w.problem.count
laid-agents w = laid-length w.problem.count agent_length (agents_of w)

pub small-first : (w : Network) → get_or (small (image w)) 0 0 ≡ second_form
unfolding whole
small-first w = rw (small-whole w)

pub small_count : (w : Network) → get_or (small (image w)) 1 0 ≡ w.problem.count
unfolding whole
small_count w = rw (small-whole w)

pub small-length : (w : Network) → length (small (image w)) ≡ messages_start w.problem.count + packed_length * total (all_lines w)
small-length w =
    let messages = messages_from 0 (all_lines w) in
    ap length (small-whole w)
    ∙ whole_length second_form w.problem.count (front_of w) (by_place w.problem.count agent_length (agents_of w)) (heads_from 0 (all_lines w))
    (packed_messages messages) (front_length_lem w) (laid-agents w) (lines-length w)
    ∙ rw (packed-messages-length messages (total (all_lines w)) (messages-length 0 (all_lines w)))

pub large-small : (w : Network) → Plain w → in_shape w ≡ true → large (small (image w)) ≡ image w
unfolding large
large-small w plain e =
    let n = w.problem.count in
    let heads = heads_from 0 (all_lines w) in
    let messages = messages_from 0 (all_lines w) in
    let laid = by_place n agent_length (agents_of w) in
    let low = messages-low 0 (all_lines w) (lines-low w plain e) in
    rw (small-whole w, whole-agents second_form n (front_of w) laid heads (packed_messages messages))
    (rearranged-whole second_form n (front_of w) laid heads (packed_messages messages) (front_length_lem w) (laid-agents w) (lines-length w) first_form
    (by_place agent_length n) unpacked_messages
    ∙ rw (
      laid-back n agent_length (agents_of w) (agents-length n w.agents),
      messages-back messages (total (all_lines w)) (messages-length 0 (all_lines w)) low,
    ) (sym (image-whole w)))
