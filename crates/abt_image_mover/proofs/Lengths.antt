-- How long either form of whole bytes is: four parts, of which the last has a message's width for each message.
use Rattle.std.proofs.Common.{ℕ, ◌+◌, ◌-◌, ◌*◌, ◌/◌, ◌≤◌, ◌≡◌, ◌∙◌, List, ◌∷◌, ◌++◌, mul_comm, arith, length, get_or, take, drop, length-append, length-drop, length-take-le}
use Rattle.std.proofs.lemmas.List.{take_rest}
use Rattle.model_image.specs.Bytes.{stretch}
use Rattle.model_image.specs.Image.{first_form}
use Rattle.model_image.specs.Reading.{header_length, bans_length, agent_length, heads_length, message_length, agents_start, heads_start, messages_start}
use Rattle.model_image_forms.specs.Places.{by_place, each_record}
use Rattle.model_image_forms.specs.Packing.{packed_length, packed, unpacked, LowSlots}
use Rattle.model_image_forms.specs.Forms.{second_form, agents_in, rearranged, packed_messages, unpacked_messages, small, large}
use Rattle.model_image_forms.proofs.Places.{laid-length, each-length}
use Rattle.model_image_forms.proofs.Packing.{packed-length, unpacked-length}
use Rattle.model_image_forms.proofs.Forms.{packed-messages-length}
use Rattle.abt_image_mover.specs.Whole.{Whole, Packable}
use Rattle.abt_image_mover.proofs.Parts.{part-is}

pub stretch-length : (a w : ℕ) (s : List ℕ) → a + w ≤ length s → length (stretch a w s) ≡ w
unfolding stretch
stretch-length a w s h = length-take-le w (drop a s) (omega (arith, length-drop a s))

-- ---- the messages

-- packed one by one
pub records-long : (s : List ℕ) (k : ℕ) → length s ≡ 16 * k → length (each_record k 16 packed s) ≡ 10 * k
unfolding packed_length message_length
records-long s k long = each-length k 16 10 packed unpacked s (λ r u. packed-length _ (stretch-length (16 * r) 16 s (omega arith)))

-- so many of them, by the count of their bytes
pub unpacked-laid : (s : List ℕ) (k : ℕ) → length s ≡ 10 * k → each_record k 10 unpacked (by_place 10 k s) ≡ unpacked_messages s
unfolding unpacked_messages packed_length
unpacked-laid s k long = let n : length s / 10 ≡ k = omega arith in rw n

pub unpacked-messages-length : (s : List ℕ) (k : ℕ) → length s ≡ packed_length * k → length (unpacked_messages s) ≡ message_length * k
unfolding unpacked_messages packed_length
unpacked-messages-length s k long =
    let n : length s / 10 ≡ k = omega arith in
    rw n
    (each-length k packed_length message_length unpacked packed (by_place packed_length k s)
    (λ r u. unpacked-length _ (stretch-length (10 * r) 10 (by_place packed_length k s) (omega (arith, laid-length packed_length k s)))))

-- ---- the whole

module _ {width : ℕ} (s : List ℕ) (whole : Whole width s) where
  rearranged-long : (form : ℕ) (f g : List ℕ → List ℕ) (each : ℕ)
      → length (f (stretch 544 (170 * get_or s 1 0) s)) ≡ 170 * get_or s 1 0 → length (g (drop (808 + 170 * get_or s 1 0) s)) ≡ each * whole.waiting
      → length (rearranged form f g s) ≡ 808 + 170 * get_or s 1 0 + each * whole.waiting
  unfolding rearranged agents_in messages_start heads_start agents_start header_length bans_length heads_length agent_length
  rearranged-long form f g each p q =
      let n = get_or s 1 0 in
      let e : 544 + 170 * n + 264 ≡ 808 + 170 * n = omega arith in
      let a = form ∷ stretch 1 543 s in
      let b = f (stretch 544 (170 * n) s) in
      let c = stretch (544 + 170 * n) 264 s in
      let d = g (drop (808 + 170 * n) s) in
      rw e
      (omega (
        arith,
        p,
        q,
        length-append (a ++ b ++ c) d,
        length-append (a ++ b) c,
        length-append a b,
        stretch-length 1 543 s (omega (arith, whole.long)),
        stretch-length (544 + 170 * n) 264 s (omega (arith, whole.long)),
      ))

  messages-long : length (drop (808 + 170 * get_or s 1 0) s) ≡ width * whole.waiting
  messages-long = omega (arith, length-drop (808 + 170 * get_or s 1 0) s, whole.long)

pub small-long : (s : List ℕ) (whole : Whole 16 s) → length (small s) ≡ 808 + 170 * get_or s 1 0 + 10 * whole.waiting
unfolding small agents_in agent_length message_length packed_length
small-long s whole =
    rearranged-long s whole second_form (by_place (get_or s 1 0) agent_length) packed_messages 10
    (laid-length (get_or s 1 0) 170 _) (packed-messages-length _ whole.waiting (messages-long s whole))

pub large-long : (s : List ℕ) (whole : Whole 10 s) → length (large s) ≡ 808 + 170 * get_or s 1 0 + 16 * whole.waiting
unfolding large agents_in agent_length message_length packed_length
large-long s whole =
    rearranged-long s whole first_form (by_place agent_length (get_or s 1 0)) unpacked_messages 16
    (laid-length 170 (get_or s 1 0) _ ∙ mul_comm (get_or s 1 0) 170) (unpacked-messages-length _ whole.waiting (messages-long s whole))

-- ---- the parts of the code

-- the parts that the code puts, one behind the other
pub rearranged-parts : (form : ℕ) (f g : List ℕ → List ℕ) (s : List ℕ) (n : ℕ) → n ≡ get_or s 1 0
    → (form ∷ stretch 1 543 s) ++ f (take (544 + 170 * n - 544) (drop 544 s)) ++ take (544 + 170 * n + 264 - (544 + 170 * n)) (drop (544 + 170 * n) s)
    ++ g (take (length s - (544 + 170 * n + 264)) (drop (544 + 170 * n + 264) s))
    ≡ rearranged form f g s
unfolding rearranged agents_in messages_start heads_start agents_start header_length bans_length heads_length agent_length
rearranged-parts form f g s n e = rw (part-is 544 (170 * n) s, part-is (544 + 170 * n) 264 s, take_rest s (544 + 170 * n + 264), e)

-- the messages among them
module _ {width : ℕ} (s : List ℕ) (whole : Whole width s) where
  pub rest-long : length (take (length s - (544 + 170 * get_or s 1 0 + 264)) (drop (544 + 170 * get_or s 1 0 + 264) s)) ≡ width * whole.waiting
  rest-long = rw (take_rest s (544 + 170 * get_or s 1 0 + 264)) (omega (arith, length-drop (544 + 170 * get_or s 1 0 + 264) s, whole.long))

pub rest-low : (s : List ℕ) → Packable s → LowSlots (take (length s - (544 + 170 * get_or s 1 0 + 264)) (drop (544 + 170 * get_or s 1 0 + 264) s))
rest-low s p =
    let e : 544 + 170 * get_or s 1 0 + 264 ≡ 808 + 170 * get_or s 1 0 = omega arith in
    rw (take_rest s (544 + 170 * get_or s 1 0 + 264), e) p.low
