-- The two forms of an image. docs/FORMATS.md, 'The second form'.
use Rattle.std.specs.Prelude.{ℕ, pred, ◌*◌, ◌/◌, true, false, List, ◌∷◌, ◌++◌, eqb, length, get_or, drop}
use Rattle.model_network.specs.Network.{Network}
use Rattle.model_image.specs.Bytes.{stretch}
use Rattle.model_image.specs.Image.{first_form, image}
use Rattle.model_image.specs.Reading.{agent_length, heads_length, message_length, agents_start, heads_start, messages_start}
use Rattle.model_image_forms.specs.Places.{by_place, each_record}
use Rattle.model_image_forms.specs.Packing.{packed_length, packed, unpacked}

pub data Form : Type 0 where
  First : Form
  Second : Form

-- "It begins with 2"
unfoldable pub second_form : ℕ
second_form = 2

-- "n"
unfoldable pub agents_in : List ℕ → ℕ
agents_in s = get_or s 1 0

-- the same bytes beginning with `form`, the scanners' records and the messages rearranged. "The other parts stay."
unfoldable pub rearranged : ℕ → (List ℕ → List ℕ) → (List ℕ → List ℕ) → List ℕ → List ℕ
rearranged form agents messages s =
    (form ∷ stretch 1 (pred agents_start) s)
    ++ agents (stretch agents_start (agent_length * agents_in s) s)
    ++ stretch (heads_start (agents_in s)) heads_length s
    ++ messages (drop (messages_start (agents_in s)) s)

-- "In each message its twelve left-side slots are six bytes"; "likewise the messages" are laid by place
unfoldable pub packed_messages : List ℕ → List ℕ
packed_messages s =
    by_place (length s / message_length) packed_length (each_record (length s / message_length) message_length packed s)

unfoldable pub unpacked_messages : List ℕ → List ℕ
unpacked_messages s =
    each_record (length s / packed_length) packed_length unpacked (by_place packed_length (length s / packed_length) s)

-- the second form of an image in the first
unfoldable pub small : List ℕ → List ℕ
small s = rearranged second_form (by_place (agents_in s) agent_length) packed_messages s

-- the first form of an image in the second
unfoldable pub large : List ℕ → List ℕ
large s = rearranged first_form (by_place agent_length (agents_in s)) unpacked_messages s

-- the image of a network in either form
unfoldable pub image_in : Form → Network → List ℕ
image_in First w = image w
image_in Second w = small (image w)

-- "Bytes that begin with 2 are read as the second form, all others as the first."
unfoldable pub form_of : List ℕ → Form
form_of s = elim (eqb (get_or s 0 0) second_form) [ true ↦ Second | false ↦ First ]

unfoldable pub other_form : Form → Form
other_form First = Second
other_form Second = First
