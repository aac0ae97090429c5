-- The claims about images of either form. Each is proved elsewhere against the type that stands here.
use Rattle.std.specs.Prelude.{ℕ, ◌+◌, ◌*◌, ◌≤◌, ◌≡◌, true, List, length, take}
use Rattle.model_base.specs.Lent.{Written}
use Rattle.model_network.specs.Network.{Network, empty_network}
use Rattle.model_network.specs.Shape.{in_shape}
use Rattle.model_image.specs.Reading.{bad_image, message_length, messages_start}
use Rattle.model_image.specs.Plain.{Plain}
use Rattle.model_image.specs.Claims.{waiting}
use Rattle.model_image_forms.specs.Places.{by_place}
use Rattle.model_image_forms.specs.Packing.{packed_length}
use Rattle.model_image_forms.specs.Forms.{Form, First, Second, image_in, form_of}
use Rattle.model_image_forms.specs.Reading.{load}
use Rattle.model_image_forms.specs.Moving.{moved, move}

-- "The rearrangement has an inverse, for every count and width of records": laid by place a second time, with count and width exchanged, the bytes
-- stand as they stood.
abbrev pub LaidBack : Type 0
LaidBack = (count width : ℕ) (s : List ℕ) → length s ≡ width * count → by_place width count (by_place count width s) ≡ s

-- "Reading the image of a rail in shape, in either form, gives that rail."
abbrev pub ReadsBack : Type 0
ReadsBack = (form : Form) (w : Network) → Plain w → in_shape w ≡ true → load (image_in form w) ≡ record { number = 0; network = w }

-- "An image is the image of one rail" "No bytes are an image in both forms."
abbrev pub OneRail : Type 0
OneRail =
    (form form' : Form) (w v : Network) → Plain w → Plain v → in_shape w ≡ true → in_shape v ≡ true → image_in form w ≡ image_in form' v
    → (form ≡ form') × (w ≡ v)

-- Bytes that are read are the image of what they give, a network in shape, in the form that their first byte says; others are refused with 13 and give
-- the empty network.
pub record OnlyImages (s : List ℕ) : Type 0 where
  pub taken : (load s).number ≡ 0
      → (image_in (form_of s) (load s).network ≡ s) × (in_shape (load s).network ≡ true) × Plain (load s).network
  pub refused : ((form : Form) (w : Network) → Plain w → in_shape w ≡ true → image_in form w ≡ s → ⊥)
      → load s ≡ record { number = bad_image; network = empty_network }

abbrev pub ReadsOnlyImages : Type 0
ReadsOnlyImages = (s : List ℕ) → OnlyImages s

-- a message's bytes in either form
unfoldable pub message_width : Form → ℕ
message_width First = message_length
message_width Second = packed_length

-- "808 + 170 × n + 16 × k bytes for k messages", in the second form "808 + 170 × n + 10 × k"
abbrev pub ImageLength : Type 0
ImageLength =
    (form : Form) (w : Network) → Plain w → length (image_in form w) ≡ messages_start w.problem.count + message_width form * waiting w

-- "An image moved to the other form and back is the same bytes, from either form."
abbrev pub MovesBack : Type 0
MovesBack = (s : List ℕ) → (load s).number ≡ 0 → ((load (moved s)).number ≡ 0) × (moved (moved s) ≡ s)

-- what a writer has written
unfoldable pub bytes_of : Written → List ℕ
bytes_of x = take x.length x.buffer

-- the same through buffers, whatever they held: where both have room, there and back gives the same bytes
abbrev pub MovesThrough : Type 0
MovesThrough =
    (s there back : List ℕ) → (move s there).number ≡ 0 → length s ≤ length back
    → ((move (bytes_of (move s there)) back).number ≡ 0) × (bytes_of (move (bytes_of (move s there)) back) ≡ s)
