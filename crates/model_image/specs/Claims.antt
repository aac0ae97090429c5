-- The claims about one image. Each is proved elsewhere against the type that stands here.
use Rattle.std.specs.Prelude.{ℕ, ◌+◌, ◌*◌, ◌≡◌, true, List, length}
use Rattle.model_base.specs.Finite.{sum}
use Rattle.model_sheet.specs.Problem.{max_agents}
use Rattle.model_network.specs.Network.{Network, empty_network}
use Rattle.model_network.specs.Shape.{in_shape}
use Rattle.model_image.specs.Image.{image}
use Rattle.model_image.specs.Reading.{message_length, messages_start, bad_image, load_first}
use Rattle.model_image.specs.Plain.{Plain}

-- "Reading the image of a rail in shape gives that rail."
abbrev pub ReadsFirst : Type 0
ReadsFirst = (w : Network) → Plain w → in_shape w ≡ true → load_first (image w) ≡ record { number = 0; network = w }

-- "An image is the image of one rail"
abbrev pub OneFirst : Type 0
OneFirst = (w v : Network) → Plain w → Plain v → in_shape w ≡ true → in_shape v ≡ true → image w ≡ image v → w ≡ v

-- Bytes that are read are the image of what they give, a network in shape; others are refused with 13 and give the empty network.
pub record OnlyFirst (s : List ℕ) : Type 0 where
  pub taken : (load_first s).number ≡ 0 → (image (load_first s).network ≡ s) × (in_shape (load_first s).network ≡ true) × Plain (load_first s).network
  pub refused : ((w : Network) → Plain w → in_shape w ≡ true → image w ≡ s → ⊥) → load_first s ≡ record { number = bad_image; network = empty_network }

abbrev pub ReadsOnlyFirst : Type 0
ReadsOnlyFirst = (s : List ℕ) → OnlyFirst s

-- how many messages wait
unfoldable pub waiting : Network → ℕ
waiting w = sum max_agents (λ i. sum max_agents (λ j. length (w.channel i j)))

-- "808 + 170 × n + 16 × k bytes for k messages"
abbrev pub ImageLength : Type 0
ImageLength = (w : Network) → Plain w → length (image w) ≡ messages_start w.problem.count + message_length * waiting w
