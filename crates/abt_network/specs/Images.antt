-- Bytes that are read as a network. docs/FORMATS.md, 'The image' and 'The second form'.
use Rattle.std.specs.Prelude.{ℕ, ◌≡◌, List}
use Rattle.model_network.specs.Network.{Network}
use Rattle.model_image_forms.specs.Reading.{load}

-- these bytes are an image, and it gives the network w
abbrev pub ReadsAs : List ℕ → Network → Type 0
ReadsAs s w = load s ≡ record { number = 0; network = w }
