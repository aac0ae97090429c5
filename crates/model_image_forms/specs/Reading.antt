-- Reading an image of either form. docs/FORMATS.md, 'The second form'.
use Rattle.std.specs.Prelude.{ℕ, Bool, true, false, ◌&&◌, List}
use Rattle.model_base.specs.Same.{same_numbers}
use Rattle.model_network.specs.Network.{empty_network}
use Rattle.model_image.specs.Reading.{Loaded, bad_image, is_image, parse, load_first}
use Rattle.model_image_forms.specs.Forms.{Form, First, Second, small, large, form_of}

-- the bytes are the second form of an image of a network in shape
unfoldable pub is_small : List ℕ → Bool
is_small s = is_image (large s) && same_numbers (small (large s)) s

unfoldable pub load_second : List ℕ → Loaded
load_second s =
    elim (is_small s) [ true ↦ record { number = 0; network = parse (large s) } | false ↦ record { number = bad_image; network = empty_network } ]

unfoldable pub load_as : Form → List ℕ → Loaded
load_as First s = load_first s
load_as Second s = load_second s

-- "The reader takes bytes exactly if they are the image of a rail in shape, in either form, and gives that rail; otherwise 13 and the empty rail."
unfoldable pub load : List ℕ → Loaded
load s = load_as (form_of s) s
