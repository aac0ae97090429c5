-- Writing an image of either form into a lent buffer. docs/FORMATS.md, 'The image'.
use Rattle.std.specs.Prelude.{true, false, List, ℕ}
use Rattle.model_base.specs.Lent.{Written, untouched, put}
use Rattle.model_network.specs.Network.{Network}
use Rattle.model_network.specs.Shape.{in_shape}
use Rattle.model_network.specs.Delivery.{BadShape, rejection_number}
use Rattle.model_image_forms.specs.Forms.{Form, image_in}

-- "The writer tests 5, then 12"
unfoldable pub store : Form → Network → List ℕ → Written
store form w buffer =
    elim (in_shape w) [ true ↦ put (image_in form w) buffer | false ↦ untouched (rejection_number BadShape) buffer ]
