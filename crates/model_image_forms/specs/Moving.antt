-- Moving an image from either form to the other, in a lent buffer. docs/FORMATS.md, 'The second form'.
use Rattle.std.specs.Prelude.{true, false, List, ℕ, eqb}
use Rattle.model_base.specs.Lent.{Written, untouched, put}
use Rattle.model_image.specs.Reading.{bad_image}
use Rattle.model_image_forms.specs.Forms.{image_in, form_of, other_form}
use Rattle.model_image_forms.specs.Reading.{load}

-- the image of the same network in the other form
unfoldable pub moved : List ℕ → List ℕ
moved s = image_in (other_form (form_of s)) (load s).network

-- "The mover tests 13, then 12"
unfoldable pub move : List ℕ → List ℕ → Written
move s buffer = elim (eqb (load s).number 0) [ true ↦ put (moved s) buffer | false ↦ untouched bad_image buffer ]
