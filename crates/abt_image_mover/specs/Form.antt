-- The form of an image that the code names. A primed name is the definitions'.
use Rattle.model_image_forms.specs.Forms.{Form as Form', First as First', Second as Second'}
use Rattle.abt_image_mover.specs.declared.Form.{Form}
use Rattle.abt_image_mover.specs.declared.Form.TheVariants.{First, Second}

abbrev pub form_named : Form → Form'
form_named First = First'
form_named Second = Second'
