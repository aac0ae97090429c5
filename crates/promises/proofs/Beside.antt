-- The claims of specs/Claims.antt: each is a law of another crate, told here in the claim's own shape. Assumes nothing.
use Rattle.std.proofs.Common.{◌≡◌, refl, eq-eqb}
use Rattle.model_agent.specs.Receiving.{quiet, answer, outdated, on_back, react}
use Rattle.theorems_agent.proofs.Uncounted.{react-uncounted}
use Rattle.theorems_network.proofs.Waiting.{waits-channel}
use Rattle.model_sheet.proofs.Longest.{decode-cut}
use Rattle.model_sheet.proofs.Writing.{writing-decodes, writing-bans}
use Rattle.model_network.specs.Network.{Network}
use Rattle.model_image.specs.Image.{first_form, header_bytes, image}
use Rattle.model_image_forms.specs.Forms.{Form, First, Second, second_form, image_in, other_form, form_of}
use Rattle.model_image_forms.specs.Moving.{moved}
use Rattle.model_image_forms.specs.Reading.{load}
use Rattle.model_image_forms.proofs.Forms.{small-first, large-small}
use Rattle.model_image.proofs.Cases as first
use Rattle.model_image_forms.proofs.Cases as forms
use Rattle.promises.specs.Claims.{
  OutdatedAnswered,
  CountsUnread,
  WaitsAsHeld,
  CutDecodes,
  WritingDecodes,
  WritingBans,
  LargeOfSmall,
  MovedForm,
  FirstWorked,
  FormsWorked,
}

pub outdated-answered : OutdatedAnswered
unfolding react on_back outdated quiet answer
outdated-answered s bans a from lhs e = rw (e, on_back, eq-eqb a.value a.value refl, outdated)

pub counts-unread : CountsUnread
counts-unread = react-uncounted

pub waits-as-held : WaitsAsHeld
waits-as-held = waits-channel

pub cut-decodes : CutDecodes
cut-decodes = decode-cut

pub writing-accepted : WritingDecodes
writing-accepted edition p rows g = writing-decodes edition p rows g.known g.range g.good

pub writing-banned : WritingBans
writing-banned edition p rows g = writing-bans edition p rows g.known g.range g.good

pub large-of-small : LargeOfSmall
large-of-small = large-small

form_of-image : (form : Form) (w : Network) → form_of (image_in form w) ≡ form
unfolding form_of image_in image header_bytes first_form second_form
form_of-image First w = refl
form_of-image Second w = rw (small-first w, form_of)

pub moved-form : MovedForm
unfolding moved
moved-form s = form_of-image (other_form (form_of s)) (load s).network

pub first-worked : FirstWorked
first-worked = (first.written-nine, first.same-nine, first.none_read)

pub forms-worked : FormsWorked
forms-worked =
    record {
      written = forms.written-nine;
      made_small = forms.small-nine;
      made_large = forms.large-nine;
      read_large = forms.read-large;
      read_small = forms.read_small;
      moved_large = forms.moved-nine.0;
      moved_small = forms.moved-nine.1;
      refused = forms.none_read;
    }
