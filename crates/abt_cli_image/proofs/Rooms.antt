-- What is stored or moved fits the buffer that is lent, so that it is handed over whole.
-- No image has more than 19,744 bytes: the second form is no longer than the first.
use Rattle.std.proofs.Common.{◌≡◌, ◌≤◌, ℕ, true, List, length, arith, eqb, eqb-true}
use Rattle.model_base.proofs.Tests.{test}
use Rattle.model_network.specs.Network.{Network}
use Rattle.model_network.specs.Shape.{in_shape}
use Rattle.model_network.specs.Delivery.{rejection_number}
use Rattle.model_image.specs.Image.{all_lines}
use Rattle.model_image.specs.Reading.{header_length, bans_length, agent_length, heads_length, message_length, agents_start, heads_start, messages_start, bad_image}
use Rattle.model_image.proofs.Lengths.{messages-length}
use Rattle.model_image_forms.specs.Packing.{packed_length}
use Rattle.model_image_forms.specs.Forms.{Form, First, Second, image_in, form_of, other_form}
use Rattle.model_image_forms.specs.Reading.{load}
use Rattle.model_image_forms.specs.Writing.{store}
use Rattle.model_image_forms.specs.Moving.{moved, move}
use Rattle.model_image_forms.proofs.Forms.{small-length}
use Rattle.model_image_forms.proofs.Theorems.{reads-only-images}
use Rattle.abt_image_writer.proofs.Stored.{image_long}
use Rattle.abt_image_reader.proofs.Written.{image-fits}
use Rattle.support_cli.specs.Answers.{hands_over}
use Rattle.support_cli.proofs.Handing.{hands-put, hands-untouched}
use Rattle.abt_cli_image.specs.Answers.{stored, moved_answer}

image-room : (form : Form) (w : Network) → in_shape w ≡ true → length (image_in form w) ≤ 19744
unfolding image_in messages_start heads_start agents_start header_length bans_length heads_length agent_length message_length packed_length
image-room First w shape = image-fits w shape
image-room Second w shape = omega (arith, small-length w, image_long w, messages-length 0 (all_lines w), image-fits w shape)

pub hands-stored : (form : Form) (w : Network) (buffer : List ℕ) → 19744 ≤ length buffer → hands_over (store form w buffer) ≡ stored form w
unfolding store stored rejection_number
hands-stored form w buffer room =
    test (in_shape w)
    (λ t. let fits = image-room form w t in
    rw (t, store, stored) (hands-put (image_in form w) buffer (omega arith)))
    (λ t. rw (t, store, stored) (hands-untouched 5 buffer (λ e. omega arith)))

moved-room : (s : List ℕ) → (load s).number ≡ 0 → length (moved s) ≤ 19744
unfolding moved
moved-room s z = image-room (other_form (form_of s)) (load s).network ((reads-only-images s).taken z).1

pub hands-moved : (s buffer : List ℕ) → 19744 ≤ length buffer → hands_over (move s buffer) ≡ moved_answer s
unfolding move moved_answer bad_image
hands-moved s buffer room =
    test (eqb (load s).number 0)
    (λ t. let fits = moved-room s (eqb-true (load s).number 0 t) in
    rw (t, move, moved_answer) (hands-put (moved s) buffer (omega arith)))
    (λ t. rw (t, move, moved_answer) (hands-untouched 13 buffer (λ e. omega arith)))
