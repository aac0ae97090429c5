-- A plain network in shape is itself again after a write and a read, in either form, where the buffer has room; where it has none the writer
-- refuses, with 12. What was written is the image, whatever the buffer held, and the image reads back. So writes and reads between calls change nothing.
use Rattle.std.proofs.Common.{◌≡◌, refl, ap, ◌∙◌, true, List, [], ◌∷◌, ◌++◌, ℕ, ◌+◌, ◌<◌, zero-add, arith, length}
use Rattle.model_base.specs.Lists.{All}
use Rattle.model_base.specs.Lent.{short_buffer}
use Rattle.model_base.proofs.Lists.{All-append}
use Rattle.model_network.specs.Network.{Network}
use Rattle.model_network.specs.Shape.{in_shape}
use Rattle.model_network.specs.Run.{Line}
use Rattle.theorems_shape.proofs.Shape.{deliver-keeps, run-keeps}
use Rattle.theorems_network.specs.Calls.{Call, Deliver, Run, tried_by, left_by, made_by, left_by_all, tried_by_all, made_by_all}
use Rattle.model_image.specs.Plain.{Plain}
use Rattle.model_image_forms.specs.Forms.{Form, image_in}
use Rattle.model_image_forms.specs.Reading.{load}
use Rattle.model_image_forms.specs.Writing.{store}
use Rattle.model_image_forms.specs.Claims.{bytes_of}
use Rattle.model_image_forms.proofs.Buffers.{Puts, too_short, written, puts}
use Rattle.model_image_forms.proofs.Theorems.{reads-back}
use Rattle.theorems_image.specs.Entries.{
  Entry,
  Made,
  Stored,
  read_back,
  left_by_entry,
  read_by,
  tried_by_entry,
  made_by_entry,
  left_by_entries,
  read_by_entries,
  tried_by_entries,
  made_by_entries,
  call_in,
  calls_in,
}
use Rattle.theorems_image.specs.Claims.{Carried, CarriesAcrossAnywhere, ReadsWithRoom}
use Rattle.theorems_image.proofs.Delivery.{calls-plain}

-- ---- one write and one read

data Writes (form : Form) (w : Network) (buffer : List ℕ) : Type 0 where
  refuses : length buffer < length (image_in form w) → (store form w buffer).number ≡ short_buffer → Writes form w buffer
  writes : (store form w buffer).number ≡ 0 → bytes_of (store form w buffer) ≡ image_in form w → Writes form w buffer

writing : (form : Form) (w : Network) (buffer : List ℕ) → in_shape w ≡ true → Writes form w buffer
unfolding store
writing form w buffer s = go (puts (image_in form w) buffer)
  where
    go : Puts (image_in form w) buffer → Writes form w buffer
    go (too_short short e) = refuses short (rw (s, store) e)
    go (written e b) = writes (rw (s, store) e) (rw (s, store) b)

given_back : (form : Form) (w : Network) (buffer : List ℕ) → Plain w → in_shape w ≡ true → bytes_of (store form w buffer) ≡ image_in form w
    → read_back (store form w buffer) ≡ record { number = 0; network = w }
unfolding read_back
given_back form w buffer plain s b = ap load b ∙ reads-back form w plain s

-- the network stays, and a read answers 0
record Stays (form : Form) (buffer : List ℕ) (w : Network) : Type 0 where
  left : left_by_entry (Stored form buffer) w ≡ w
  read : All (λ number. number ≡ 0) (read_by (Stored form buffer) w)

stays : (form : Form) (buffer : List ℕ) (w : Network) → Plain w → in_shape w ≡ true → Stays form buffer w
unfolding left_by_entry read_by short_buffer
stays form buffer w plain s = go (writing form w buffer s)
  where
    go : Writes form w buffer → Stays form buffer w
    go (refuses _ e) = record { left = rw (e, left_by_entry); read = rw (e, read_by) tt }
    go (writes e b) =
        let r = given_back form w buffer plain s b in
        record { left = rw (e, left_by_entry, r); read = rw (e, read_by, r) (refl, tt) }

pub read-with-room : ReadsWithRoom
unfolding read_by
read-with-room form w plain s buffer room = go (writing form w buffer s)
  where
    go : Writes form w buffer → read_by (Stored form buffer) w ≡ 0 ∷ []
    go (refuses short e) = absurd (omega arith)
    go (writes e b) = rw (e, read_by, given_back form w buffer plain s b)

-- ---- calls with writes and reads between them

call-keeps : (c : Call) (w : Network) → in_shape w ≡ true → in_shape (left_by c w) ≡ true
unfolding left_by
call-keeps (Deliver i j) w s = deliver-keeps w i j s
call-keeps (Run k) w s = run-keeps k w s

call-plain : (c : Call) (w : Network) → Plain w → Plain (left_by c w)
unfolding left_by_all
call-plain c w plain = calls-plain w (c ∷ []) plain

made-first : (c : Call) (es : List Entry) (w : Network) → Carried es (left_by c w) → Carried (Made c ∷ es) w
unfolding left_by_entry left_by_entries read_by read_by_entries tried_by_entry tried_by_entries made_by_entry made_by_entries call_in calls_in left_by_all tried_by_all made_by_all
made-first c es w C =
    record {
      leaves = C.leaves;
      tries = ap (λ (l : List Line). tried_by c w ++ l) C.tries;
      makes = ap (λ (n : ℕ). made_by c w + n) C.makes;
      reads = C.reads;
    }

stored-first : (form : Form) (buffer : List ℕ) (es : List Entry) (w : Network) → Stays form buffer w → Carried es w
    → Carried (Stored form buffer ∷ es) w
unfolding left_by_entries read_by_entries tried_by_entry tried_by_entries made_by_entry made_by_entries call_in calls_in
stored-first form buffer es w S C =
    record {
      leaves = rw S.left C.leaves;
      tries = rw S.left C.tries;
      makes = rw S.left (zero-add (made_by_entries es w) ∙ C.makes);
      reads = rw S.left (All-append (λ number. number ≡ 0) (read_by (Stored form buffer) w) (read_by_entries es w) S.read C.reads);
    }

pub carries : CarriesAcrossAnywhere
unfolding left_by_entries read_by_entries tried_by_entries made_by_entries calls_in left_by_all tried_by_all made_by_all
carries w plain s [] = record { leaves = refl; tries = refl; makes = refl; reads = tt }
carries w plain s (Made c ∷ es) = made-first c es w (carries (left_by c w) (call-plain c w plain) (call-keeps c w s) es)
carries w plain s (Stored form buffer ∷ es) = stored-first form buffer es w (stays form buffer w plain s) (carries w plain s es)
