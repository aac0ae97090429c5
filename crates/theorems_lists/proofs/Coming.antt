-- A mixed list is the calls that it comes to. A step leaves what its calls leave, and a write and a read leave a plain network in shape, its count and
-- its place as they are; so every item finds the network that the calls before it left, plain and in shape, and what it does is what its calls do.
use Rattle.std.proofs.Common.{◌≡◌, refl, sym, ap, true, List, [], ◌∷◌, ◌++◌, append-nil, append_assoc, ℕ}
use Rattle.model_base.specs.Lists.{All}
use Rattle.model_base.proofs.Lists.{All-append}
use Rattle.model_network.specs.Network.{Network}
use Rattle.model_network.specs.Shape.{in_shape}
use Rattle.model_network.specs.Run.{Line}
use Rattle.theorems_network.specs.Calls.{Call, Deliver, Run, left_by, left_by_all, tried_by_all, made_by_all}
use Rattle.theorems_network.specs.Marking.{parts_of_all}
use Rattle.theorems_network.specs.Deeds.{handed_to, posts_by, handed_in, posts_in}
use Rattle.theorems_network.proofs.Theorems.{deliver-keeps, run-keeps}
use Rattle.model_image.specs.Plain.{Plain}
use Rattle.model_image_forms.specs.Forms.{Form}
use Rattle.theorems_image.specs.Entries.{Stored, left_by_entry, read_by, left_by_entries, read_by_entries, calls_in as calls_in_entries, call_in}
use Rattle.theorems_image.proofs.Theorems.{stays_plain, carries-across-anywhere}
use Rattle.model_dispatch.specs.Dispatch.{Dispatcher, with_network}
use Rattle.theorems_dispatch.specs.Steps.{Step, left_by_step, left_by_steps, calls_by, calls_in}
use Rattle.theorems_dispatch.proofs.Theorems.{picks-are-calls}
use Rattle.theorems_lists.specs.Items.{
  Item,
  Stepped,
  Saved,
  left_by_item,
  calls_by_item,
  read_by_item,
  left_by_items,
  calls_in_items,
  read_by_items,
  tried_by_items,
  made_by_items,
  parts_of_items,
  handed_by_items,
  posts_by_items,
  steps_by,
  steps_in,
}
use Rattle.theorems_lists.specs.Claims.{Comes, ComesToCallsAnywhere, StaysMixed}
use Rattle.theorems_lists.proofs.Joining.{left-join, tried-join, made-join, parts-join, handed-join, posts-join}

-- ---- a list of calls keeps a network plain and in shape

keeps-shape : (calls : List Call) (w : Network) → in_shape w ≡ true → in_shape (left_by_all calls w) ≡ true
unfolding left_by_all left_by
keeps-shape [] w s = s
keeps-shape (Deliver i j ∷ calls) w s = keeps-shape calls _ (deliver-keeps w i j s)
keeps-shape (Run k ∷ calls) w s = keeps-shape calls _ (run-keeps k w s)

record Good (w : Network) : Type 0 where
  plain : Plain w
  shape : in_shape w ≡ true

keeps-good : (calls : List Call) (w : Network) → Good w → Good (left_by_all calls w)
keeps-good calls w G = record { plain = stays_plain w calls G.plain; shape = keeps-shape calls w G.shape }

-- ---- one item

saved-stays : (form : Form) (buffer : List ℕ) (w : Network) → Good w → left_by_entry (Stored form buffer) w ≡ w
unfolding left_by_entries calls_in_entries call_in left_by_all
saved-stays form buffer w G = (carries-across-anywhere w G.plain G.shape (Stored form buffer ∷ [])).leaves

saved-reads : (form : Form) (buffer : List ℕ) (w : Network) → Good w → All (λ number. number ≡ 0) (read_by (Stored form buffer) w)
unfolding read_by_entries
saved-reads form buffer w G =
    rw (append-nil (read_by (Stored form buffer) w)) at (carries-across-anywhere w G.plain G.shape (Stored form buffer ∷ [])).reads

record Does (x : Item) (d : Dispatcher) : Type 0 where
  leaves : (left_by_item x d).network ≡ left_by_all (calls_by_item x d) d.network
  reads : All (λ number. number ≡ 0) (read_by_item x d)
  calls : calls_by_item x d ≡ calls_in (steps_by x) d
  state : left_by_item x d ≡ left_by_steps (steps_by x) d

does : (x : Item) (d : Dispatcher) → Good d.network → Does x d
unfolding left_by_item calls_by_item read_by_item steps_by left_by_steps calls_in left_by_all
does (Stepped s) d G =
    record {
      leaves = rw (append-nil (calls_by s d)) at (picks-are-calls d (s ∷ []));
      reads = tt;
      calls = sym (append-nil (calls_by s d));
      state = refl;
    }
does (Saved form buffer) d G =
    let e = saved-stays form buffer d.network G in
    record { leaves = e; reads = saved-reads form buffer d.network G; calls = refl; state = ap (with_network d) e }

-- ---- lists of steps one after the other

steps-join : (early late : List Step) (d : Dispatcher) → left_by_steps (early ++ late) d ≡ left_by_steps late (left_by_steps early d)
unfolding left_by_steps
steps-join [] late d = refl
steps-join (s ∷ early) late d = steps-join early late (left_by_step s d)

calls-join : (early late : List Step) (d : Dispatcher) → calls_in (early ++ late) d ≡ calls_in early d ++ calls_in late (left_by_steps early d)
unfolding calls_in left_by_steps
calls-join [] late d = refl
calls-join (s ∷ early) late d =
    rw (calls-join early late (left_by_step s d)) (sym (append_assoc (calls_by s d) (calls_in early (left_by_step s d)) _))

-- ---- the list

comes-next : (x : Item) (xs : List Item) (d : Dispatcher) → Does x d → Comes xs (left_by_item x d) → Comes (x ∷ xs) d
unfolding left_by_items calls_in_items read_by_items tried_by_items made_by_items parts_of_items handed_by_items posts_by_items steps_in
comes-next x xs d D C =
    let w = d.network in
    let cs = calls_by_item x d in
    let rest = calls_in_items xs (left_by_item x d) in
    record {
      leaves = rw (left-join cs rest w, ← D.leaves) C.leaves;
      tries = rw (tried-join cs rest w, ← D.leaves) (ap (λ (ls : List Line). tried_by_all cs w ++ ls) C.tries);
      makes = rw (made-join cs rest w, ← D.leaves, C.makes);
      parts = rw (parts-join cs rest w, ← D.leaves, C.parts);
      hands = λ j. rw (handed-join j cs rest w, ← D.leaves, C.hands j);
      sends = λ j. rw (posts-join j cs rest w, ← D.leaves, C.sends j);
      reads = All-append (λ number. number ≡ 0) (read_by_item x d) (read_by_items xs (left_by_item x d)) D.reads C.reads;
      calls = rw (calls-join (steps_by x) (steps_in xs) d, ← D.state, ← D.calls, C.calls);
      state = rw (steps-join (steps_by x) (steps_in xs) d, ← D.state) C.state;
    }

comes : (items : List Item) (d : Dispatcher) → Good d.network → Comes items d
unfolding left_by_items calls_in_items read_by_items tried_by_items made_by_items parts_of_items handed_by_items posts_by_items steps_in left_by_all tried_by_all made_by_all parts_of_all handed_in posts_in handed_to posts_by left_by_steps calls_in
comes [] d G =
    record { leaves = refl; tries = refl; makes = refl; parts = refl; hands = λ j. refl; sends = λ j. refl; reads = tt; calls = refl; state = refl }
comes (x ∷ xs) d G =
    let D = does x d G in
    comes-next x xs d D (comes xs (left_by_item x d) (rw D.leaves (keeps-good (calls_by_item x d) d.network G)))

pub comes-to-calls : ComesToCallsAnywhere
comes-to-calls d plain shape items = comes items d (record { plain = plain; shape = shape })

pub stays-good : StaysMixed
stays-good d plain shape items =
    let C = comes items d (record { plain = plain; shape = shape }) in
    rw C.leaves (stays_plain d.network (calls_in_items items d) plain, keeps-shape (calls_in_items items d) d.network shape)
