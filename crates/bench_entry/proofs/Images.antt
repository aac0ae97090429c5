-- What is read of an image, one agent more at a time; and one more write of a network into the same buffer.
use Rattle.std.proofs.Common.{ℕ, suc, ◌+◌, ◌*◌, ◌%◌, ◌<◌, Result, Ok, Err, ◌≡◌, refl, sym, ap, ◌∙◌, List, length, get_or, ne_eqb}
use mir.Val.{bool_byte}
use Rattle.model_base.specs.Lent.{Written as Written', untouched}
use Rattle.model_network.specs.Network.{Network as Network'}
use Rattle.model_base.proofs.Masks.{byte_of}
use Rattle.model_image.specs.Image.{byte_for}
use Rattle.model_image.specs.Reading.{Loaded}
use Rattle.model_image_forms.specs.Forms.{Form}
use Rattle.model_image_forms.specs.Writing.{store}
use Rattle.abt_agent.specs.declared.Agent.{Agent}
use Rattle.abt_agent.specs.Abstract.{agent_of}
use Rattle.abt_record.specs.declared.Network.{Network}
use Rattle.abt_record.specs.Abstract.{problem_of, network_of}
use Rattle.support_rejection.specs.Rejections.{rejection_number}
use Rattle.support_rejection.specs.declared.Rejection.{Rejection}
use Rattle.support_rejection.proofs.Numbers.{refusal-some}
use Rattle.abt_start.specs.Started.{started_number, started_network}
use Rattle.abt_image_reader.specs.Loaded.{loaded_of}
use Rattle.support_buffer.specs.Abstract.{written_of}
use Rattle.bench_entry.specs.Giving.{agent_mixed, read_to, read_for, written_to, length_for, length_given, WritesFor, MovesFor}
use Rattle.bench_entry.proofs.Giving.{agent-at}

-- ---- reading

pub none_read : (r : Network) → (r.count * 31 + r.rule) * 31 + bool_byte r.unsolvable ≡ read_to 0 (network_of r)
unfolding read_to network_of problem_of byte_for
none_read r = rw (byte_of r.unsolvable)

pub one-read : (r : Network) (agents : List Agent) (k sum : ℕ) (d : Agent) → r.agents ≡ agents → k < length agents → sum ≡ read_to k (network_of r)
    → agent_mixed sum (agent_of (get_or agents k d)) ≡ read_to (suc k) (network_of r)
unfolding read_to
one-read r agents k sum d q h e = rw (← q, agent-at r k d (rw q h), e)

pub all_read : (l : Loaded) (r : Network) (number sum : ℕ) → number ≡ l.number → network_of r ≡ l.network → sum ≡ read_to 12 (network_of r)
    → sum % 4294967296 * 16 + number ≡ read_for l
unfolding read_for
all_read l r number sum n e s = rw (s, n, e)

-- what is loaded, as a network and a number
pub loaded-network : (r : Result Network Rejection) (l : Loaded) → loaded_of r ≡ l → started_network r ≡ l.network
unfolding loaded_of
loaded-network (Ok r) l e = ap (λ (x : Loaded). x.network) e
loaded-network (Err r) l e = ap (λ (x : Loaded). x.network) e

pub loaded-number : (r : Result Network Rejection) (l : Loaded) → loaded_of r ≡ l → started_number r ≡ l.number
unfolding loaded_of
loaded-number (Ok r) l e = ap (λ (x : Loaded). x.number) e
loaded-number (Err r) l e = ap (λ (x : Loaded). x.number) e

-- ---- writing

-- what a writer answers comes to this buffer, and to this number
buffer-of : (x : Result ℕ Rejection) (buffer : List ℕ) → (written_of x buffer).buffer ≡ buffer
unfolding written_of untouched
buffer-of (Ok n) buffer = refl
buffer-of (Err e) buffer = refl

length-is : (x : Result ℕ Rejection) (buffer : List ℕ) → length_given x ≡ length_for (written_of x buffer)
unfolding written_of untouched length_for
length-is (Ok n) buffer = refl
length-is (Err e) buffer = rw (ne_eqb (rejection_number e) 0 (refusal-some e), length_for)

pub none_written : (form : Form) (w : Network') (before : List ℕ) → written_of (Ok 0) before ≡ written_to form 0 w before
unfolding written_of written_to untouched
none_written form w before = refl

pub one_written : (form : Form) (w : Network') (before buffer after : List ℕ) (k : ℕ) (x y : Result ℕ Rejection) → written_of x buffer ≡ written_to form k w before
    → written_of y after ≡ store form w buffer → written_of y after ≡ written_to form (suc k) w before
unfolding written_to
one_written form w before buffer after k x y e s =
    s ∙ ap (store form w) (sym (buffer-of x buffer)) ∙ ap (λ (v : Written'). store form w v.buffer) e

pub writes : (form : Form) (w v : Network') (before after : List ℕ) (times : ℕ) (x : Result ℕ Rejection) → written_of x after ≡ written_to form times v before
    → v ≡ w → WritesFor form w times before (length_given x) after
writes form w v before after times x e n =
    rw (← n)
    (record {
      answer = length-is x after ∙ ap length_for e;
      buffer = sym (buffer-of x after) ∙ ap (λ (y : Written'). y.buffer) e;
    })

-- ---- moving

pub moves : (x : Result ℕ Rejection) (after : List ℕ) (y : Written') → written_of x after ≡ y → MovesFor y (length_given x) after
moves x after y e =
    record { answer = length-is x after ∙ ap length_for e; buffer = sym (buffer-of x after) ∙ ap (λ (z : Written'). z.buffer) e }
