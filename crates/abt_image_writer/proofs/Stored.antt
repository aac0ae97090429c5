-- The answer of the writer: the tests of the definition, one by one, and how long the image is.
-- Bytes put from the beginning on stand before what the buffer had behind them.
use Rattle.std.proofs.Common.{ℕ, ◌+◌, ◌*◌, ◌≤◌, ◌<◌, ◌≡◌, sym, ap, true, false, List, ◌∷◌, ◌++◌, zero-add, arith, length, length-append, le-leb}
use borrow.Author.Tests.{lt-leb}
use Rattle.model_base.specs.Finite.{gather}
use Rattle.model_base.specs.Lent.{short_buffer, untouched, put}
use Rattle.model_base.proofs.Gathers.{gather-list}
use Rattle.model_base.proofs.Tests.{test}
use Rattle.model_sheet.specs.Problem.{max_agents, domain}
use Rattle.model_network.specs.Network.{Network as Network'}
use Rattle.model_network.specs.Shape.{in_shape}
use Rattle.model_network.specs.Delivery.{BadShape, rejection_number}
use Rattle.abt_record.specs.declared.Network.{Network}
use Rattle.abt_record.specs.Abstract.{problem_of, network_of}
use Rattle.model_image.specs.Image.{slots, first_form, byte_for, header_bytes, ban_bytes, agent_bytes, all_lines, heads_from, messages_from, image}
use Rattle.model_image.specs.Reading.{header_length, bans_length, agent_length}
use Rattle.model_image_forms.specs.Forms.{Form, image_in}
use Rattle.model_image_forms.specs.Writing.{store}
use Rattle.model_image.proofs.Lengths.{header-length, bans-length, agents-length}
use Rattle.support_buffer.proofs.Within.{Within, put-within, untouched-within}
use Rattle.support_buffer.specs.Abstract.{over}
use Rattle.abt_image_writer.proofs.Chains.{heads-long}

-- ---- the tests

module _ (form : Form) (w : Network') (buffer : List ℕ) where
  pub stores-broken : in_shape w ≡ false → store form w buffer ≡ untouched 5 buffer
  unfolding store rejection_number
  stores-broken e = rw (e, store)

  pub stores-short : in_shape w ≡ true → length buffer < length (image_in form w) → store form w buffer ≡ untouched 12 buffer
  unfolding store put short_buffer
  stores-short e h = rw (e, store, lt-leb (length (image_in form w)) (length buffer) h, put)

  pub stores : (new : List ℕ) → in_shape w ≡ true → length (image_in form w) ≤ length buffer → new ≡ over 0 (image_in form w) buffer
      → store form w buffer ≡ record { number = 0; length = length (image_in form w); buffer = new }
  unfolding store put
  stores new e h p = rw (e, store, le-leb (length (image_in form w)) (length buffer) h, put, p) (rw zero-add)

-- ---- the length

pub image_long : (w : Network') → length (image w) ≡ 808 + 170 * w.problem.count + length (messages_from 0 (all_lines w))
unfolding image header_length bans_length agent_length
image_long w =
    let h = header_bytes w in
    let b = ban_bytes w.problem in
    let a = gather w.problem.count 1 (λ i. agent_bytes (w.agents i)) in
    let d = heads_from 0 (all_lines w) in
    let m = messages_from 0 (all_lines w) in
    omega (
      arith,
      length-append h b,
      length-append (h ++ b) a,
      length-append (h ++ b ++ a) d,
      length-append (h ++ b ++ a ++ d) m,
      header-length w,
      bans-length w.problem,
      agents-length w.problem.count w.agents,
      heads-long w,
    )

-- ---- the header

pub header-put : (r : Network) → length r.domains ≡ 12 → first_form ∷ r.count ∷ r.rule ∷ byte_for r.unsolvable ∷ r.domains ≡ header_bytes (network_of r)
unfolding header_bytes slots domain max_agents gather network_of problem_of
header-put r e = ap (λ (l : List ℕ). first_form ∷ r.count ∷ r.rule ∷ byte_for r.unsolvable ∷ l) (sym (gather-list 12 r.domains 0 e))

pub store-within : (form : Form) (w : Network') (buffer : List ℕ) → Within (store form w buffer)
unfolding store
store-within form w buffer =
    test (in_shape w)
    (λ t. rw (t, store) (put-within (image_in form w) buffer))
    (λ t. rw (t, store) (untouched-within (rejection_number BadShape) buffer))
