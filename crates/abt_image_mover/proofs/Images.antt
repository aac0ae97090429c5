-- An image in the first form can be packed: it has at most twelve agents, whole messages, at most 1,056 of them, and low slots in their left sides.
use Rattle.std.proofs.Common.{ℕ, ◌+◌, ◌*◌, ◌≡◌, refl, subst, true, List, ◌++◌, arith, length, get_or, drop, length-append, drop_at}
use Rattle.model_base.specs.Finite.{gather}
use Rattle.model_sheet.specs.Problem.{max_agents}
use Rattle.model_network.specs.Network.{Network}
use Rattle.model_network.specs.Shape.{in_shape}
use Rattle.model_image.specs.Image.{header_bytes, ban_bytes, agent_bytes, all_lines, heads_from, messages_from, image}
use Rattle.model_image.specs.Reading.{header_length, bans_length, agent_length, heads_length, message_length, agents_start, heads_start, messages_start, load_first}
use Rattle.model_image.specs.Plain.{Plain}
use Rattle.model_image.proofs.Lengths.{total, messages-length, total-waiting, image-length}
use Rattle.model_image.proofs.Parsing.{parts, few-wait}
use Rattle.model_image.proofs.Theorems.{reads-only-first}
use Rattle.model_image_forms.specs.Packing.{packed_length}
use Rattle.model_image_forms.specs.Reading.{is_small}
use Rattle.model_image_forms.proofs.Bounds.{small-bounds}
use Rattle.model_image_forms.proofs.Slots.{lines-low, messages-low}
use Rattle.abt_image_mover.specs.Whole.{Whole, Packable}

module _ (w : Network) (plain : Plain w) (e : in_shape w ≡ true) where
  agents-in : get_or (image w) 1 0 ≡ w.problem.count
  unfolding image header_bytes
  agents-in = refl

  long : length (image w) ≡ 808 + 170 * w.problem.count + 16 * total (all_lines w)
  unfolding messages_start heads_start agents_start header_length bans_length heads_length agent_length message_length
  long = omega (arith, total-waiting w plain, image-length w plain)

  messages-in : drop (808 + 170 * w.problem.count) (image w) ≡ messages_from 0 (all_lines w)
  unfolding image message_length
  messages-in =
      let before = header_bytes w ++ ban_bytes w.problem ++ gather w.problem.count 1 (λ i. agent_bytes (w.agents i)) ++ heads_from 0 (all_lines w) in
      let messages = messages_from 0 (all_lines w) in
      drop_at before messages (808 + 170 * w.problem.count) (omega (arith, length-append before messages, messages-length 0 (all_lines w), long))

  pub image-packable : Packable (image w)
  unfolding max_agents
  image-packable =
      let p = parts w e in
      record {
        whole = record { few = rw agents-in p.problem.high; waiting = total (all_lines w); most = few-wait w plain p; long = rw agents-in long };
        low = rw (agents-in, messages-in) (messages-low 0 (all_lines w) (lines-low w plain e));
      }

pub taken-packable : (s : List ℕ) → (load_first s).number ≡ 0 → Packable s
taken-packable s z = let t = (reads-only-first s).taken z in subst Packable t.0 (image-packable (load_first s).network t.2 t.1)

-- bytes in the second form are whole
pub small-whole : (s : List ℕ) → is_small s ≡ true → Whole 10 s
unfolding messages_start heads_start agents_start header_length bans_length heads_length agent_length packed_length
small-whole s e = let b = small-bounds s e in record { few = b.few; waiting = b.waiting; most = b.most; long = omega (arith, b.long) }
