-- A network is written into a buffer of 19,744 bytes: that is in shape and what stands there is its image, or it is not in shape.
-- "19,744 at most": a line has at most eight messages, and there are 132 lines.
use Rattle.model_base.specs.Finite.{gather, within}
use Rattle.model_base.specs.Lent.{Written as Written', untouched, put}
use Rattle.model_base.specs.Lists.{All}
use Rattle.model_base.proofs.Lists.{gather-all}
use Rattle.model_base.proofs.Tests.{test, both, to-within}
use Rattle.model_sheet.specs.Problem.{max_agents}
use Rattle.model_agent.specs.Message.{Message}
use Rattle.model_network.specs.Network.{Network}
use Rattle.model_network.specs.Delivery.{rejection_number}
use Rattle.model_network.specs.Shape.{capacity, has_room, one_request, channel_in_shape, in_shape}
use Rattle.model_image.specs.Image.{header_bytes, ban_bytes, agent_bytes, all_lines, heads_from, messages_from, image}
use Rattle.model_image.specs.Reading.{header_length, bans_length, agent_length, message_length, line_count}
use Rattle.model_image_forms.specs.Forms.{First, image_in}
use Rattle.model_image_forms.specs.Writing.{store}
use Rattle.model_image.proofs.Lengths.{header-length, bans-length, agents-length, heads-length, lines-count, total, messages-length}
use Rattle.model_image.proofs.Parsing.{parts}
use Rattle.std.proofs.Common.{Ok, Err, ℕ, ◌*◌, ◌≤◌, ◌≡◌, refl, sym, ap, ap₂, ◌∙◌, true, false, ◌&&◌, List, [], ◌∷◌, ◌++◌, arith, eqb, length, take, drop, length-append, take_at, leb-true, le-leb}
use Rattle.support_rejection.specs.declared.Rejection.{Rejection}
use Rattle.abt_image_writer.proofs.Stored.{image_long}
use Rattle.support_buffer.specs.Abstract.{written_of}

-- ---- how long an image is

total-most : (ls : List (List Message)) → All (λ l. length l ≤ 8) ls → total ls ≤ 8 * length ls
unfolding total
total-most [] h = omega arith
total-most (l ∷ ls) h = omega (arith, h.0, total-most ls h.1)

module _ (w : Network) (shape : in_shape w ≡ true) where
  lines-short : All (λ l. length l ≤ 8) (all_lines w)
  unfolding all_lines capacity channel_in_shape has_room
  lines-short =
      gather-all _ _ max_agents 1
      (λ i a b. gather-all _ _ max_agents 1
      (λ j c d. test (eqb i j)
      (λ e. rw e tt)
      (λ e. rw e (short i j (to-within max_agents i a (omega arith)) (to-within max_agents j c (omega arith)), tt))))
    where
      short : (i j : ℕ) → within max_agents i ≡ true → within max_agents j ≡ true → length (w.channel i j) ≤ 8
      short i j a b =
          leb-true (length (w.channel i j)) 8 (both (has_room w i j) (one_request w i j) (both (has_room w i j && one_request w i j) _ ((parts w shape).channels i j a b)).0).0

  pub image-fits : length (image w) ≤ 19744
  unfolding image header_length bans_length agent_length message_length line_count max_agents
  image-fits =
      let a = header_bytes w in
      let b = ban_bytes w.problem in
      let c = gather w.problem.count 1 (λ i. agent_bytes (w.agents i)) in
      let d = heads_from 0 (all_lines w) in
      let e = messages_from 0 (all_lines w) in
      omega (
        arith,
        length-append (a ++ b ++ c ++ d) e,
        length-append (a ++ b ++ c) d,
        length-append (a ++ b) c,
        length-append a b,
        header-length w,
        bans-length w.problem,
        agents-length w.problem.count w.agents,
        heads-length 0 (all_lines w),
        messages-length 0 (all_lines w),
        lines-count w,
        total-most (all_lines w) lines-short,
        (parts w shape).problem.high,
      )

-- ---- what is written

module _ (w : Network) (buffer new : List ℕ) (long : length buffer ≡ 19744) where
  written : in_shape w ≡ true → store First w buffer ≡ record { number = 0; length = length (image w); buffer = image w ++ drop (length (image w)) buffer }
  unfolding store image_in put
  written t = rw (t, store, le-leb (length (image w)) (length buffer) (omega (arith, image-fits w t)), put)

  unwritten : in_shape w ≡ false → (store First w buffer).number ≡ 5
  unfolding store untouched rejection_number
  unwritten t = rw (t, store)

  -- out of shape: no image has no bytes
  pub not_written : (r : Rejection) → written_of (Err r) new ≡ store First w buffer → in_shape w ≡ false
  unfolding written_of untouched
  not_written r e =
      test (in_shape w)
      (λ t. absurd (let z : 0 ≡ length (image w) = ap (λ (x : Written'). x.length) (e ∙ written t) in omega (arith, z, image_long w)))
      (λ t. t)

  -- in shape, and what stands in the buffer
  pub is-written : (n : ℕ) → written_of (Ok n) new ≡ store First w buffer → (in_shape w ≡ true) × (n ≤ length new) × (take n new ≡ image w)
  unfolding written_of
  is-written n e =
      test (in_shape w)
      (λ t.
      let whole = e ∙ written t in
      let l : n ≡ length (image w) = ap (λ (x : Written'). x.length) whole in
      let b : new ≡ image w ++ drop (length (image w)) buffer = ap (λ (x : Written'). x.buffer) whole in
      (t, omega (arith, ap length b, length-append (image w) (drop (length (image w)) buffer)), ap₂ take l b ∙ take_at (image w) _ (length (image w)) refl))
      (λ t. absurd (let f : 5 ≡ 0 = sym (unwritten t) ∙ sym (ap (λ (x : Written'). x.number) e) in omega arith))
