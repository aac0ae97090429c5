-- `store` answers and writes as the definition says.
-- The parts of the image are put one behind the other, where all of them have room.
use Rattle.std.proofs.Common.{Ok, sym, ◌∙◌, ◌+◌, ◌*◌, ◌≡◌, arith, length}
use Rattle.support_buffer.specs.Abstract.{written_of}
use Rattle.support_buffer.proofs.Within.{counted}
use Rattle.abt_record.specs.Abstract.{problem_of, network_of}
use Rattle.abt_record_laws.proofs.Stepping.{few-agents}
use Rattle.model_image.specs.Image.{image}
use Rattle.model_image_forms.specs.Forms.{First, image_in}
use Rattle.abt_image_writer.proofs.Stored.{stores-broken, stores-short, stores, store-within, image_long}
use Rattle.abt_image_writer.proofs.store.Goals as goal

pub returns-then-not-is_in_shape-clause-out_after : goal.returns-then-not-is_in_shape-clause-out_after
unfolding written_of
returns-then-not-is_in_shape-clause-out_after c =
    let a = c.args in
    sym (stores-broken First (network_of a.r) a.out.now (sym c.is_in_shape.ensures ∙ c.if-not-is_in_shape.true))

pub returns-then-out-length-clause-out_after : goal.returns-then-out-length-clause-out_after
unfolding written_of image_in network_of problem_of
returns-then-out-length-clause-out_after c =
    let a = c.args in
    let w = network_of a.r in
    let shape = sym c.is_in_shape.ensures ∙ c.if-not-is_in_shape.false in
    sym (stores-short First w a.out.now shape (omega (arith, c.if-out-length.true, c.messages_waiting.ensures.0, image_long w)))

pub put_image-requires : goal.put_image-requires
unfolding network_of problem_of
put_image-requires c =
    let r = c.args.r in
    let shape = sym c.is_in_shape.ensures ∙ c.if-not-is_in_shape.false in
    record { few = few-agents r shape; room = omega (arith, c.messages_waiting.ensures.0, image_long (network_of r), c.if-out-length.false) }

pub returns : goal.returns
unfolding written_of image_in network_of problem_of
returns c =
    let r = c.args.r in
    let w = network_of r in
    let shape = sym c.is_in_shape.ensures ∙ c.if-not-is_in_shape.false in
    let long : length (image w) ≡ 808 + 170 * r.count + 16 * c.messages_waiting.result = omega (arith, c.messages_waiting.ensures.0, image_long w) in
    let e = rw long at (sym (stores First w c.args.out.now _ shape (omega (arith, long, c.if-out-length.false)) c.put_image.ensures)) in
    record {
      out_after = e;
      length_in_bounds = counted (Ok (808 + 170 * r.count + 16 * c.messages_waiting.result)) c.put_image.new.out _ e (store-within First w c.args.out.now);
    }
