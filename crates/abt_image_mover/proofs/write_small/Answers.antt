-- `write_small` puts the second form where there is room, by its length.
use Rattle.std.proofs.Common.{ℕ, ◌≤◌, sym, ap, ◌∙◌, arith, length}
use Rattle.model_image_forms.specs.Forms.{small}
use Rattle.support_buffer.specs.Abstract.{written_of}
use Rattle.abt_image_mover.proofs.Lengths.{small-long}
use Rattle.abt_image_mover.proofs.Answers.{put-short, put_all}
use Rattle.abt_image_mover.proofs.write_small.Goals as goal

pub returns-then-out-messages : goal.returns-then-out-messages
unfolding written_of
returns-then-out-messages c =
    let s = c.args.s.now in
    sym (put-short (small s) c.args.out.now (omega (arith, small-long s c.requires.whole, c.requires.whole.long, c.if-out-messages.true)))

pub put_small-requires : goal.put_small-requires
put_small-requires c =
    let s = c.args.s.now in
    record { bytes = c.requires; room = omega (arith, small-long s c.requires.whole, c.requires.whole.long, c.if-out-messages.false) }

pub returns : goal.returns
unfolding written_of
returns c =
    let s = c.args.s.now in
    let room : length (small s) ≤ length c.args.out.now = omega (arith, small-long s c.requires.whole, c.requires.whole.long, c.if-out-messages.false) in
    sym (put_all (small s) c.args.out.now _ room c.put_small.ensures.put ∙ ap (λ (n : ℕ). record { number = 0; length = n; buffer = c.put_small.new.out }) (sym c.put_small.ensures.long))
