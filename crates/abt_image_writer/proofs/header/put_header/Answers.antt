-- `put_header` puts four bytes and the slot counts behind them.
use Rattle.std.proofs.Common.{ℕ, refl, ap, [], ◌∷◌, rules}
use Rattle.model_base.proofs.Masks.{byte_of}
use Rattle.model_image.specs.Image.{first_form, byte_for}
use Rattle.support_buffer.proofs.Puts.{puts_then, puts-as}
use Rattle.abt_image_writer.proofs.Stored.{header-put}
use Rattle.abt_image_writer.proofs.header.put_header.Goals as goal

pub returns : goal.returns
unfolding first_form byte_for
returns c =
    let r = c.args.r.now in
    let unsolvable = puts-as refl (ap (λ (b : ℕ). b ∷ []) (byte_of r.unsolvable)) c.put-4.ensures in
    puts-as (search rules) (header-put r (search rules))
    (puts_then (puts_then (puts_then (puts_then c.put.ensures c.put-2.ensures) c.put-3.ensures) unsolvable) c.put_all.ensures)
