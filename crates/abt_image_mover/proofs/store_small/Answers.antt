-- `store_small` writes the first form for itself, and from that the second.
use Rattle.std.proofs.Common.{ℕ, refl, sym, ap, ◌∙◌, subst, List}
use Rattle.std.proofs.lemmas.Result.{err_from_is_err_and}
use Rattle.model_base.specs.Lent.{put}
use Rattle.support_buffer.proofs.Within.{counted}
use Rattle.abt_record.specs.Abstract.{network_of}
use Rattle.model_image_forms.specs.Forms.{Second, small}
use Rattle.abt_image_reader.proofs.Owned.{network-fits}
use Rattle.abt_image_reader.proofs.Plainness.{network_of-plain}
use Rattle.abt_image_reader.proofs.Written.{is-written}
use Rattle.abt_image_writer.proofs.Stored.{store-within}
use Rattle.abt_image_mover.specs.Whole.{Packable}
use Rattle.abt_image_mover.proofs.Images.{image-packable}
use Rattle.abt_image_mover.proofs.Answers.{stores-small, stores-refused}
use Rattle.abt_image_mover.proofs.store_small.Goals as goal

pub returns-in_err-n-clause-out_after : goal.returns-in_err-n-clause-out_after
returns-in_err-n-clause-out_after c =
    let p = err_from_is_err_and c.from_residual.result c.from_residual.ensures.1 in
    rw (p.1, p.2) (stores-refused (network_of c.args.r) _ _ c.args.out.now _ refl c.in_err-n.ensures.out_after)

pub write_small-requires : goal.write_small-requires
write_small-requires c =
    let r = c.args.r in
    let i = is-written _ _ _ refl _ c.in_ok-n.ensures.out_after in
    subst Packable (sym i.2) (image-packable (network_of r) (network_of-plain r (network-fits r _ c.well_formed.0)) i.0)

pub returns : goal.returns
returns c =
    let w = network_of c.args.r in
    let out = c.args.out.now in
    let i = is-written _ _ _ refl _ c.in_ok-n.ensures.out_after in
    let e = c.write_small.ensures ∙ ap (λ (l : List ℕ). put (small l) out) i.2 ∙ sym (stores-small w out i.0) in
    record { out_after = e; length_in_bounds = counted c.write_small.result c.write_small.new.out _ e (store-within Second w out) }
