-- `is_image` is whether the network is in shape and the bytes are its image.
use Rattle.std.proofs.Common.{refl, sym, ap, ap₂, ◌∙◌, ◌&&◌, List, ℕ}
use Rattle.model_base.specs.Same.{same_numbers}
use Rattle.abt_record.specs.Abstract.{network_of}
use Rattle.abt_image_reader.proofs.Comparing.{pointwise_same}
use Rattle.abt_image_reader.proofs.Written.{not_written, is-written}
use Rattle.abt_image_reader.proofs.is_image.Goals as goal

pub returns-in-Ok : goal.returns-in-Ok
returns-in-Ok c =
    let w = is-written _ _ _ refl c.in-Ok.length c.in-Ok.ensures.out_after in
    c.eq.ensures ∙ pointwise_same _ _ ∙ sym (ap₂ ◌&&◌ w.0 (ap (λ (l : List ℕ). same_numbers l c.args.s.now) (sym w.2)))

pub returns-in-Err : goal.returns-in-Err
returns-in-Err c = let n = not_written (network_of c.args.r) _ c.store.new.out refl _ c.in-Err.ensures.out_after in rw n refl
