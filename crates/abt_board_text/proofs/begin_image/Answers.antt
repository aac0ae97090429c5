-- The reader's contract, for the whole input, and a dispatcher that begins with its network.
use Rattle.std.proofs.Common.{◌≡◌, sym, ap, ◌∙◌, List, ℕ, Result}
use Rattle.support_rejection.specs.declared.Rejection.{Rejection}
use Rattle.model_image.specs.Reading.{Loaded}
use Rattle.model_image_forms.specs.Reading.{load}
use Rattle.abt_image_reader.specs.Loaded.{loaded_of}
use Rattle.model_dispatch.specs.Dispatch.{dispatcher}
use Rattle.abt_dispatch.specs.declared.Dispatcher.{Dispatcher}
use Rattle.abt_image_mover.proofs.Cut.{load_cut}
use Rattle.abt_board_text.specs.Calling.{begun_number, begun_of, LoadsAs}
use Rattle.abt_board_text.proofs.begin_image.Goals as goal

loads : (image : List ℕ) (b : Result Dispatcher Rejection) → begun_number b ≡ (load image).number → begun_of b ≡ dispatcher (load image).network → LoadsAs image b
loads image b n d =
    record {
      numbered = n;
      loaded = d;
      whole = λ input h.
          let s : load image ≡ load input = ap load (sym h) ∙ load_cut input in
          (n ∙ ap (λ (x : Loaded). x.number) s, d ∙ ap (λ (x : Loaded). dispatcher x.network) s);
    }

pub returns-in-Ok : goal.returns-in-Ok
unfolding loaded_of
returns-in-Ok c =
    let e = c.in-Ok.ensures in
    loads _ _ (ap (λ (x : Loaded). x.number) e) (c.begin.ensures ∙ ap (λ (x : Loaded). dispatcher x.network) e)

pub returns-in-Err : goal.returns-in-Err
unfolding loaded_of
returns-in-Err c =
    let e = c.in-Err.ensures in
    loads _ _ (ap (λ (x : Loaded). x.number) e) (ap (λ (x : Loaded). dispatcher x.network) e)
