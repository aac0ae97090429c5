-- What the reader answers is what the definition does: bytes that are the image of what is read are taken, all others refused.
-- An image in shape is read as it is, so that it is the image of what is read; and a network of the code is plain, so that its image reads back.
use Rattle.std.proofs.Common.{ℕ, ◌<◌, ◌≡◌, sym, ap, ◌∙◌, true, false, ◌&&◌, List, arith, length, get_or}
use mathlib.Core.Bool.{false≢true}
use Rattle.model_base.specs.Same.{same_numbers}
use Rattle.model_base.proofs.Tests.{both, to_both}
use Rattle.model_base.proofs.Same.{numbers-itself, same-numbers}
use Rattle.model_sheet.specs.Problem.{max_agents}
use Rattle.model_network.specs.Network.{Network, empty_network}
use Rattle.model_network.specs.Shape.{in_shape}
use Rattle.model_image.specs.Image.{image}
use Rattle.model_image.specs.Plain.{Plain}
use Rattle.model_image.specs.Reading.{header_length, bans_length, agent_length, heads_length, agents_start, heads_start, messages_start, problem_in, parse, bad_image, load_first}
use Rattle.model_image.proofs.Parsing.{parts}
use Rattle.model_image.proofs.Theorems.{image-length, parse-image, reads_first, reads-only-first}
use Rattle.abt_image_reader.specs.Narrow.{narrow}
use Rattle.abt_image_reader.proofs.Narrowing.{shaped-kept}

module _ (s : List ℕ) where
  -- ---- no image

  abbrev Refused : Type 0
  Refused = load_first s ≡ record { number = bad_image; network = empty_network }

  -- the network that an image is read as
  read_as : (w : Network) → Plain w → in_shape w ≡ true → image w ≡ s → parse s ≡ w
  read_as w plain shape e = ap parse (sym e) ∙ parse-image w plain shape

  pub too_short : length s < 808 → Refused
  unfolding messages_start heads_start agents_start header_length bans_length heads_length agent_length
  too_short h = (reads-only-first s).refused (λ w plain shape e. omega (arith, image-length w plain, ap length e))

  pub too_many : 12 < get_or s 1 0 → Refused
  unfolding parse problem_in max_agents
  too_many h =
      (reads-only-first s).refused
      (λ w plain shape e. omega (arith, ap (λ (v : Network). v.problem.count) (read_as w plain shape e), (parts w shape).problem.high))

  -- ---- what is read

  module _ (w : Network) (is : w ≡ narrow (parse s)) where
    pub not_taken : in_shape w && same_numbers (image w) s ≡ false → Refused
    not_taken f = (reads-only-first s).refused (λ v plain shape e. false≢true (sym f ∙ passes v plain shape e))
      where
        passes : (v : Network) → Plain v → in_shape v ≡ true → image v ≡ s → in_shape w && same_numbers (image w) s ≡ true
        passes v plain shape e =
            let same : w ≡ v = is ∙ ap narrow (read_as v plain shape e) ∙ shaped-kept v plain shape in
            rw (same, e) (to_both (in_shape v) _ shape (numbers-itself s))

    pub taken : Plain w → in_shape w && same_numbers (image w) s ≡ true → load_first s ≡ record { number = 0; network = w }
    taken plain t =
        let b = both (in_shape w) (same_numbers (image w) s) t in
        ap load_first (sym (same-numbers (image w) s b.1)) ∙ reads_first w plain b.0
