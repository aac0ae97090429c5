-- What is started, read, delivered and run is in shape.
-- Of a start and of calls by the claims about lists of calls, of what is read by those about images.
use Rattle.std.proofs.Common.{◌≡◌, sym, ap, subst, true, ℕ, ◌≤◌, List, [], Ok}
use Rattle.model_sheet.specs.Problem.{max_agents}
use Rattle.model_network.specs.Network.{Network as Network', start_sheet}
use Rattle.model_network.specs.Shape.{in_shape}
use Rattle.model_image.specs.Reading.{Loaded}
use Rattle.model_image_forms.specs.Reading.{load}
use Rattle.model_image_forms.proofs.Theorems.{reads-only-images}
use Rattle.theorems_shape.proofs.ShapeClauses.{shaped}
use Rattle.abt_record.specs.declared.Network.{Network as Record}
use Rattle.abt_record.specs.Abstract.{network_of}
use Rattle.abt_start.specs.Started.{StartsAs}
use Rattle.abt_image_reader.specs.Loaded.{loaded_of}
use Rattle.abt_network.specs.Histories.{Begun}
use Rattle.abt_network.proofs.Following.{begun, stays-shaped}

-- ---- the start

pub started-begun : (rule : ℕ) (sheet : List ℕ) (r : Record) → StartsAs (start_sheet rule sheet) (Ok r) → Begun rule sheet (network_of r)
started-begun rule sheet r S = begun rule sheet (network_of r) (sym S.number) S.network

pub started-shaped : (rule : ℕ) (sheet : List ℕ) (r : Record) → StartsAs (start_sheet rule sheet) (Ok r) → in_shape (network_of r) ≡ true
started-shaped rule sheet r S =
    let B = started-begun rule sheet r S in stays-shaped rule sheet B.0 [] (network_of r) B.1

-- ---- an image

pub loaded-network : (s : List ℕ) (r : Record) → loaded_of (Ok r) ≡ load s → network_of r ≡ (load s).network
unfolding loaded_of
loaded-network s r e = ap (λ (l : Loaded). l.network) e

pub loaded-shaped : (s : List ℕ) (r : Record) → loaded_of (Ok r) ≡ load s → in_shape (network_of r) ≡ true
unfolding loaded_of
loaded-shaped s r e =
    let T = (reads-only-images s).taken (ap (λ (l : Loaded). l.number) (sym e)) in
    subst (λ (w : Network'). in_shape w ≡ true) (sym (loaded-network s r e)) T.1

-- ---- how many agents

pub few-agents : (w : Network') → in_shape w ≡ true → (1 ≤ w.problem.count) × (w.problem.count ≤ 12)
unfolding max_agents
few-agents w s = let R = (shaped w s).range in (R.low, R.high)
