-- The claims. Each is proved elsewhere against the type that stands here.
use Rattle.std.specs.Prelude.{ℕ, ◌≤◌, ◌≡◌, true, false, List, [], ◌∷◌, length}
use Rattle.model_base.specs.Lists.{All}
use Rattle.model_sheet.specs.Problem.{Problem, Obeys}
use Rattle.model_network.specs.Network.{Network, start}
use Rattle.model_network.specs.Shape.{in_shape}
use Rattle.model_network.specs.Run.{idle}
use Rattle.theorems_network.specs.Calls.{Call, left_by_all, tried_by_all, made_by_all, Stretch, lines_of, marked_in, AllFull}
use Rattle.theorems_network.specs.Claims.{most_rounds}
use Rattle.model_image.specs.Plain.{Plain}
use Rattle.model_image_forms.specs.Forms.{Form, image_in}
use Rattle.theorems_image.specs.Entries.{Entry, Stored, read_by, left_by_entries, read_by_entries, tried_by_entries, made_by_entries, calls_in}

-- Every network reached from the start holds nothing outside its arrays, and is in shape: so it is one that an image gives back.
abbrev pub ReachedPlain : ℕ → Problem → Type 0
ReachedPlain rule p = (calls : List Call) → Plain (left_by_all calls (start rule p)) × (in_shape (left_by_all calls (start rule p)) ≡ true)

-- A list of calls with writes and reads between them leaves, tries and makes what its calls alone do, and every read answers 0.
pub record Carried (entries : List Entry) (w : Network) : Type 0 where
  pub leaves : left_by_entries entries w ≡ left_by_all (calls_in entries) w
  pub tries : tried_by_entries entries w ≡ tried_by_all (calls_in entries) w
  pub makes : made_by_entries entries w ≡ made_by_all (calls_in entries) w
  pub reads : All (λ number. number ≡ 0) (read_by_entries entries w)

-- "Whatever is claimed of a list of calls is claimed of the list with writes and reads of the rail between its calls", each in either form: what the
-- claims speak of, the network left, the tries and the full rounds made, is the same.
abbrev pub CarriesAcross : ℕ → Problem → Type 0
CarriesAcross rule p = (entries : List Entry) → Carried entries (start rule p)

-- ---- so what is claimed of lists of calls holds of such lists

-- A network reached from the start with nothing waiting and no verdict breaks no ban.
abbrev pub SoundAcross : ℕ → Problem → Type 0
SoundAcross rule p =
    (entries : List Entry) → (left_by_entries entries (start rule p)).unsolvable ≡ false → idle (left_by_entries entries (start rule p)) ≡ true
    → Obeys p (λ i. ((left_by_entries entries (start rule p)).agents i).value)

-- The verdict comes only where no choice of values obeys all bans.
abbrev pub CompleteAcross : ℕ → Problem → Type 0
CompleteAcross rule p =
    (entries : List Entry) → (left_by_entries entries (start rule p)).unsolvable ≡ true → (σ : ℕ → ℕ) → Obeys p σ → ⊥

-- The full rounds, marked off in any way, and those that the runs return, are at most 16 × n × (d + 2)^n.
abbrev pub RoundBoundAcross : ℕ → Problem → Type 0
RoundBoundAcross rule p =
    (entries : List Entry) (marking : List Stretch) → lines_of marking ≡ tried_by_entries entries (start rule p) → AllFull rule p [] marking
    → marked_in marking ≤ most_rounds p

abbrev pub RunBoundAcross : ℕ → Problem → Type 0
RunBoundAcross rule p = (entries : List Entry) → made_by_entries entries (start rule p) ≤ most_rounds p

-- ---- of every network, forged ones too

-- No call makes a network hold something outside its arrays.
abbrev pub StaysPlain : Type 0
StaysPlain = (w : Network) (calls : List Call) → Plain w → Plain (left_by_all calls w)

abbrev pub CarriesAcrossAnywhere : Type 0
CarriesAcrossAnywhere = (w : Network) → Plain w → in_shape w ≡ true → (entries : List Entry) → Carried entries w

-- A buffer with room for the image in a form is written and read, and the read answers 0.
abbrev pub ReadsWithRoom : Type 0
ReadsWithRoom =
    (form : Form) (w : Network) → Plain w → in_shape w ≡ true → (buffer : List ℕ) → length (image_in form w) ≤ length buffer
    → read_by (Stored form buffer) w ≡ 0 ∷ []
