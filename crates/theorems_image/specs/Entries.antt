-- Lists of calls with writes and reads between them. docs/FORMATS.md, 'The image': "the list with writes and reads of the rail between its calls".
use Rattle.std.specs.Prelude.{ℕ, ◌+◌, true, false, List, [], ◌∷◌, ◌++◌, eqb}
use Rattle.model_base.specs.Lent.{Written}
use Rattle.model_network.specs.Network.{Network}
use Rattle.model_network.specs.Run.{Line}
use Rattle.theorems_network.specs.Calls.{Call, left_by, tried_by, made_by}
use Rattle.model_image.specs.Reading.{Loaded}
use Rattle.model_image_forms.specs.Forms.{Form}
use Rattle.model_image_forms.specs.Reading.{load}
use Rattle.model_image_forms.specs.Writing.{store}
use Rattle.model_image_forms.specs.Claims.{bytes_of}

pub data Entry : Type 0 where
  Made : Call → Entry  -- a delivery or a run
  Stored : Form → List ℕ → Entry  -- the network is written in this form into this buffer and, where the writer does not refuse, read back

-- what reading gives, of as many bytes as the writer wrote
unfoldable pub read_back : Written → Loaded
read_back x = load (bytes_of x)

-- the network that an entry leaves: the call's, or the one read; one that the writer refuses is kept
unfoldable pub left_by_entry : Entry → Network → Network
left_by_entry (Made c) w = left_by c w
left_by_entry (Stored form buffer) w = elim (eqb (store form w buffer).number 0) [ true ↦ (read_back (store form w buffer)).network | false ↦ w ]

-- the number that the read answers, if there is one
unfoldable pub read_by : Entry → Network → List ℕ
read_by (Made c) w = []
read_by (Stored form buffer) w = elim (eqb (store form w buffer).number 0) [ true ↦ (read_back (store form w buffer)).number ∷ [] | false ↦ [] ]

-- a write and a read try no delivery, and make no round
unfoldable pub tried_by_entry : Entry → Network → List Line
tried_by_entry (Made c) w = tried_by c w
tried_by_entry (Stored form buffer) w = []

unfoldable pub made_by_entry : Entry → Network → ℕ
made_by_entry (Made c) w = made_by c w
made_by_entry (Stored form buffer) w = 0

-- ---- the whole list: each entry takes the network that the one before left

unfoldable pub left_by_entries : List Entry → Network → Network
left_by_entries [] w = w
left_by_entries (e ∷ es) w = left_by_entries es (left_by_entry e w)

-- the numbers that its reads answer, in order
unfoldable pub read_by_entries : List Entry → Network → List ℕ
read_by_entries [] w = []
read_by_entries (e ∷ es) w = read_by e w ++ read_by_entries es (left_by_entry e w)

unfoldable pub tried_by_entries : List Entry → Network → List Line
tried_by_entries [] w = []
tried_by_entries (e ∷ es) w = tried_by_entry e w ++ tried_by_entries es (left_by_entry e w)

unfoldable pub made_by_entries : List Entry → Network → ℕ
made_by_entries [] w = 0
made_by_entries (e ∷ es) w = made_by_entry e w + made_by_entries es (left_by_entry e w)

-- ---- the list without its writes and reads

unfoldable pub call_in : Entry → List Call
call_in (Made c) = c ∷ []
call_in (Stored form buffer) = []

unfoldable pub calls_in : List Entry → List Call
calls_in [] = []
calls_in (e ∷ es) = call_in e ++ calls_in es
