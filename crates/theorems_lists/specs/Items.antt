-- Lists that mix deliveries, runs, picks, and writes and reads of the network, on one network with a dispatcher above it. docs/RULES.md, 'Rounds and
-- the run': "A list of calls"; 'The dispatcher': "a list with picks in it". docs/FORMATS.md, 'The image': "the list with writes and reads of the rail
-- between its calls".
use Rattle.std.specs.Prelude.{ℕ, ◌+◌, List, [], ◌∷◌, ◌++◌, map}
use Rattle.model_sheet.specs.Problem.{Problem}
use Rattle.model_agent.specs.Message.{Message, Post}
use Rattle.model_agent.specs.Traffic.{messages_in}
use Rattle.model_network.specs.Run.{Line}
use Rattle.theorems_network.specs.Calls.{Call, tried_by_all, made_by_all}
use Rattle.theorems_network.specs.Marking.{Part, parts_of_all}
use Rattle.theorems_network.specs.Deeds.{Handed, handed_in, posts_in}
use Rattle.theorems_network.specs.Figures.{start_posts, message_of}
use Rattle.model_image_forms.specs.Forms.{Form}
use Rattle.theorems_image.specs.Entries.{Stored, left_by_entry, read_by}
use Rattle.model_dispatch.specs.Dispatch.{Dispatcher, with_network}
use Rattle.theorems_dispatch.specs.Steps.{Step, left_by_step, calls_by}

pub data Item : Type 0 where
  Stepped : Step → Item  -- a delivery, a run or a pick
  Saved : Form → List ℕ → Item  -- the network is written in this form into this buffer and, where the writer does not refuse, read back

-- the dispatcher that an item leaves; a write and a read leave count and place
unfoldable pub left_by_item : Item → Dispatcher → Dispatcher
left_by_item (Stepped s) d = left_by_step s d
left_by_item (Saved form buffer) d = with_network d (left_by_entry (Stored form buffer) d.network)

-- the calls that it comes to: a delivery, a run, or the delivery of the line that a pick served; a write and a read are none
unfoldable pub calls_by_item : Item → Dispatcher → List Call
calls_by_item (Stepped s) d = calls_by s d
calls_by_item (Saved form buffer) d = []

-- the number that its read answers, if there is one
unfoldable pub read_by_item : Item → Dispatcher → List ℕ
read_by_item (Stepped s) d = []
read_by_item (Saved form buffer) d = read_by (Stored form buffer) d.network

-- ---- the whole list: each item takes the dispatcher that the one before left

unfoldable pub left_by_items : List Item → Dispatcher → Dispatcher
left_by_items [] d = d
left_by_items (x ∷ xs) d = left_by_items xs (left_by_item x d)

unfoldable pub calls_in_items : List Item → Dispatcher → List Call
calls_in_items [] d = []
calls_in_items (x ∷ xs) d = calls_by_item x d ++ calls_in_items xs (left_by_item x d)

unfoldable pub read_by_items : List Item → Dispatcher → List ℕ
read_by_items [] d = []
read_by_items (x ∷ xs) d = read_by_item x d ++ read_by_items xs (left_by_item x d)

-- ---- what it tries, makes, hands over and sends: at each item, what the calls that it comes to do on the network of that place

unfoldable pub tried_by_items : List Item → Dispatcher → List Line
tried_by_items [] d = []
tried_by_items (x ∷ xs) d = tried_by_all (calls_by_item x d) d.network ++ tried_by_items xs (left_by_item x d)

unfoldable pub made_by_items : List Item → Dispatcher → ℕ
made_by_items [] d = 0
made_by_items (x ∷ xs) d = made_by_all (calls_by_item x d) d.network + made_by_items xs (left_by_item x d)

unfoldable pub parts_of_items : List Item → Dispatcher → List Part
parts_of_items [] d = []
parts_of_items (x ∷ xs) d = parts_of_all (calls_by_item x d) d.network ++ parts_of_items xs (left_by_item x d)

unfoldable pub handed_by_items : ℕ → List Item → Dispatcher → List Handed
handed_by_items j [] d = []
handed_by_items j (x ∷ xs) d = handed_in j (calls_by_item x d) d.network ++ handed_by_items j xs (left_by_item x d)

unfoldable pub posts_by_items : ℕ → List Item → Dispatcher → List Post
posts_by_items j [] d = []
posts_by_items j (x ∷ xs) d = posts_in j (calls_by_item x d) d.network ++ posts_by_items j xs (left_by_item x d)

-- "that the start and the accepted deliveries sent from that scanner, or handed to it"
unfoldable pub sent_from_items : ℕ → Problem → List Item → Dispatcher → ℕ → List Message
sent_from_items rule p items d i = messages_in (start_posts rule p i ++ posts_by_items i items d)

unfoldable pub received_by_items : List Item → Dispatcher → ℕ → List Message
received_by_items items d i = map message_of (handed_by_items i items d)

-- ---- the list without its writes and reads

unfoldable pub steps_by : Item → List Step
steps_by (Stepped s) = s ∷ []
steps_by (Saved form buffer) = []

unfoldable pub steps_in : List Item → List Step
steps_in [] = []
steps_in (x ∷ xs) = steps_by x ++ steps_in xs
