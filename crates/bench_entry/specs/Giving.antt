-- What the entries give: numbers made of what the definitions work out, all that is made of it in one number.
use Rattle.std.specs.Prelude.{ℕ, zero, suc, ◌+◌, ◌*◌, ◌%◌, ◌≡◌, Bool, true, false, List, eqb, ltb, length, get_or, Result, Ok, Err}
use Rattle.model_sheet.specs.Sheet.{fault_number, Decoded, Valid, Invalid}
use Rattle.support_rejection.specs.Rejections.{rejection_number}
use Rattle.support_rejection.specs.declared.Rejection.{Rejection}
use Rattle.model_base.specs.Lent.{Written, untouched}
use Rattle.model_agent.specs.Traffic.{Sort, Infos, Backs, AddLinks, Traffic}
use Rattle.model_agent.specs.Agent.{Agent}
use Rattle.model_network.specs.Network.{Network, Started, start_sheet}
use Rattle.model_network.specs.Delivery.{answer_number, Delivery, deliver, ask_value}
use Rattle.model_network.specs.Run.{Ending, Unsolvable, Plan, Jammed, Open, Broken, Ran, run}
use Rattle.abt_packed.specs.Packed.{assignment}
use Rattle.model_image.specs.Image.{byte_for}
use Rattle.model_image.specs.Reading.{Loaded}
use Rattle.model_image_forms.specs.Forms.{Form, First, Second}
use Rattle.model_image_forms.specs.Writing.{store}
use Rattle.abt_record.specs.declared.Network.{Network as Rail}
use Rattle.abt_record.specs.Abstract.{network_of}

-- ---- decoding: one word of the ban table, 0 beyond its last, or the number of the sheet's fault

unfoldable pub word_for : Decoded → ℕ → ℕ
word_for (Valid p) word = get_or p.bans word 0
word_for (Invalid f) word = fault_number f

-- ---- the start under a rule: what waits on one sender's channels, digit j for receiver j, or the number that refuses the rule or the sheet. Senders
-- are counted from 0.

pub record WaitsFor (rule : ℕ) (sheet : List ℕ) (sender r : ℕ) : Type 0 where
  pub refused : ((start_sheet rule sheet).number ≡ 0 → ⊥) → r ≡ (start_sheet rule sheet).number
  pub waits : (start_sheet rule sheet).number ≡ 0
      → (j : ℕ) → assignment r j ≡ length ((start_sheet rule sheet).network.channel (suc sender) j)

-- ---- a run

unfoldable pub ending_digit : Ending → ℕ
ending_digit Unsolvable = 0
ending_digit Plan = 1
ending_digit Jammed = 2
ending_digit Open = 4
ending_digit Broken = 5

-- the values of the agents 1 to k as digits in base 9, agent k lowest. A value is 8 at most, 0 for none.
unfoldable pub values_to : ℕ → Network → ℕ
values_to zero w = 0
values_to (suc k) w = values_to k w * 9 + (w.agents (suc k)).value % 9

-- how it ended, in four bits; its full rounds, 1,000,000 at most, in twenty; and all values
unfoldable pub ran_for : Ran → ℕ
ran_for x = (values_to 12 x.network * 1048576 + x.made % 1048576) * 16 + ending_digit x.ending

-- the run on a start, or 8 and the number that refuses the rule or the sheet
unfoldable pub settled_for : Started → ℕ → ℕ
settled_for s rounds = elim (eqb s.number 0) [ true ↦ ran_for (run rounds s.network) | false ↦ 8 + s.number ]

-- ---- deliveries: a sum that each number answered is mixed into, and the network that they come to

unfoldable pub mixed : ℕ → ℕ → ℕ
mixed sum n = sum % 4294967296 * 31 + n

pub record Played : Type 0 where
  pub network : Network
  pub sum : ℕ

unfoldable pub played_one : Played → Delivery → Played
played_one p d = record { network = d.network; sum = mixed p.sum (answer_number d.answer) }

-- the first k calls: sender and receiver, two bytes for each
unfoldable pub played_to : ℕ → Started → List ℕ → Played
played_to zero s calls = record { network = s.network; sum = s.number }
played_to (suc k) s calls =
    played_one (played_to k s calls) (deliver (played_to k s calls).network (get_or calls (2 * k) 0) (get_or calls (2 * k + 1) 0))

-- as far as k calls have been made, with this network and this sum
pub record Playing (s : Started) (calls : List ℕ) (k : ℕ) (r : Rail) (total : ℕ) : Type 0 where
  pub network : network_of r ≡ (played_to k s calls).network
  pub sum : total ≡ (played_to k s calls).sum

-- the values asked of the numbers 0 to k - 1, mixed in too
unfoldable pub asked_to : ℕ → Network → ℕ → ℕ
asked_to zero w sum = sum
asked_to (suc k) w sum = mixed (asked_to k w sum) (ask_value w k).value

-- all calls, and then every number that an agent can have, with one below
unfoldable pub played_for : Played → ℕ
played_for p = asked_to 13 p.network p.sum

-- ---- counts, each modulo 2 ^ 32, mixed into one number

unfoldable pub count_mixed : ℕ → ℕ → ℕ
count_mixed sum count = mixed sum (count % 4294967296)

unfoldable pub sort_mixed : ℕ → Traffic → Sort → ℕ
sort_mixed sum c x = count_mixed (count_mixed sum (c.sent x)) (c.received x)

unfoldable pub counts_mixed : Traffic → ℕ
counts_mixed c = sort_mixed (sort_mixed (sort_mixed 0 c Infos) c Backs) c AddLinks

-- of an agent after a run; agents are counted from 0
unfoldable pub counts_for : Started → ℕ → ℕ → ℕ
counts_for s rounds agent =
    elim (ltb agent 12) [ true ↦ counts_mixed ((run rounds s.network).network.agents (suc agent)).counts | false ↦ 0 ]

-- ---- reading an image: what is read, mixed into one number, and in the lowest four bits the number answered, 0 or 13

-- an agent's counts, its value and the last that it took
unfoldable pub agent_mixed : ℕ → Agent → ℕ
agent_mixed sum a = mixed (mixed (count_mixed sum (counts_mixed a.counts)) a.value) a.last

-- how many agents there are, the rule, the verdict, and the agents 1 to k
unfoldable pub read_to : ℕ → Network → ℕ
read_to zero w = (w.problem.count * 31 + w.rule) * 31 + byte_for w.unsolvable
read_to (suc k) w = agent_mixed (read_to k w) (w.agents (suc k))

unfoldable pub read_for : Loaded → ℕ
read_for l = read_to 12 l.network % 4294967296 * 16 + l.number

-- ---- writing: a network's image in one of the forms, written into the same buffer so many times

-- the second form, or the first
unfoldable pub form_for : Bool → Form
form_for true = Second
form_for false = First

unfoldable pub written_to : Form → ℕ → Network → List ℕ → Written
written_to form zero w buffer = untouched 0 buffer
written_to form (suc k) w buffer = store form w (written_to form k w buffer).buffer

-- the length written, or the number that refuses
unfoldable pub length_for : Written → ℕ
length_for x = elim (eqb x.number 0) [ true ↦ x.length | false ↦ x.number ]

-- .. as the code answers it
abbrev pub length_given : Result ℕ Rejection → ℕ
length_given (Ok n) = n
length_given (Err e) = rejection_number e

-- the last answer, and the buffer as it is left
pub record WritesFor (form : Form) (w : Network) (times : ℕ) (before : List ℕ) (r : ℕ) (after : List ℕ) : Type 0 where
  pub answer : r ≡ length_for (written_to form times w before)
  pub buffer : after ≡ (written_to form times w before).buffer

-- ---- moving: the answer of the mover, and the buffer as it is left

pub record MovesFor (x : Written) (r : ℕ) (after : List ℕ) : Type 0 where
  pub answer : r ≡ length_for x
  pub buffer : after ≡ x.buffer
