-- The dispatcher above the network (rail): the host's favourite lines. docs/RULES.md, 'The dispatcher'.
use Rattle.std.specs.Prelude.{ℕ, ◌%◌, Bool, true, false, ◌&&◌, cond, List, [], ◌∷◌, ◌++◌, eqb, ltb, None, Option, Some}
use Rattle.model_base.specs.Finite.{gather}
use Rattle.model_agent.specs.Traffic.{top, raised}
use Rattle.model_network.specs.Network.{Network}
use Rattle.model_network.specs.Shape.{in_shape}
use Rattle.model_network.specs.Delivery.{
  BadShape,
  VerdictStands,
  EmptyChannel,
  NoRoom,
  Rejection,
  Answer,
  Accepted,
  Rejected,
  is_accepted,
  numbers_good,
  deliver,
}
use Rattle.model_network.specs.Run.{Line, is_line, idle}

-- "its count of picks" and "the place": the line that an even pick served last; a place that is no line of the network means the start
pub record Dispatcher : Type 0 where
  pub network : Network
  pub picks : ℕ
  pub place : Line

-- with another network, and the count and the place that it had
abbrev pub with_network : Dispatcher → Network → Dispatcher
with_network d w = record { network = w; picks = d.picks; place = d.place }

-- ---- the lines, in order

-- of n agents, by sender, then receiver: "from 1 to 2" first
unfoldable pub lines_from : ℕ → ℕ → List Line
lines_from n i = gather n 1 (λ j. cond (eqb i j) [] (record { from = i; to = j } ∷ []))

unfoldable pub lines : ℕ → List Line
lines n = gather n 1 (lines_from n)

-- the lines behind this one, and those up to it
unfoldable pub behind : Line → List Line → List Line
behind p [] = []
behind p (l ∷ ls) = elim (is_line p.from p.to l) [ true ↦ ls | false ↦ behind p ls ]

unfoldable pub up_to : Line → List Line → List Line
up_to p [] = []
up_to p (l ∷ ls) = l ∷ elim (is_line p.from p.to l) [ true ↦ [] | false ↦ up_to p ls ]

-- "go round the lines in order from the one after the last they served, at first from 1 to 2", the place itself last; "A stored place that is no
-- line means the start", judged by the network's own n
unfoldable pub turn : Network → Line → List Line
turn w p =
    elim (numbers_good w p.from p.to) [
      | true ↦ behind p (lines w.problem.count) ++ up_to p (lines w.problem.count)
      | false ↦ lines w.problem.count
    ]

-- ---- what can be delivered

-- a delivery on this line would be accepted
unfoldable pub deliverable : Network → Line → Bool
deliverable w l = is_accepted (deliver w l.from l.to).answer

-- the first of these lines that can be delivered
unfoldable pub first_of : Network → List Line → Option Line
first_of w [] = None
first_of w (l ∷ ls) = elim (deliverable w l) [ true ↦ Some l | false ↦ first_of w ls ]

-- ---- picks

-- "odd picks": the one about to be made has the number behind the count; "at its top it stays and every pick is even"
unfoldable pub is_odd : ℕ → Bool
is_odd picks = ltb picks top && eqb (picks % 2) 0

-- the wish is met: "odd picks take the line the host wishes, if it can be delivered"
unfoldable pub meets : Dispatcher → Line → Bool
meets d wish = is_odd d.picks && deliverable d.network wish

-- what a pick answers: its answer, the line that it served, and the state; a refused pick leaves the state and serves no line
pub record Pick : Type 0 where
  pub answer : Answer
  pub served : Option Line
  pub state : Dispatcher

unfoldable pub refusing : Rejection → Dispatcher → Pick
refusing r d = record { answer = Rejected r; served = None; state = d }

-- line l is delivered and counted, with this place from now on
unfoldable pub serving : Dispatcher → Line → Line → Pick
serving d l place =
    record {
      answer = Accepted;
      served = Some l;
      state =
          record { network = (deliver d.network l.from l.to).network; picks = raised d.picks 1; place = place };
    }

-- an even pick: the first line in turn that can be delivered, and the place moves there. "When no line can be delivered: 8 with nothing waiting, 10
-- otherwise"
unfoldable pub evenly : Dispatcher → Option Line → Pick
evenly d (Some l) = serving d l l
evenly d None = elim (idle d.network) [ true ↦ refusing EmptyChannel d | false ↦ refusing NoRoom d ]

-- "A wish that cannot be met is treated as an even pick." A wish that is met leaves the place.
unfoldable pub chosen : Dispatcher → Line → Pick
chosen d wish =
    elim (meets d wish) [
      | true ↦ serving d wish d.place
      | false ↦ evenly d (first_of d.network (turn d.network d.place))
    ]

-- "5 comes first, then 7 for a verdict"
unfoldable pub pick : Dispatcher → Line → Pick
pick d wish =
    elim (in_shape d.network) [
      | false ↦ refusing BadShape d
      | true ↦ elim d.network.unsolvable [ true ↦ refusing VerdictStands d | false ↦ chosen d wish ]
    ]

-- "begun at zero", at no line
unfoldable pub dispatcher : Network → Dispatcher
dispatcher w = record { network = w; picks = 0; place = record { from = 0; to = 0 } }
