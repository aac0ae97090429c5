-- The claims about lists of calls from a fresh start. Each follows from the same of lists of tries, since a list of calls leaves what its tries
-- leave.
use Rattle.std.proofs.Common.{◌≡◌, List, [], ◌∷◌, true, ℕ}
use Rattle.model_sheet.specs.Problem.{Problem}
use Rattle.model_sheet.proofs.Range.{ranged}
use Rattle.model_sheet.proofs.Sheet.{decode-in-range as decoded}
use Rattle.model_network.specs.Network.{Network, start}
use Rattle.model_network.specs.Shape.{in_shape}
use Rattle.model_network.specs.Delivery.{deliver}
use Rattle.model_network.specs.Run.{run}
use Rattle.theorems_shape.proofs.Shape.{deliver-keeps as delivered, run-keeps as ran, start-in-shape}
use Rattle.theorems_network.specs.Calls.{Call, Deliver, Run, left_by, left_by_all, tried_by_all, replay, lines_of, marked_in}
use Rattle.theorems_network.specs.Marking.{own_marking}
use Rattle.theorems_network.specs.Claims.{
  SoundAtRest,
  CompleteVerdict,
  RoundBound,
  RunsMark,
  RunBound,
  RunsCount,
  RunTells,
  DeliveryTells,
  AskedOnce,
  StaysInShape,
  CountsExact,
  CountsCapped,
  SentIsReceivedAndWaiting,
  SentIsReceivedAndWaitingOf,
  CountsNeverFall,
  Replay,
  DeliverKeeps,
  RunKeeps,
  JammedExactly,
  NoneAfterNothing,
  RoundsUsed,
  RuleKept,
  EveryProblem,
  EverySheet,
}
use Rattle.theorems_network.proofs.Reached.{reached}
use Rattle.theorems_network.proofs.Accuracy.{rested, ended}
use Rattle.theorems_network.proofs.Once.{replay-once, start-once}
use Rattle.theorems_network.proofs.Tries.{replay-rule}
use Rattle.theorems_network.proofs.Replay.{run-replays, calls-replay}
use Rattle.theorems_network.proofs.Visits.{idle-empty}
use Rattle.theorems_network.proofs.Markings.{marking-rounds}
use Rattle.theorems_network.proofs.RoundBound.{round-bound-lines}
use Rattle.theorems_network.proofs.RunRounds.{run-counts}
use Rattle.theorems_network.proofs.Figures.{counts-exact as exact, counts-capped as capped, counts-never-fall as never-fall}
use Rattle.theorems_network.proofs.Balance.{sent-is-received-and-waiting as balance, sent-is-received-and-waiting-of as balance-of}
use Rattle.theorems_network.proofs.CallMarking.{own-marked}
use Rattle.theorems_network.proofs.Told.{run_tells, delivery_tells}
use Rattle.theorems_network.proofs.Jams.{jammed-exactly as jammed, none-after-nothing as none_after, rounds-used as used}

-- A network reached with nothing waiting and no verdict breaks no ban.
pub sound-at-rest : EveryProblem SoundAtRest
sound-at-rest rule _ p r calls v i =
    let e = calls-replay calls (start rule p) in
    let v' = rw e at v in
    rw e (rested rule p r (tried_by_all calls (start rule p)) v' (idle-empty p _ (reached rule p r (tried_by_all calls (start rule p)) v') (rw e at i)))

-- The verdict comes only where no choice of values obeys all bans.
pub complete-verdict : EveryProblem CompleteVerdict
complete-verdict rule _ p r calls v = ended rule p r (tried_by_all calls (start rule p)) (rw (calls-replay calls (start rule p)) at v)

-- Every way to mark full rounds off has at most 16 × n × (d + 2)^n of them.
pub round-bound : EveryProblem RoundBound
unfolding replay
round-bound rule _ p r calls marks _ full = round-bound-lines rule p r (lines_of marks) (marked_in marks) (marking-rounds rule p [] marks full)

-- The runs' own rounds are one marking, with exactly the full ones marked.
pub runs-mark : EveryProblem RunsMark
runs-mark = own-marked

-- .. so together they obey the bound too.
pub run-bound : EveryProblem RunBound
run-bound rule is-rule p r calls =
    let M = runs-mark rule is-rule p r calls in
    rw (← M.number) (round-bound rule is-rule p r calls (own_marking calls (start rule p)) M.lines M.full)

-- A run returns exactly how many of its rounds were full.
pub runs-count : EveryProblem RunsCount
runs-count = run-counts

-- The word, the full rounds and the slots that a run returns tell of the problem,
pub run-tells : EveryProblem RunTells
run-tells rule is-rule p r =
    run_tells rule p (sound-at-rest rule is-rule p r) (complete-verdict rule is-rule p r) (run-bound rule is-rule p r)

-- .. and so does the network that a delivery leaves.
pub delivery-tells : EveryProblem DeliveryTells
delivery-tells rule is-rule p r = delivery_tells rule p (sound-at-rest rule is-rule p r) (complete-verdict rule is-rule p r)

-- A link is asked for once, under a verdict too.
pub asked-once : EveryProblem AskedOnce
asked-once rule _ p r calls x y =
    let O = replay-once x y (tried_by_all calls (start rule p)) (start rule p) (start-once x y rule p (ranged p r)) in
    rw (calls-replay calls (start rule p)) (O.once, O.none)

-- Every network reached is in shape.
pub stays-in-shape : EveryProblem StaysInShape
unfolding left_by_all left_by
stays-in-shape rule is-rule p r calls = go calls (start rule p) (start-in-shape rule is-rule p r)
  where
    go : (calls : List Call) (w : Network) → in_shape w ≡ true → in_shape (left_by_all calls w) ≡ true
    go [] w h = h
    go (Deliver i j ∷ calls) w h = go calls (deliver w i j).network (delivered w i j h)
    go (Run k ∷ calls) w h = go calls (run k w).network (ran k w h)

-- Every count below the top is exact; at the top it stays; and what is sent is received or waits.
pub counts-exact : EveryProblem CountsExact
counts-exact = exact

pub counts-capped : EveryProblem CountsCapped
counts-capped = capped

pub sent-is-received-and-waiting : EveryProblem SentIsReceivedAndWaiting
sent-is-received-and-waiting = balance

pub sent-is-received-and-waiting-of : EveryProblem SentIsReceivedAndWaitingOf
sent-is-received-and-waiting-of = balance-of

-- ---- sheets: what holds of every problem in range holds of every accepted sheet

pub every-sheet : (C : ℕ → Problem → Type 0) → EveryProblem C → EverySheet C
every-sheet C proved rule is-rule sheet p e = proved rule is-rule p (decoded sheet p e)

pub sheet-sound : EverySheet SoundAtRest
sheet-sound = every-sheet SoundAtRest sound-at-rest

pub sheet-complete : EverySheet CompleteVerdict
sheet-complete = every-sheet CompleteVerdict complete-verdict

pub sheet-round-bound : EverySheet RoundBound
sheet-round-bound = every-sheet RoundBound round-bound

pub sheet-run-bound : EverySheet RunBound
sheet-run-bound = every-sheet RunBound run-bound

pub sheet-runs-count : EverySheet RunsCount
sheet-runs-count = every-sheet RunsCount runs-count

pub sheet-runs-mark : EverySheet RunsMark
sheet-runs-mark = every-sheet RunsMark runs-mark

pub sheet-run-tells : EverySheet RunTells
sheet-run-tells = every-sheet RunTells run-tells

pub sheet-delivery-tells : EverySheet DeliveryTells
sheet-delivery-tells = every-sheet DeliveryTells delivery-tells

pub sheet-asked-once : EverySheet AskedOnce
sheet-asked-once = every-sheet AskedOnce asked-once

pub sheet-stays-in-shape : EverySheet StaysInShape
sheet-stays-in-shape = every-sheet StaysInShape stays-in-shape

pub sheet-counts-exact : EverySheet CountsExact
sheet-counts-exact = every-sheet CountsExact counts-exact

pub sheet-counts-capped : EverySheet CountsCapped
sheet-counts-capped = every-sheet CountsCapped counts-capped

pub sheet-sent-is-received-and-waiting : EverySheet SentIsReceivedAndWaiting
sheet-sent-is-received-and-waiting = every-sheet SentIsReceivedAndWaiting sent-is-received-and-waiting

pub sheet-sent-is-received-and-waiting-of : EverySheet SentIsReceivedAndWaitingOf
sheet-sent-is-received-and-waiting-of = every-sheet SentIsReceivedAndWaitingOf sent-is-received-and-waiting-of

-- ---- of every network and every sheet

pub deliver-keeps : DeliverKeeps
deliver-keeps = delivered

pub run-keeps : RunKeeps
run-keeps = ran

pub replays : Replay
replays = run-replays

-- ---- the word of a run, on every network

-- `jammed` is said exactly when a whole round delivered nothing while something waits,
pub jammed-exactly : JammedExactly
jammed-exactly = jammed

-- .. and at once,
pub none-after-nothing : NoneAfterNothing
none-after-nothing = none_after

-- and `open` only with all rounds used.
pub rounds-used : RoundsUsed
rounds-used = used

pub counts-never-fall : CountsNeverFall
counts-never-fall = never-fall

-- No delivery and no run changes the rule.
pub rule-kept : RuleKept
rule-kept w calls = rw (calls-replay calls w) (replay-rule (tried_by_all calls w) w)
