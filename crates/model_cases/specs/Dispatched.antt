-- Further worked nights of the dispatcher, and picks that are refused.
use Rattle.std.specs.Prelude.{ℕ, ◌-◌, true, List, [], ◌∷◌, replicate}
use Rattle.model_sheet.specs.Cases.{ban}
use Rattle.model_agent.specs.Traffic.{top}
use Rattle.model_agent.specs.Message.{Info, Back}
use Rattle.model_network.specs.Network.{Network, with_verdict, with_channel, start_sheet}
use Rattle.model_network.specs.Run.{Line}
use Rattle.model_network.specs.Nights.{sheet, sheet2, empty, crowded}
use Rattle.model_dispatch.specs.Dispatch.{Dispatcher, dispatcher}
use Rattle.model_dispatch.specs.Nights.{line, Serves, Refuses, Place, Picks, Can, Night, Hosted, three}

unfoldable pub three_at : ℕ → Line → Dispatcher
three_at picks place = record { network = three; picks = picks; place = place }

-- two agents, content likewise: three news on 1 to 2 and a refusal of another value on 2 to 1, none of which calls for an answer
unfoldable pub two : Network
two =
    with_channel
    (with_channel (start_sheet 1 (sheet (2 ∷ 2 ∷ []) (ban 1 1 2 2 ∷ []))).network 1 2 (replicate 3 (Info 1)))
    2 1 (Back empty 2 ∷ [])

-- news that runs upward
unfoldable pub misshapen : Network
misshapen = with_channel three 2 1 (Info 1 ∷ [])

unfoldable pub dispatched_nights : List Night
dispatched_nights =
    -- a wish that is met leaves the place, though it is the line that is next in turn: the even pick behind it begins there again. And the limit of
    -- 2 × 2 × 1 picks is reached: 2 to 1 can be delivered before each of four, and the fourth serves it.
    Hosted (dispatcher two) (
    Can (line 2 1) ∷ Serves (line 1 2) (line 1 2) ∷ Place (line 0 0)
    ∷ Can (line 2 1) ∷ Serves (line 1 2) (line 1 2) ∷ Place (line 1 2)
    ∷ Can (line 2 1) ∷ Serves (line 1 2) (line 1 2) ∷ Place (line 1 2)
    ∷ Can (line 2 1) ∷ Serves (line 1 2) (line 2 1) ∷ Place (line 2 1) ∷ Picks 4 ∷ [])
    -- a wish that is not met makes an even pick, which moves the place: nothing waits there, there is no agent 0 or 7, no line from 1 to 1
    ∷ Hosted (dispatcher three) (Serves (line 3 1) (line 1 2) ∷ Place (line 1 2) ∷ Picks 1 ∷ Serves (line 2 3) (line 1 3) ∷ [])
    ∷ Hosted (dispatcher three) (Serves (line 0 7) (line 1 2) ∷ Place (line 1 2) ∷ Picks 1 ∷ [])
    ∷ Hosted (dispatcher three) (Serves (line 1 1) (line 1 2) ∷ Place (line 1 2) ∷ Picks 1 ∷ [])
    -- nor is one without room: 1 to 2 is passed over, until 2 to 1 was served
    ∷ Hosted (dispatcher (crowded 2)) (Serves (line 1 2) (line 2 1) ∷ Place (line 2 1) ∷ Serves (line 2 1) (line 1 2) ∷ [])
    -- the last pick below the top is odd; "at its top it stays and every pick is even"
    ∷ Hosted (three_at (top - 1) (line 0 0)) (
    Serves (line 1 3) (line 1 3) ∷ Place (line 0 0) ∷ Picks top ∷ Serves (line 2 3) (line 1 2) ∷ Place (line 1 2) ∷ Picks top ∷ [])
    ∷ Hosted (three_at top (line 0 0)) (
    Serves (line 2 3) (line 1 2) ∷ Picks top ∷ Serves (line 2 3) (line 1 3) ∷ Place (line 1 3) ∷ Picks top ∷ [])
    -- an even pick goes on behind the place, past the last line to the first, and comes to the place itself last
    ∷ Hosted (three_at 1 (line 1 2)) (Serves (line 1 2) (line 1 3) ∷ [])
    ∷ Hosted (three_at 1 (line 1 3)) (Serves (line 1 3) (line 2 3) ∷ [])
    ∷ Hosted (three_at 1 (line 2 3)) (Serves (line 2 3) (line 1 2) ∷ [])
    ∷ Hosted (record { network = with_channel two 2 1 []; picks = 1; place = line 1 2 }) (Serves (line 1 2) (line 1 2) ∷ [])
    -- "A stored place that is no line means the start", by the network's own n
    ∷ Hosted (three_at 1 (line 0 0)) (Serves (line 2 3) (line 1 2) ∷ [])
    ∷ Hosted (three_at 1 (line 3 3)) (Serves (line 2 3) (line 1 2) ∷ [])
    ∷ Hosted (three_at 1 (line 1 9)) (Serves (line 2 3) (line 1 2) ∷ [])
    ∷ Hosted (record { network = two; picks = 1; place = line 1 3 }) (Serves (line 2 1) (line 1 2) ∷ [])
    -- messages wait, and none can be delivered, whatever the wish; a refused pick is not counted, and leaves the place
    ∷ Hosted (dispatcher (crowded 1)) (Refuses (line 1 2) 10 ∷ Picks 0 ∷ Place (line 0 0) ∷ Refuses (line 0 7) 10 ∷ Picks 0 ∷ [])
    ∷ Hosted (record { network = crowded 1; picks = 1; place = line 1 2 }) (Refuses (line 2 1) 10 ∷ Picks 1 ∷ Place (line 1 2) ∷ [])
    -- the second pick brings a verdict about, and then nothing waits; a verdict where lines could be delivered without it
    ∷ Hosted (dispatcher (start_sheet 1 sheet2).network) (
    Serves (line 1 2) (line 1 2) ∷ Serves (line 1 2) (line 2 1) ∷ Refuses (line 1 2) 7 ∷ Picks 2 ∷ Place (line 2 1) ∷ [])
    ∷ Hosted (dispatcher (with_verdict three true)) (Refuses (line 1 3) 7 ∷ Picks 0 ∷ Place (line 0 0) ∷ [])
    -- out of shape, under a verdict too
    ∷ Hosted (dispatcher misshapen) (Refuses (line 1 3) 5 ∷ Picks 0 ∷ Place (line 0 0) ∷ [])
    ∷ Hosted (dispatcher (with_verdict misshapen true)) (Refuses (line 1 3) 5 ∷ Picks 0 ∷ [])
    ∷ []
