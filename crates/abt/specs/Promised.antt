-- What an answer tells of the problem that the scanners settle, on a network that calls led to: any list of deliveries and runs, from the start by either
-- rule on any sheet that the start accepts.
use Rattle.std.specs.Prelude.{ℕ, ◌≡◌, List}
use Rattle.model_sheet.specs.Problem.{Problem}
use Rattle.model_network.specs.Network.{start}
use Rattle.theorems_network.specs.Calls.{Call, left_by_all, made_by_all}
use Rattle.theorems_network.specs.Claims.{slots_of, Tells, StandsFor, EverySheet}
use Rattle.abt_record.specs.declared.Network.{Network}
use Rattle.abt_record.specs.Abstract.{network_of}
use Rattle.abt_engine.specs.declared.Answer.{Answer}
use Rattle.abt_engine.specs.Answers.{ending_of}

-- the word, the full rounds and the slots of an answer tell of the problem, where the runs before returned so many full rounds
abbrev pub AnswerTells : Problem → ℕ → Answer → Type 0
AnswerTells p before a = Tells p before (ending_of a.ending) a.rounds (slots_of (network_of a.network))

-- So they do behind every list of calls that leads to r.
abbrev pub Promised : Network → Answer → Type 0
Promised r a =
    EverySheet (λ rule p. (calls : List Call) → network_of r ≡ left_by_all calls (start rule p) → AnswerTells p (made_by_all calls (start rule p)) a)

-- What a delivery leaves tells by itself, behind every list of calls that leads to r.
abbrev pub Stands : Network → Network → Type 0
Stands r left =
    EverySheet (λ rule p. (calls : List Call) → network_of r ≡ left_by_all calls (start rule p) → StandsFor p (network_of left))
