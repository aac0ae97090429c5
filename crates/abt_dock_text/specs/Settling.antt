-- What a sheet comes to: its start, and the run on it, or its refusal.
use Rattle.std.specs.Prelude.{ℕ, ◌≡◌, List, Result, Ok, Err, IfOk}
use Rattle.support_rejection.specs.Rejections.{rejection_number}
use Rattle.support_rejection.specs.declared.Rejection.{Rejection}
use Rattle.model_network.specs.Network.{start_sheet}
use Rattle.model_network.specs.Run.{ending_number, Ran, run}
use Rattle.abt_record.specs.Abstract.{network_of}
use Rattle.abt_engine.specs.declared.Answer.{Answer}
use Rattle.abt_engine.specs.Answers.{ending_of}
use Rattle.abt_engine.specs.Refused.{rejected_number}

-- "`dock` uses rule 1"
unfoldable pub program_rule : ℕ
program_rule = 1

-- "runs with 100,000 rounds"
unfoldable pub program_rounds : ℕ
program_rounds = 100000

-- the run with so many rounds on the start of a sheet
unfoldable pub settled : ℕ → List ℕ → Ran
settled rounds sheet = run rounds (start_sheet program_rule sheet).network

-- the run: its network, its full rounds, its number and its word
pub record RunOf (rounds : ℕ) (sheet : List ℕ) (ran : Answer) : Type 0 where
  pub network : network_of ran.network ≡ (settled rounds sheet).network
  pub made : ran.rounds ≡ (settled rounds sheet).made
  pub answered : rejected_number ran.rejection ≡ ending_number (settled rounds sheet).ending
  pub ending : ending_of ran.ending ≡ (settled rounds sheet).ending

-- 0, or the number of the refusal
abbrev pub settled_number : Result Answer Rejection → ℕ
settled_number (Ok ran) = 0
settled_number (Err e) = rejection_number e

-- the run on the sheet's start, or the refusal of the sheet
pub record Settles (rounds : ℕ) (sheet : List ℕ) (s : Result Answer Rejection) : Type 0 where
  pub number : settled_number s ≡ (start_sheet program_rule sheet).number
  pub ran : IfOk s (RunOf rounds sheet)
