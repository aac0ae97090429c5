-- What the code's values mean: the problem and the outcome of the definitions that they stand for. A primed name is the definitions'.
use Rattle.std.specs.Prelude.{ℕ, ◌+◌, ◌*◌, ◌≡◌, true, List, length, Result, Ok, Err}
use Rattle.model_sheet.specs.Problem.{Problem as Problem', empty_problem}
use Rattle.model_sheet.specs.Sheet.{Decoded as Decoded', Valid, Invalid, fault_number, header_length, record_length, records_in, header_good}
use Rattle.support_rejection.specs.declared.Rejection.{Rejection}
use Rattle.support_rejection.specs.Rejections.{rejection_number}
use Rattle.sheet_reader.specs.declared.Problem.{Problem}

-- the very same lists
unfoldable pub problem_of : Problem → Problem'
problem_of p = record { count = p.count; domains = p.domains; bans = p.bans }

-- a number of the table and a problem
pub record Outcome : Type 0 where
  pub number : ℕ
  pub problem : Problem'

-- 0 and the problem, or the fault's number and the empty problem
unfoldable pub outcome : Decoded' → Outcome
outcome (Valid p) = record { number = 0; problem = p }
outcome (Invalid f) = record { number = fault_number f; problem = empty_problem }

unfoldable pub outcome_of : Result Problem Rejection → Outcome
outcome_of (Ok p) = record { number = 0; problem = problem_of p }
outcome_of (Err r) = record { number = rejection_number r; problem = empty_problem }

-- the header is good and the total length is the one that it states: the walk may begin
pub record Framed (s : List ℕ) : Type 0 where
  pub header : header_good s ≡ true
  pub total : length s ≡ header_length + record_length * records_in s
