-- What is put on either output, and how a program then ends, is the answer that it gives.
-- What is said where standard output has failed stands behind all else that is said.
use Rattle.std.proofs.Common.{ℕ, ◌≡◌, List, ◌++◌}
use Rattle.model_base.specs.Decimal.{newline}
use Rattle.support_cli.specs.Streams.{OutputState, Puts}
use Rattle.support_cli.specs.Answers.{failure_line, status_by, prints, tells, says, Answered}
use Rattle.support_cli.proofs.Putting.{puts_then, puts_nothing}

module _ (out : OutputState) (err mid err' : OutputState) (status code : ℕ) where
  pub told : (text : List ℕ) → Puts text err mid → Puts (failure_line out.failed) mid err' → code ≡ status_by out.failed status
      → Answered (tells text status) out out err err' code
  unfolding tells
  told text p q e = record { output = puts_nothing out; errors = puts_then text (failure_line out.failed) err mid err' p q; status = e }

  pub said : (what word : List ℕ) → Puts (what ++ (word ++ newline)) err mid → Puts (failure_line out.failed) mid err' → code ≡ status_by out.failed status
      → Answered (says what word status) out out err err' code
  unfolding says
  said what word p q e = told (what ++ (word ++ newline)) p q e

pub printed : (out out' err err' : OutputState) (status code : ℕ) (text : List ℕ) → Puts text out out' → Puts (failure_line out'.failed) err err'
    → code ≡ status_by out'.failed status → Answered (prints text status) out out' err err' code
unfolding prints
printed out out' err err' status code text p q e = record { output = p; errors = q; status = e }
