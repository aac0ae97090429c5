-- What the start answers, and behind it the run, is what the sheet comes to.
use Rattle.std.proofs.Common.{ap, ◌∙◌, List, ℕ, Ok, Err}
use Rattle.support_rejection.specs.declared.Rejection.{Rejection}
use Rattle.model_network.specs.Network.{Network, start_sheet}
use Rattle.model_network.specs.Run.{ending_number, run}
use Rattle.abt_record.specs.declared.Network.{Network as Record}
use Rattle.abt_record.specs.Abstract.{network_of}
use Rattle.abt_engine.specs.declared.Answer.{Answer}
use Rattle.abt.specs.Answers.{RunsAs}
use Rattle.abt_start.specs.Started.{StartsAs}
use Rattle.abt_dock_text.specs.Settling.{program_rule, settled, Settles}

pub settles_refused : (rounds : ℕ) (sheet : List ℕ) (e : Rejection) → StartsAs (start_sheet 1 sheet) (Err e) → Settles rounds sheet (Err e)
unfolding program_rule
settles_refused rounds sheet e S = record { number = S.number; ran = tt }

pub settles_run : (rounds : ℕ) (sheet : List ℕ) (rail : Record) (ran : Answer) → StartsAs (start_sheet 1 sheet) (Ok rail)
    → RunsAs rail (run rounds (network_of rail)) ran → Settles rounds sheet (Ok ran)
unfolding settled program_rule
settles_run rounds sheet rail ran S R =
    record {
      number = S.number;
      ran = record {
        network = R.network ∙ ap (λ (w : Network). (run rounds w).network) S.network;
        made = R.rounds ∙ ap (λ (w : Network). (run rounds w).made) S.network;
        answered = R.number ∙ ap (λ (w : Network). ending_number (run rounds w).ending) S.network;
        ending = R.ending ∙ ap (λ (w : Network). (run rounds w).ending) S.network;
      };
    }
