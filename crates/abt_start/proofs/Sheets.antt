-- What the rule and the sheet say of a start: it is refused with their number, or it is the start of the sheet's problem, which is in range.
use Rattle.std.proofs.Common.{◌≡◌, refl, ap, true, false, List, ℕ, ◌≤◌, Ok, Err}
use Rattle.model_sheet.specs.Problem.{max_agents}
use Rattle.model_sheet.specs.Sheet.{Decoded, Valid, Invalid, decode}
use Rattle.model_sheet.proofs.Range.{Ranged, ranged}
use Rattle.model_sheet.proofs.Sheet.{decode-in-range}
use Rattle.support_rejection.specs.declared.Rejection.{Rejection}
use Rattle.support_rejection.specs.declared.Rejection.TheVariants.{BadRule}
use Rattle.support_rejection.proofs.Numbers.{refusal-some}
use Rattle.model_network.specs.Network.{start, is_rule, bad_rule, started_on, start_sheet}
use Rattle.sheet_reader.specs.declared.Problem.{Problem}
use Rattle.sheet_reader.specs.Abstract.{problem_of, Outcome, outcome, outcome_of}
use Rattle.sheet_reader.proofs.Outcomes.{accepted}
use Rattle.abt_record.specs.declared.Network.{Network}
use Rattle.abt_record.specs.Abstract.{network_of}
use Rattle.abt_start.specs.Started.{StartsAs}

module _ (rule : ℕ) (sheet : List ℕ) where
  pub bad_ruled : is_rule rule ≡ false → StartsAs (start_sheet rule sheet) (Err BadRule)
  unfolding start_sheet bad_rule
  bad_ruled t = rw (t, start_sheet) (record { number = refl; network = refl })

  module _ (t : is_rule rule ≡ true) where
    on-sheet : start_sheet rule sheet ≡ started_on rule (decode sheet)
    unfolding start_sheet
    on-sheet = rw (t, start_sheet)

    pub refused : (e : Rejection) → outcome_of (Err e) ≡ outcome (decode sheet) → StartsAs (start_sheet rule sheet) (Err e)
    unfolding started_on outcome_of outcome
    refused e o = rw on-sheet (go (decode sheet) o)
      where
        go : (d : Decoded) → outcome_of (Err e) ≡ outcome d → StartsAs (started_on rule d) (Err e)
        go (Valid p) o = absurd (refusal-some e (ap (λ (x : Outcome). x.number) o))
        go (Invalid f) o = record { number = ap (λ (x : Outcome). x.number) o; network = refl }

    module _ (p : Problem) (o : outcome_of (Ok p) ≡ outcome (decode sheet)) where
      pub in-range : Ranged (problem_of p)
      in-range = ranged (problem_of p) (decode-in-range sheet (problem_of p) (accepted (decode sheet) p o))

      pub few-agents : p.count ≤ 12
      unfolding problem_of max_agents
      few-agents = in-range.high

      pub starts : (r : Network) → network_of r ≡ start rule (problem_of p) → StartsAs (start_sheet rule sheet) (Ok r)
      unfolding started_on
      starts r e = rw (on-sheet, accepted (decode sheet) p o) (record { number = refl; network = e })
