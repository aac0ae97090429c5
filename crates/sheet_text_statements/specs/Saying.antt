-- What the code's statements mean. A primed name is the definitions'.
use Rattle.std.specs.Prelude.{ℕ, ◌-◌, true, false, ◌&&◌, List, ◌++◌, map, length, replicate, leb, Option, Some, None}
use Rattle.model_base.specs.Finite.{within, every}
use Rattle.model_text.specs.Words.{is_numeral, numeral}
use Rattle.model_text.specs.Statements.{Ban as Ban', Gap as Gap', Said, Says, Unclear}
use Rattle.sheet_text_statements.specs.declared.Ban.{Ban}
use Rattle.sheet_text_statements.specs.declared.Gap.{Gap}
use Rattle.sheet_text_statements.specs.declared.Slots.{Slots}

unfoldable pub ban_from : Option Ban → Said
ban_from (Some q) = Says (Ban' q.a q.s q.b q.t)
ban_from None = Unclear

unfoldable pub gap_from : Option Gap → Said
gap_from (Some q) = Says (Gap' q.a q.b q.least q.greatest)
gap_from None = Unclear

-- these slot counts with zeros behind them, where each is 1 to 8 and they are no more than twelve
unfoldable pub domains_of : List ℕ → Option (List ℕ)
domains_of counts =
    elim (leb (length counts) 12 && every (within 8) counts) [
      | true ↦ Some (counts ++ replicate (12 - length counts) 0)
      | false ↦ None
    ]

unfoldable pub slots_of : List ℕ → Slots
slots_of counts = record { count = length counts; domains = domains_of counts }

unfoldable pub slots_from : List (List ℕ) → Option Slots
slots_from words = elim (every is_numeral words) [ true ↦ Some (slots_of (map numeral words)) | false ↦ None ]
