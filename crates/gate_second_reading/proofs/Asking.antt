-- When all scanners have been asked, each has what it was asked for.
use Rattle.std.proofs.Common.{Option, None, ℕ, ◌+◌, ◌-◌, ◌≤◌, ◌<◌, ◌≡◌, ap, ◌∙◌, List, arith, get_or}
use Rattle.gate_second_reading.specs.Bans.{slot_in}
use Rattle.gate_second_reading.proofs.Turns.{slot_at}

module _ (asked : ℕ → Option ℕ) where
  -- the first i scanners have what they were asked for
  abbrev pub Asked : List (Option ℕ) → ℕ → Type 0
  Asked c i = (k : ℕ) → k < i → get_or c k None ≡ asked (k + 1)

  pub asked-all : (c : List (Option ℕ)) (n : ℕ) → Asked c n → (i : ℕ) → 1 ≤ i → i ≤ n → slot_in c i ≡ asked i
  asked-all c n h i l m =
      let e : i - 1 + 1 ≡ i = omega arith in slot_at c i l ∙ h (i - 1) (omega arith) ∙ ap asked e
