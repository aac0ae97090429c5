-- A list of deliveries in random order. A primed name is the definitions'.
use Rattle.std.specs.Prelude.{ℕ, ◌+◌, ◌≤◌, ◌<◌, ◌≡◌, true, ◌||◌}
use Rattle.model_network.specs.Network.{Network as Network'}
use Rattle.model_network.specs.Delivery.{answer_number, deliver}
use Rattle.abt_record.specs.Abstract.{network_of}
use Rattle.gate_random.specs.declared.rails.List.{List}
use Rattle.gate_random.specs.Lines.{rests_on}

-- so many accepted deliveries and so many refused ones, in some order, lead from one rail to another
pub data Deliveries : Network' → ℕ → ℕ → Network' → Type 0 where
  none : {w : Network'} → Deliveries w 0 0 w
  accepted : {w v : Network'} {a r : ℕ} → Deliveries w a r v → (i j : ℕ) → answer_number (deliver v i j).answer ≡ 0
      → Deliveries w (a + 1) r (deliver v i j).network
  refused : {w v : Network'} {a r : ℕ} → Deliveries w a r v → (i j : ℕ) → (answer_number (deliver v i j).answer ≡ 0 → ⊥)
      → Deliveries w a (r + 1) (deliver v i j).network

-- one delivery more: the counts have gone on by one, and the rail by that delivery
pub record Goes (l o : List) : Type 0 where
  pub rail : (w : Network') → Deliveries w l.accepted l.refused (network_of l.rail)
      → Deliveries w o.accepted o.refused (network_of o.rail)
  pub made : o.accepted + o.refused ≡ l.accepted + l.refused + 1
  pub wrong : o.wrong ≤ l.wrong + 1

-- a list of at most so many deliveries from this rail on: what was counted is what was done, no more of them are counted as wrong, and where fewer
-- were made a verdict stands or nothing waits
pub record Listed (rail : Network') (most : ℕ) (l : List) : Type 0 where
  pub reached : Deliveries rail l.accepted l.refused (network_of l.rail)
  pub made : l.accepted + l.refused ≤ most
  pub wrong : l.wrong ≤ l.accepted + l.refused
  pub over : l.accepted + l.refused < most → l.rail.unsolvable || rests_on l.rail.counts ≡ true
