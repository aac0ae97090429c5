-- What the engine works out, as one record for a delivery and for a run.
use Rattle.std.specs.Prelude.{ℕ, Bool, true, false, not, ◌&&◌, List, eqb}
use Rattle.model_base.specs.Finite.{within}
use Rattle.model_network.specs.Network.{Network}
use Rattle.model_network.specs.Delivery.{BadShape, NoRoom, rejection_number, answer_number, Delivery}
use Rattle.model_network.specs.Run.{idle, Ending, Unsolvable, Plan, Jammed, Open, Broken, ending_number, Ran}
use Rattle.abt_record.specs.Abstract.{row_of}

-- How a network stands, by the number of the rejection that the work ends with: a broken shape comes first, then the verdict, then nothing waiting. A run
-- whose last round delivered nothing ends with 10; a single delivery is no round.
unfoldable pub ends_by : Bool → Bool → Bool → ℕ → Ending
ends_by once unsolvable idle number =
    elim (eqb number (rejection_number BadShape)) [
      | true ↦ Broken
      | false ↦ elim unsolvable [
        | true ↦ Unsolvable
        | false ↦ elim idle [
          | true ↦ Plan
          | false ↦ elim (not once && eqb number (rejection_number NoRoom)) [ true ↦ Jammed | false ↦ Open ]
        ]
      ]
    ]

-- the first of 6, 7 and 8 that a delivery meets, by the rows of counts; 0 for none
unfoldable pub tested_by : ℕ → Bool → List ℕ → ℕ → ℕ → ℕ
tested_by n unsolvable counts i j =
    elim (within n i && within n j && not (eqb i j)) [
      | false ↦ 6
      | true ↦ elim unsolvable [ true ↦ 7 | false ↦ elim (eqb (row_of counts i j) 0) [ true ↦ 8 | false ↦ 0 ] ]
    ]

-- ---- the work

pub record Worked : Type 0 where
  pub network : Network
  pub made : ℕ
  pub number : ℕ
  pub ending : Ending

-- the work that ends here with this number, 0 for no rejection, and no round made
unfoldable pub stopped_with : Network → ℕ → Worked
stopped_with w k = record { network = w; made = 0; number = k; ending = ends_by true w.unsolvable (idle w) k }

-- a delivery
unfoldable pub delivered_as : Delivery → Worked
delivered_as d = stopped_with d.network (answer_number d.answer)

-- a run
unfoldable pub ran_as : Ran → Worked
ran_as x =
    record { network = x.network; made = x.made; number = ending_number x.ending; ending = x.ending }
