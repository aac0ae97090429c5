-- What the entries' answers mean, by the definitions of a delivery and of a run. A primed name is the definitions'.
use Rattle.std.specs.Prelude.{ℕ, ◌≡◌}
use Rattle.model_network.specs.Delivery.{Delivery, answer_number}
use Rattle.model_network.specs.Run.{Ending as Ending', ending_number, Ran as Ran'}
use Rattle.abt_record.specs.declared.Network.{Network}
use Rattle.abt_record.specs.Abstract.{network_of}
use Rattle.abt_engine.specs.declared.Answer.{Answer}
use Rattle.abt_engine.specs.Working.{delivered_as}
use Rattle.abt_engine.specs.Answers.{ending_of}
use Rattle.abt_engine.specs.Refused.{rejected_number}

-- a delivery on r is answered, by this number and this network, as the definitions' delivery d. A rejected one hands back the very network given, unused
-- places and all.
pub record DeliversAs (r : Network) (d : Delivery) (answered : ℕ) (left : Network) : Type 0 where
  pub network : network_of left ≡ d.network
  pub number : answered ≡ answer_number d.answer
  pub untouched : (answered ≡ 0 → ⊥) → left ≡ r

-- how a delivery leaves the network: the word of a run there that may use no round, `none`, `plan` or `open`; no word where the shape is broken
unfoldable pub standing : Delivery → Ending'
standing d = (delivered_as d).ending

-- a run on r is answered as the definitions' run d. A refused one hands back the very network given.
pub record RunsAs (r : Network) (d : Ran') (answer : Answer) : Type 0 where
  pub network : network_of answer.network ≡ d.network
  pub rounds : answer.rounds ≡ d.made
  pub number : rejected_number answer.rejection ≡ ending_number d.ending
  pub ending : ending_of answer.ending ≡ d.ending
  pub untouched : (rejected_number answer.rejection ≡ 0 → ⊥) → answer.network ≡ r
