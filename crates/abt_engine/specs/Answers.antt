-- What the work's answer means: each part as the value of the definitions that it stands for. A primed name is the definitions'.
use Rattle.std.specs.Prelude.{◌≡◌}
use Rattle.model_network.specs.Run.{
  Ending as Ending',
  Unsolvable as Unsolvable',
  Plan as Plan',
  Jammed as Jammed',
  Open as Open',
  Broken as Broken',
}
use Rattle.abt_record.specs.Abstract.{network_of}
use Rattle.abt_engine.specs.Refused.{rejected_number}
use Rattle.abt_engine.specs.Working.{Worked}
use Rattle.abt_engine.specs.declared.Ending.{Ending}
use Rattle.abt_engine.specs.declared.Ending.TheVariants.{Unsolvable, Plan, Jammed, Open, Broken}
use Rattle.abt_engine.specs.declared.Answer.{Answer}

unfoldable pub ending_of : Ending → Ending'
ending_of Unsolvable = Unsolvable'
ending_of Plan = Plan'
ending_of Jammed = Jammed'
ending_of Open = Open'
ending_of Broken = Broken'

pub record WorksAs (x : Worked) (answer : Answer) : Type 0 where
  pub network : network_of answer.network ≡ x.network
  pub rounds : answer.rounds ≡ x.made
  pub number : rejected_number answer.rejection ≡ x.number
  pub ending : ending_of answer.ending ≡ x.ending
