-- `telling` is the step that sends news and does not choose.
use Rattle.abt_agent.proofs.Steps.{steps-quiet}
use Rattle.abt_agent.proofs.State.telling.Goals as goal

pub returns : goal.returns
returns c =
    λ own bans nogoods backs fits long below conflicts_of.
    steps-quiet own bans c.args.self nogoods backs c.args.told fits long below conflicts_of
