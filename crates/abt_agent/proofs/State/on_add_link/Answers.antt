-- `on_add_link` is the rule of a link request.
use Rattle.abt_agent.proofs.Linking.{takes-link}
use Rattle.abt_agent.proofs.State.on_add_link.Goals as goal

pub returns : goal.returns
returns c =
    λ bans nogoods handed.
    takes-link c.args.own bans c.args.self nogoods c.add.result c.add-2.result c.args.from handed c.add.ensures
    c.add-2.ensures
