-- Agent by agent, the network is the start as far as they have begun; within one, as far as its Infos are stored.
use Rattle.std.proofs.Common.{◌+◌}
use Rattle.abt_start.proofs.Telling.{Telling}
use Rattle.abt_start.proofs.Turns.{Opening}
use Rattle.abt_start.proofs.start.Given as goal

abbrev pub invariant-loop-k : goal.invariant-loop-k
invariant-loop-k l = Telling (l.at + 1) l.agent.value l.agent.informs l.initial.r l.r l.row l.k-iterator.0

abbrev pub invariant-loop-at : goal.invariant-loop-at
invariant-loop-at l = Opening l.rule (record { count = l.count; domains = l.domains; bans = l.bans }) l.at l.r
