-- The agent's record after the run is the definition's.
use Rattle.std.proofs.Common.{◌≡◌, ◌∙◌, arith, length, rules}
use Rattle.bench_entry.proofs.Giving.{counts-given, nobody-given}
use Rattle.bench_entry.proofs.bench_entry_counts.Goals as goal

pub returns-then-agent-lt12 : goal.returns-then-agent-lt12
returns-then-agent-lt12 c =
    let n : length c.run-ran.result.network.agents ≡ 12 = search rules in
    c.all_mixed.ensures
    ∙ counts-given _ _ _ c.run-ran.result (c.rail_of.ensures.rail ∙ c.start.ensures.network) c.run-ran.ensures.runs_as _ _
    (omega (arith, n, c.if-agent-lt12.true)) c.if-agent-lt12.true

pub returns-else-agent-lt12 : goal.returns-else-agent-lt12
returns-else-agent-lt12 c =
    nobody-given _ _ _ c.run-ran.result (c.rail_of.ensures.rail ∙ c.start.ensures.network) c.run-ran.ensures.runs_as _ c.if-agent-lt12.false
