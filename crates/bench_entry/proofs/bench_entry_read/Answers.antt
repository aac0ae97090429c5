-- Agent by agent, the number so far is the definition's.
use Rattle.std.proofs.Common.{◌≡◌, refl, ◌∙◌, arith, add-one, length, rules}
use Rattle.bench_entry.proofs.Images.{loaded-network, loaded-number, none_read, one-read, all_read}
use Rattle.bench_entry.proofs.Playing.{number-given}
use Rattle.bench_entry.proofs.bench_entry_read.Goals as goal

pub loop-agent-preserved : goal.loop-agent-preserved
loop-agent-preserved c =
    λ r e z. let n : length c.rail_of-network.result.agents ≡ 12 = search rules in
    rw add-one (c.agent_mixed-sum.ensures ∙ one-read r _ _ _ _ e (omega arith) (c.loop-agent.invariant r e z))

pub returns : goal.returns
returns c =
    let r = c.rail_of-network.result in
    let e : c.loop-agent.agent-index ≡ 12 = omega arith in
    rw c.from-4.ensures
    (all_read _ r _ _ (c.number_of.ensures ∙ number-given _ _ c.err.ensures.value ∙ loaded-number _ _ c.load-loaded.ensures) (c.rail_of-network.ensures.rail ∙ loaded-network _ _ c.load-loaded.ensures)
    (rw e at (c.loop-agent.invariant r refl (rw (c.from.ensures, c.from-2.ensures, c.from-3.ensures) (none_read r)))))
