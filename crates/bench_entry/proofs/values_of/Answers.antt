-- Agent by agent, the number so far is the definition's, and fits a word.
use Rattle.std.proofs.Common.{◌≡◌, refl, arith, add-one, length, rules}
use Rattle.abt_record.specs.Abstract.{network_of}
use Rattle.bench_entry.specs.Giving.{values_to}
use Rattle.bench_entry.proofs.Giving.{values-fit, one_value}
use Rattle.bench_entry.proofs.values_of.Goals as goal

pub loop-agent-init : goal.loop-agent-init
unfolding values_to
loop-agent-init c = refl

pub overflow_mul-values : goal.overflow_mul-values
overflow_mul-values c = omega (arith, values-fit c.loop-agent.agent-index (network_of c.args.r) (omega arith), c.loop-agent.invariant)

pub overflow_add-values : goal.overflow_add-values
overflow_add-values c = omega (arith, values-fit c.loop-agent.agent-index (network_of c.args.r) (omega arith), c.loop-agent.invariant, c.from.ensures)

pub loop-agent-preserved : goal.loop-agent-preserved
loop-agent-preserved c =
    let n : length c.args.r.agents ≡ 12 = search rules in
    rw (add-one, c.from.ensures) (one_value c.args.r _ _ _ (omega arith) c.loop-agent.invariant)

pub returns : goal.returns
returns c =
    let e : c.loop-agent.agent-index ≡ 12 = omega arith in
    let all = rw e at c.loop-agent.invariant in
    (all, omega (arith, values-fit 12 (network_of c.args.r) (omega arith), all))
