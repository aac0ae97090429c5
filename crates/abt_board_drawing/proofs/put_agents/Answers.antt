-- Scanner by scanner.
use Rattle.std.proofs.Common.{◌≡◌, ℕ, ◌+◌, ◌-◌, List, ◌++◌, min, sym, ap, ◌∙◌, arith, rules}
use Rattle.model_sheet.specs.Problem.{max_agents}
use Rattle.abt_record.specs.Abstract.{problem_of, network_of}
use Rattle.abt_board_drawing.specs.Text.{scanner_blocks}
use Rattle.abt_board_drawing.proofs.Saying.{none-said, one-said, all-said}
use Rattle.abt_board_drawing.proofs.Walks.{above-next, above-none}
use Rattle.abt_board_drawing.proofs.Blocks.{block_of, block-at}
use Rattle.abt_board_drawing.proofs.put_agents.Goals as goal

pub loop-i-init : goal.loop-i-init
unfolding scanner_blocks max_agents network_of problem_of
loop-i-init c = let e : min c.args.r.now.count 12 - 0 ≡ min c.args.r.now.count 12 = omega arith in rw e none-said

pub loop-i-preserved : goal.loop-i-preserved
loop-i-preserved c =
    one-said (block_of (network_of c.args.r.now) (c.loop-i.i + 1)) c.loop-i.invariant (above-next (min c.args.r.now.count 12) c.loop-i.i (block_of (network_of c.args.r.now)) (omega arith))
    (c.in_ok-put_agent.ensures
    ∙ ap (λ (t : List ℕ). c.loop-i.out.items ++ t) (rw c.from.ensures (sym (block-at c.args.r.now c.loop-i.i _ (search rules) (omega arith)))))

pub returns : goal.returns
returns c = all-said c.loop-i.invariant (above-none (min c.args.r.now.count 12) c.loop-i.i (block_of (network_of c.args.r.now)) (omega arith))
