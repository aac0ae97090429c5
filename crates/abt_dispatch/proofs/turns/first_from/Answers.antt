-- The search from where the walk stands finds what the search from its beginning on finds.
use Rattle.std.proofs.Common.{not, false, ◌≡◌, refl, sym, ap, ◌∙◌}
use Rattle.model_dispatch.specs.Dispatch.{deliverable}
use Rattle.abt_record.specs.declared.Network.{Network}
use Rattle.abt_dispatch.specs.declared.Line.{Line}
use Rattle.abt_dispatch.specs.Abstract.{line_of}
use Rattle.abt_record.specs.Abstract.{network_of}
use Rattle.abt_dispatch.specs.Walking.{ahead_of, last_line}
use Rattle.abt_dispatch.proofs.Searching.{finds, ends, further, over}
use Rattle.abt.proofs.Delivering.{none-number, some-number}
use Rattle.abt_dispatch.proofs.Delivering.{can, cannot, can-apart}
use Rattle.abt_dispatch.proofs.Turning.{found_as, none-as, at-last, not-last, elsewhere}
use Rattle.abt_dispatch.proofs.turns.first_from.Goals as goal
use Rattle.abt_dispatch.proofs.turns.first_from.Goals.{then-waits+else-is_none, else-waits}

-- the line cannot be delivered, so the search goes by it
abbrev Passed : Network → Line → Type 0
Passed r l = deliverable (network_of r) (line_of l) ≡ false

pub returns-then-is_none : goal.returns-then-is_none
unfolding ahead_of
returns-then-is_none c =
    let at = rw c.in-Some.is at c.loop-next.invariant.stands in
    let same = rw c.in-Some.is at c.loop-next.invariant.same in
    let a = c.deliver-answer.ensures.delivers_as in
    let d = can _ _ _ _ a.number (none-number _ (c.is_none.ensures ∙ ap not c.if-is_none.true)) in
    found_as _ _ _ _ (same ∙ finds _ _ _ _ _ at.last (can-apart _ _ _ d) d) a.network

pub returns-then-eq : goal.returns-then-eq
unfolding ahead_of last_line
returns-then-eq c =
    let at = rw c.in-Some.is at c.loop-next.invariant.stands in
    let same = rw c.in-Some.is at c.loop-next.invariant.same in
    let e = at-last _ (λ a b. refl) c.args.last c.in-Some.line (sym c.eq.ensures ∙ c.if-eq.true) in
    let apart = rw e at c.requires.apart in
    let by : Passed c.args.r.now c.in-Some.line = elim c.if-waits.branch [
      | then-waits+else-is_none w ↦ cannot _ _ _ _ w.deliver-answer.ensures.delivers_as.number (some-number _ (w.is_none.ensures ∙ ap not w.if-is_none.false))
      | else-waits w ↦ c.waits.ensures w.if-waits.false
    ] in
    none-as _ _ (same ∙ rw e (ends _ _ _ _ _ at.last refl apart by))

pub loop-next-preserved : goal.loop-next-preserved
unfolding ahead_of
loop-next-preserved c =
    let at = rw c.in-Some.is at c.loop-next.invariant.stands in
    let same = rw c.in-Some.is at c.loop-next.invariant.same in
    let n = not-last _ (λ a b. refl) c.args.last c.in-Some.line (sym c.eq.ensures ∙ c.if-eq.false) in
    let by : Passed c.args.r.now c.in-Some.line = elim c.if-waits.branch [
      | then-waits+else-is_none w ↦ cannot _ _ _ _ w.deliver-answer.ensures.delivers_as.number (some-number _ (w.is_none.ensures ∙ ap not w.if-is_none.false))
      | else-waits w ↦ c.waits.ensures w.if-waits.false
    ] in
    record {
      stands = c.next-next.ensures.stands;
      same = same ∙ further _ _ _ _ _ at.last _ (elsewhere c.args.last c.in-Some.line at.low n) by c.next-next.ensures.same;
    }

pub returns : goal.returns
unfolding ahead_of
returns c = let same = rw c.in_default.is at c.loop-next.invariant.same in none-as _ _ (same ∙ over (network_of c.args.r.now) _ c.args.r.now.count)
