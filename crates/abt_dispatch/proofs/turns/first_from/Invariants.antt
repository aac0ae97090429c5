-- The search from where the walk stands finds what the search from its beginning on finds.
use Rattle.std.proofs.Common.{ℕ, ◌-◌, ◌≡◌, Option, Some, None, IfSome}
use Rattle.model_dispatch.specs.Dispatch.{up_to, first_of}
use Rattle.abt_record.specs.Abstract.{network_of}
use Rattle.abt_dispatch.specs.declared.Line.{Line}
use Rattle.abt_dispatch.specs.Walking.{ahead_of, last_line, Stands, order}
use Rattle.abt_dispatch.proofs.turns.first_from.Given as goal

-- how far the walk has to go; nothing is left where it is over
abbrev pub left : Option Line → ℕ
left None = 0
left (Some l) = 200 - order l

abbrev pub invariant-loop-next : goal.invariant-loop-next
invariant-loop-next l =
    record {
      stands : IfSome l.next (Stands l.r.count);
      same : first_of (network_of l.r) (up_to (last_line l.last) (ahead_of l.r.count l.initial.next))
          ≡ first_of (network_of l.r) (up_to (last_line l.last) (ahead_of l.r.count l.next));
    }

abbrev pub decreases-loop-next : goal.decreases-loop-next
decreases-loop-next l = left l.next
