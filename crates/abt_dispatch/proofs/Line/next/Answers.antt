-- The lines behind one are those ahead of where the walk goes on.
use Rattle.std.proofs.Common.{ℕ, suc, ◌≤◌, ◌<◌, ◌≡◌, refl, arith, add-one, Some, None}
use Rattle.abt_dispatch.specs.declared.Line.{Line}
use Rattle.abt_dispatch.specs.Walking.{ahead_of, Stands, NextOf}
use Rattle.abt_dispatch.proofs.Ahead.{ahead-row, ahead-end}
use Rattle.abt_dispatch.proofs.Line.next.Goals as goal

receiver : (n k : ℕ) (l : Line) → Stands n l → l.to < n → k ≡ suc l.to → NextOf n l (Some (record { from = l.from; to = k }))
unfolding ahead_of
receiver n k l s h e =
    rw e (record {
      same = refl;
      stands = record { low = s.low; high = s.high; first = omega arith; last = omega arith };
      further = omega arith;
    })

sender : (n k : ℕ) (l : Line) → Stands n l → l.from < n → n ≤ l.to → n ≤ 12 → k ≡ suc l.from → NextOf n l (Some (record { from = k; to = 1 }))
unfolding ahead_of
sender n k l s h last few e =
    let at = s.last in
    rw e (record {
      same = ahead-row n l.from (suc l.to) (omega arith) h;
      stands = record { low = omega arith; high = omega arith; first = omega arith; last = omega arith };
      further = omega arith;
    })

over : (n : ℕ) (l : Line) → n ≤ l.from → n ≤ l.to → NextOf n l None
unfolding ahead_of
over n l h last = record { same = ahead-end n l.from (suc l.to) (omega arith) h; stands = tt; further = tt }

pub returns-then-self-n : goal.returns-then-self-n
returns-then-self-n c = receiver _ _ _ c.requires.0 c.if-self-n.true (add-one _)

pub returns-then-self-n-2 : goal.returns-then-self-n-2
returns-then-self-n-2 c = sender _ _ _ c.requires.0 c.if-self-n-2.true c.if-self-n.false c.requires.1 (add-one _)

pub returns-else-self-n-2 : goal.returns-else-self-n-2
returns-else-self-n-2 c = over _ _ c.if-self-n-2.false c.if-self-n.false
