-- `is_whole` tests how many scanners there are and how long their messages are, together.
use Rattle.std.proofs.Common.{◌+◌, ◌-◌, ◌*◌, ◌/◌, ◌%◌, ◌≡◌, ◌≤◌, sym, ◌∙◌, arith, length, get_or, true≢false, eqb-true, leb-true, leb-false}
use borrow.Author.Tests.{eqb-false}
use Rattle.abt_image_mover.proofs.is_whole.Goals as goal
use Rattle.abt_image_mover.proofs.is_whole.Goals.{then-before-s, else-before-s, then-s-lt808-via-then-s-lt808, then-s-lt808-via-else-s-lt808+then-s-gt12}

pub returns-then-s-lt808 : goal.returns-then-s-lt808
returns-then-s-lt808 c = (
  λ e. absurd (true≢false (sym e)),
  λ e w.
      elim c.then-s-lt808.branch [
        | then-s-lt808-via-then-s-lt808 u ↦ omega (arith, u.if-s-lt808.true, w.long)
        | then-s-lt808-via-else-s-lt808+then-s-gt12 u ↦ omega (arith, u.if-s-gt12.true, w.few)
      ],
)

pub returns-then-s-before-le10560 : goal.returns-then-s-before-le10560
returns-then-s-before-le10560 c =
    let s = c.args.s.now in
    let n = get_or s 1 0 in
    let rest = length s - (808 + 170 * n) in
    let most : (808 + 170 * n ≤ length s) × (rest ≤ 10560) =
    elim c.if-before-s.branch [
      | then-before-s u ↦ (u.if-before-s.true, leb-true _ _ (sym u.value-is ∙ c.if-s-before-le10560.true))
      | else-before-s u ↦ absurd (omega (arith, leb-true _ _ (sym u.value-is ∙ c.if-s-before-le10560.true), u.if-before-s.false))
    ] in (
      λ e. let z : rest % 10 ≡ 0 = eqb-true _ 0 e in record { few = omega arith; waiting = rest / 10; most = omega arith; long = omega arith },
      λ e w. omega (arith, eqb-false (rest % 10) 0 e, w.long),
    )

pub returns-else-s-before-le10560 : goal.returns-else-s-before-le10560
returns-else-s-before-le10560 c = (
  λ e. absurd (true≢false (sym e ∙ c.if-s-before-le10560.false)),
  λ e w.
      elim c.if-before-s.branch [
        | then-before-s u ↦ omega (arith, leb-false _ _ (sym u.value-is ∙ c.if-s-before-le10560.false), w.long, w.most)
        | else-before-s u ↦ omega (arith, u.if-before-s.false, w.long)
      ],
)
