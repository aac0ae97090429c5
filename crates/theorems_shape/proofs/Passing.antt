-- Which lines are passed over after one more try: those that were, and the line tried if it met a 10.
use Rattle.std.proofs.Common.{◌≡◌, refl, ◌∙◌, true, ◌||◌, ◌&&◌}
use Rattle.model_base.proofs.Tests.{or_right, to_both}
use Rattle.model_base.proofs.Lists.{any_snoc}
use Rattle.model_network.specs.Delivery.{Delivery}
use Rattle.model_network.specs.Run.{Line, is_line, Sweep, is_no_room, passed_by, passed_over, tally}
use Rattle.theorems_shape.proofs.Lines.{is-line}

pub passed-tally : (s : Sweep) (l : Line) (d : Delivery) (k : Line)
    → passed_over (tally s l d) k ≡ passed_over s k || (is_line k.from k.to l && is_no_room d.answer)
unfolding passed_over passed_by tally
passed-tally s l d k = any_snoc (passed_by k) s.tried (record { line = l; answer = d.answer })

pub passed-now : (s : Sweep) (l : Line) (d : Delivery) → is_no_room d.answer ≡ true → passed_over (tally s l d) l ≡ true
passed-now s l d a =
    passed-tally s l d l ∙ or_right (passed_over s l) _ (to_both _ _ (is-line l.from l.to l refl refl) a)
