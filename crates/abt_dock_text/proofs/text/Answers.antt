-- What is made of a settlement is the text of its sheet, which tells of its problem. Assumes nothing.
use Rattle.std.proofs.Common.{refl}
use Rattle.support_rejection.proofs.Numbers.{refusal-some}
use Rattle.support_buffer.proofs.Appending.{from-start}
use Rattle.abt_dock_text.specs.Text.{sheet_refused}
use Rattle.abt_dock_text.proofs.Printed.{prints-refused, counted, prints-ran}
use Rattle.abt_dock_text.proofs.Promises.{prints-tells}
use Rattle.abt_dock_text.proofs.text.Goals.{in-Ok, in-Err}
use Rattle.abt_dock_text.proofs.text.Goals as goal

pub append_ran-requires-clause-few : goal.append_ran-requires-clause-few
append_ran-requires-clause-few c = counted _ _ _ c.in-Ok.ensures.settles.ran

pub returns-clause-prints : goal.returns-clause-prints
unfolding sheet_refused
returns-clause-prints c =
    elim c.match-settle.branch [
      | in-Ok w ↦ rw w.next-is (prints-ran _ _ _ _ _ _ w.in-Ok.ensures.settles.number w.in-Ok.ensures.settles.ran (from-start refl w.append_ran.ensures))
      | in-Err w ↦
          rw w.next-is
          (prints-refused _ _ _ _ _ _ w.in-Err.ensures.settles.number (refusal-some _) (from-start refl (rw (w.from.ensures, w.number.ensures) at w.append_line.ensures.text)))
    ]

pub returns-clause-promised : goal.returns-clause-promised
returns-clause-promised c = prints-tells _ _ _ _ (returns-clause-prints c)
