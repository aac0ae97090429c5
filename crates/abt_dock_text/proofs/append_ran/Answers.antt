-- The word, the rounds and the slots one behind the other. Assumes nothing.
use Rattle.model_base.specs.Decimal.{newline}
use Rattle.support_buffer.proofs.Puts.{adds_then}
use Rattle.abt_dock_text.specs.Text.{verdict, rounds, ran_text, answer_text}
use Rattle.abt_dock_text.proofs.append_ran.Goals as goal

pub returns : goal.returns
unfolding answer_text ran_text verdict rounds newline
returns c =
    adds_then c.put_all.ensures
    (adds_then c.append_ending.ensures.text
    (adds_then c.put_all-2.ensures (adds_then c.append_line.ensures.text c.append_plan.ensures)))
