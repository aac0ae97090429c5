-- The words and the numbers in them; words alone are found as they stand. Assumes nothing.
use Rattle.std.proofs.Common.{arith, length-append}
use Rattle.support_buffer.proofs.Puts.{adds_then}
use Rattle.model_text.specs.Faults.{no_agent, of_agent, no_value, fault_words}
use Rattle.sheet_text_messages.proofs.append_fault.Goals as goal

pub returns-in-NoAgent : goal.returns-in-NoAgent
unfolding fault_words no_agent
returns-in-NoAgent c =
    rw c.in-NoAgent.is
    (record {
      text = adds_then c.put_all-in-NoAgent.ensures c.append_number.ensures.text;
      short = simp length-append (omega (arith, c.append_number.ensures.short));
    })

pub returns-in-NotOwned : goal.returns-in-NotOwned
unfolding fault_words of_agent no_value
returns-in-NotOwned c =
    let agent = c.append_number-in-NotOwned.ensures in
    let value = c.append_number-in-NotOwned-2.ensures in
    rw c.in-NotOwned.is
    (record {
      text = adds_then c.put_all-in-NotOwned.ensures (adds_then agent.text (adds_then c.put_all-in-NotOwned-2.ensures value.text));
      short = simp length-append (omega (arith, agent.short, value.short));
    })
